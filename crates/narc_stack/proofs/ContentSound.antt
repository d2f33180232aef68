-- The data of an IPv4 packet meets the conditions of its rules.
use Rattle.std.proofs.Common.{◌≡◌, ℕ, ◌+◌, ◌*◌, ◌/◌, ◌%◌, ◌<◌, ◌≤◌, Bool, true, false, not, ◌&&◌, List, length, nat_eq, if◌then◌else◌, refl, sym, ap, ◌∙◌, subst, arith, lit<}
use Rattle.std.specs.Borrow.{Bor}
use Rattle.narc_bits.proofs.Numbers.{length-bits}
use Rattle.narc_compose.specs.declared.either.Either.{Either}
use Rattle.narc_compose.specs.declared.either.Either.TheVariants.{Left, Right}
use Rattle.narc_compose.specs.Conditions.{and_right}
use Rattle.narc_compose.specs.Named.{named}
use Rattle.narc_compose.specs.Seq.{seq_tail}
use Rattle.narc_compose.specs.Strip.{stripped}
use Rattle.narc_compose.specs.Union.{united, Side, Sides, side_spelling}
use Rattle.narc_list.specs.Bytes.{all_octets}
use Rattle.narc_list.specs.Region.{region}
use Rattle.narc_sum.specs.Checked.{checked_tail}
use Rattle.narc_packet.specs.PacketView.{ip_body_view, UdpBody, TcpBody, RawBody}
use Rattle.narc_packet.specs.declared.packet.IpBody.{IpBody}
use Rattle.narc_packet.specs.declared.packet.Udp.{Udp}
use Rattle.narc_transport.specs.declared.as_tcp.TcpWithOffset.{TcpWithOffset}
use Rattle.narc_transport.specs.declared.context.Ends.{Ends}
use Rattle.narc_transport.specs.Context.{IsThere}
use Rattle.narc_transport.specs.Parts.{udp_part, tcp_part}
use Rattle.narc_transport.proofs.UdpSound.{udp_sound, udp_fills}
use Rattle.narc_transport.proofs.UdpChosen.{udp_chosen}
use Rattle.narc_transport.proofs.TcpSound.{tcp_sound, tcp_fills}
use Rattle.narc_transport.proofs.TcpChosen.{tcp_chosen, tcp_filled, with_offset}
use Rattle.narc_stack.specs.declared.content.ContentContext.{ContentContext}
use Rattle.narc_stack.specs.Content.{RawContent, IsContentContext, tcp_or_raw, ip_content}
use Rattle.narc_stack.specs.Ipv4.{body_of, protocol_of, octets_of, raw_content}

udp_part_sound : udp_part.sound
unfolding udp_part
udp_part_sound = udp_sound

tcp_part_sound : tcp_part.sound
unfolding tcp_part
tcp_part_sound = tcp_sound

udp_part_valid : (c : Ends × ℕ) → IsThere c → udp_part.valid c
unfolding udp_part stripped seq_tail
udp_part_valid c ok = ok

tcp_part_valid : (c : Ends × ℕ) → IsThere c → tcp_part.valid c
unfolding tcp_part stripped named checked_tail seq_tail
tcp_part_valid c ok = ok

udp_part_fills : (c : Ends × ℕ) → IsThere c → (v : Udp) (b : List Bool) → udp_part.stands c v b → length (udp_part.spelling c v) ≡ 8 * c.1
unfolding udp_part
udp_part_fills c ok v b p = udp_fills c ok v b p

tcp_part_fills : (c : Ends × ℕ) → IsThere c → (v : TcpWithOffset) (b : List Bool) → tcp_part.stands c v b → length (tcp_part.spelling c v) ≡ length b
unfolding tcp_part
tcp_part_fills c ok v b p = tcp_fills c ok v b p

tcp_picked : (c : ContentContext) → IsContentContext c → (t : Bool) → Side tcp_part.valid all_octets.valid (if t then Left (c.ends, c.octets) else Right tt)
unfolding all_octets
tcp_picked c ok true = tcp_part_valid (c.ends, c.octets) (ok.0, ok.2)
tcp_picked c ok false = tt

tcp_or_raw_sound : tcp_or_raw.sound
unfolding united all_octets
tcp_or_raw_sound = record { left_sound = tcp_part_sound; right_sound = tt; picked = λ c ok. tcp_picked c ok (nat_eq c.protocol 6 && not c.fragment) }

udp_picked : (c : ContentContext) → IsContentContext c → (t : Bool) → Side udp_part.valid tcp_or_raw.valid (if t then Left (c.ends, c.octets) else Right c)
unfolding united
udp_picked c ok true = udp_part_valid (c.ends, c.octets) (ok.0, ok.2)
udp_picked c ok false = ok

pub content_sound : ip_content.sound
unfolding united
content_sound = record { left_sound = udp_part_sound; right_sound = tcp_or_raw_sound; picked = λ c ok. udp_picked c ok (nat_eq c.protocol 17 && not c.fragment) }

-- what fills a region is written as what fills it
tcp_side : (c : ContentContext) → IsContentContext c → (t : Bool) (v : Either TcpWithOffset (Bor (List ℕ))) (b : List Bool) → length b ≡ 8 * c.octets
    → Sides (λ a x. tcp_part.stands a x b) (λ z y. all_octets.stands z y b) (if t then Left (c.ends, c.octets) else Right tt) v
    → length (side_spelling tcp_part.spelling all_octets.spelling (if t then Left (c.ends, c.octets) else Right tt) v) ≡ 8 * c.octets
unfolding all_octets
tcp_side c ok true (Left s) b size p = tcp_part_fills (c.ends, c.octets) (ok.0, ok.2) s b p ∙ size
tcp_side c ok true (Right l) b size p = absurd p
tcp_side c ok false (Left s) b size p = absurd p
tcp_side c ok false (Right l) b size p = ap length (sym p.1) ∙ size

udp_side : (c : ContentContext) → IsContentContext c → (t : Bool) (v : RawContent) (b : List Bool) → length b ≡ 8 * c.octets
    → Sides (λ a x. udp_part.stands a x b) (λ z y. tcp_or_raw.stands z y b) (if t then Left (c.ends, c.octets) else Right c) v
    → length (side_spelling udp_part.spelling tcp_or_raw.spelling (if t then Left (c.ends, c.octets) else Right c) v) ≡ 8 * c.octets
unfolding united
udp_side c ok true (Left u) b size p = udp_part_fills (c.ends, c.octets) (ok.0, ok.2) u b p
udp_side c ok true (Right l) b size p = absurd p
udp_side c ok false (Left u) b size p = absurd p
udp_side c ok false (Right l) b size p = tcp_side c ok (nat_eq c.protocol 6 && not c.fragment) l b size p

pub content_region_sound : (region (λ (c : ContentContext). c.octets) ip_content).sound
unfolding region united
content_region_sound = record {
  part_sound = content_sound;
  fills = λ c ok v b size p. udp_side c ok (nat_eq c.protocol 17 && not c.fragment) v b size p;
}

-- data that is the same is seen as the same
tcp_or_raw_same : (protocol : ℕ) (v w : Either TcpWithOffset (Bor (List ℕ))) → tcp_or_raw.alike v w → ip_body_view (body_of protocol (Right v)) ≡ ip_body_view (body_of protocol (Right w))
unfolding united tcp_part stripped all_octets
tcp_or_raw_same protocol (Left s) (Left t) h = ap TcpBody h.1
tcp_or_raw_same protocol (Left s) (Right l) h = absurd h
tcp_or_raw_same protocol (Right l) (Left s) h = absurd h
tcp_or_raw_same protocol (Right l) (Right k) h = ap (RawBody protocol) h

pub same_body : (protocol : ℕ) (v w : RawContent) → ip_content.alike v w → ip_body_view (body_of protocol v) ≡ ip_body_view (body_of protocol w)
unfolding united udp_part stripped
same_body protocol (Left u) (Left x) h = ap UdpBody h
same_body protocol (Left u) (Right x) h = absurd h
same_body protocol (Right v) (Left x) h = absurd h
same_body protocol (Right v) (Right w) h = tcp_or_raw_same protocol v w h

-- the data for this protocol in so many octets
abbrev pub content_with : ContentContext → (protocol octets : ℕ) → ContentContext
content_with c protocol octets = record c { protocol = protocol; octets = octets }

udp_takes : (a : Ends × ℕ) (c : ContentContext) (t : Bool) → t ≡ true → (u : Udp) → udp_part.admits a u → length (udp_part.spelling a u) ≡ 8 * a.1
    → Sides udp_part.admits tcp_or_raw.admits (if t then Left a else Right c) (Left u) × (length (side_spelling udp_part.spelling tcp_or_raw.spelling (if t then Left a else Right c) (Left u)) ≡ 8 * a.1)
udp_takes a c true e u h k = (h, k)
udp_takes a c false e u h k = cc

tcp_takes : (a : Ends × ℕ) (t : Bool) → t ≡ true → (s : TcpWithOffset) → tcp_part.admits a s → length (tcp_part.spelling a s) ≡ 8 * a.1
    → Sides tcp_part.admits all_octets.admits (if t then Left a else Right tt) (Left s) × (length (side_spelling tcp_part.spelling all_octets.spelling (if t then Left a else Right tt) (Left s)) ≡ 8 * a.1)
tcp_takes a true e s h k = (h, k)
tcp_takes a false e s h k = cc

raw_takes : (a : Ends × ℕ) (t : Bool) → t ≡ false → (l : Bor (List ℕ)) → all_octets.admits tt l
    → Sides tcp_part.admits all_octets.admits (if t then Left a else Right tt) (Right l) × (length (side_spelling tcp_part.spelling all_octets.spelling (if t then Left a else Right tt) (Right l)) ≡ 8 * length l.now)
unfolding all_octets
raw_takes a true e l h = cc
raw_takes a false e l h = (h, length-bits l.now)

not_udp : (a : Ends × ℕ) (c : ContentContext) (t : Bool) → t ≡ false → (v : Either TcpWithOffset (Bor (List ℕ))) (n : ℕ) → tcp_or_raw.admits c v → length (tcp_or_raw.spelling c v) ≡ n
    → Sides udp_part.admits tcp_or_raw.admits (if t then Left a else Right c) (Right v) × (length (side_spelling udp_part.spelling tcp_or_raw.spelling (if t then Left a else Right c) (Right v)) ≡ n)
not_udp a c true e v n h k = cc
not_udp a c false e v n h k = (h, k)

udp_part_chosen : (c : Ends × ℕ) → IsThere c → (u : Udp) → udp_part.admits c u
    → (8 + length u.payload.now ≤ c.1) × udp_part.admits (c.0, 8 + length u.payload.now) u × (length (udp_part.spelling (c.0, 8 + length u.payload.now) u) ≡ 8 * (8 + length u.payload.now))
unfolding udp_part
udp_part_chosen c ok u a = let k = udp_chosen c ok u a in (k.most, k.admitted, k.size)

-- a segment with the shortest area, and how many octets it had
tcp_part_chosen : (c : Ends × ℕ) → IsThere c → c.1 ≤ 65535 → (s : TcpWithOffset) → tcp_part.admits c s → length (tcp_part.spelling c s) ≡ 8 * c.1
    → let k = (length (s.tcp.options.spelled.now) + 3) / 4 in
    let n = 4 * (5 + k) + length s.tcp.payload.now in
    (n ≤ c.1) × (k ≤ 10) × tcp_part.admits (c.0, n) (with_offset (5 + k) s) × (length (tcp_part.spelling (c.0, n) (with_offset (5 + k) s)) ≡ 8 * n)
unfolding tcp_part
tcp_part_chosen c ok short s a size =
    let k = (length (s.tcp.options.spelled.now) + 3) / 4 in
    let f = tcp_filled c ok s a in
    let few : k ≤ 10 = omega (arith, f.most) in
    let most : 4 * (5 + k) + length s.tcp.payload.now ≤ c.1 = omega (arith, f.size, f.fits, size) in
    let t = tcp_chosen c ok s a k (omega arith) few (omega (arith, most, short)) in
    (most, few, t.admitted, t.size)

-- what is known of the data that is written
pub record IsChosenContent (c : ContentContext) (body : IpBody) : Type 0 where
  pub most : octets_of body ≤ c.octets
  pub known : protocol_of body < 256
  pub admitted : ip_content.admits (content_with c (protocol_of body) (octets_of body)) (raw_content body)
  pub size : length (ip_content.spelling (content_with c (protocol_of body) (octets_of body)) (raw_content body)) ≡ 8 * octets_of body

tcp_body_chosen : (c : ContentContext) → IsContentContext c → c.octets ≤ 65535 → (t : Bool) → (nat_eq c.protocol 6 && not c.fragment) ≡ t → (nat_eq c.protocol 17 && not c.fragment) ≡ false
    → (v : Either TcpWithOffset (Bor (List ℕ)))
    → Sides tcp_part.admits all_octets.admits (if t then Left (c.ends, c.octets) else Right tt) v
    → length (side_spelling tcp_part.spelling all_octets.spelling (if t then Left (c.ends, c.octets) else Right tt) v) ≡ 8 * c.octets
    → IsChosenContent c (body_of c.protocol (Right v))
unfolding united all_octets
tcp_body_chosen c ok short true e other (Left s) a size =
    let k = (length (s.tcp.options.spelled.now) + 3) / 4 in
    let t = tcp_part_chosen (c.ends, c.octets) (ok.0, ok.2) short s a size in
    let few = t.1 in
    let whole = and_right (nat_eq c.protocol 6) (not c.fragment) e in
    let words : (5 + k) % 256 ≡ 5 + k = omega (arith, few) in
    let n = 4 * (5 + k) + length s.tcp.payload.now in
    let r = tcp_takes (c.ends, n) (not c.fragment) whole (with_offset (5 + k) s) t.2 t.3 in
    let q = subst (λ o. Sides tcp_part.admits all_octets.admits (if not c.fragment then Left (c.ends, n) else Right tt) (Left (with_offset o s)) × (length (side_spelling tcp_part.spelling all_octets.spelling (if not c.fragment then Left (c.ends, n) else Right tt) (Left (with_offset o s))) ≡ 8 * n)) (sym words) r in
    record { most = t.0; known = lit< tt; admitted = q.0; size = q.1 }
tcp_body_chosen c ok short true e other (Right l) a size = absurd a
tcp_body_chosen c ok short false e other (Left s) a size = absurd a
tcp_body_chosen c ok short false e other (Right l) a size =
    let r = raw_takes (c.ends, length l.now) (nat_eq c.protocol 6 && not c.fragment) e l a in
    let q = not_udp (c.ends, length l.now) (content_with c c.protocol (length l.now)) (nat_eq c.protocol 17 && not c.fragment) other (Right l) (8 * length l.now) r.0 r.1 in
    record { most = omega (arith, size, length-bits l.now); known = ok.1; admitted = q.0; size = q.1 }

udp_body_chosen : (c : ContentContext) → IsContentContext c → c.octets ≤ 65535 → (t : Bool) → (nat_eq c.protocol 17 && not c.fragment) ≡ t
    → (v : RawContent)
    → Sides udp_part.admits tcp_or_raw.admits (if t then Left (c.ends, c.octets) else Right c) v
    → length (side_spelling udp_part.spelling tcp_or_raw.spelling (if t then Left (c.ends, c.octets) else Right c) v) ≡ 8 * c.octets
    → IsChosenContent c (body_of c.protocol v)
unfolding united
udp_body_chosen c ok short true e (Left u) a size =
    let k = udp_part_chosen (c.ends, c.octets) (ok.0, ok.2) u a in
    let whole = and_right (nat_eq c.protocol 17) (not c.fragment) e in
    let n = 8 + length u.payload.now in
    let r = udp_takes (c.ends, n) (content_with c 17 n) (not c.fragment) whole u k.1 k.2 in
    record { most = k.0; known = lit< tt; admitted = r.0; size = r.1 }
udp_body_chosen c ok short true e (Right v) a size = absurd a
udp_body_chosen c ok short false e (Left u) a size = absurd a
udp_body_chosen c ok short false e (Right v) a size = tcp_body_chosen c ok short (nat_eq c.protocol 6 && not c.fragment) refl e v a size

-- data that can be written in some region can be in the one that is chosen
pub content_chosen : (c : ContentContext) → IsContentContext c → c.octets ≤ 65535 → (v : RawContent) → (region (λ (c : ContentContext). c.octets) ip_content).admits c v → IsChosenContent c (body_of c.protocol v)
unfolding region united
content_chosen c ok short v a = udp_body_chosen c ok short (nat_eq c.protocol 17 && not c.fragment) refl v a.admitted a.filled
