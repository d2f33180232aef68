-- The octets and the rows of an IPv4 packet's data, from those of datagrams and segments.
use Rattle.std.proofs.Common.{◌≡◌, ℕ, ◌+◌, ◌/◌, ◌<◌, ◌≤◌, Bool, true, false, not, ◌&&◌, ◌||◌, List, [], ◌++◌, length, nat_eq, if◌then◌else◌, IsTrue, IsFalse, refl, sym, ap, ◌∙◌, subst, arith}
use Rattle.std.proofs.lemmas.Bool.{eqb-true, eq-eqb}
use Rattle.std.specs.Borrow.{Bor}
use Rattle.narc_bits.specs.Octets.{IsOctets}
use Rattle.narc_format.specs.Rows.{Row, first_failing}
use Rattle.narc_compose.specs.Conditions.{and_left}
use Rattle.narc_compose.specs.declared.either.Either.{Either}
use Rattle.narc_compose.specs.declared.either.Either.TheVariants.{Left, Right}
use Rattle.narc_compose.specs.Union.{Sides}
use Rattle.narc_packet.specs.Ipv4.{MayHaveBody, IsIpBody}
use Rattle.narc_packet.specs.Refusal.{udp_rows, tcp_rows}
use Rattle.narc_packet.specs.WellFormed.{SpellsIpBody}
use Rattle.narc_packet.specs.PacketView.{ip_body_view}
use Rattle.narc_packet.specs.declared.packet.IpBody.{IpBody}
use Rattle.narc_packet.specs.declared.packet.IpBody.TheVariants as ip_body
use Rattle.narc_layout.proofs.ReadLayout.{IsTailRead}
use Rattle.narc_layout.proofs.UnionRead.{member_rows, left_side, right_side, united_read}
use Rattle.narc_layout.proofs.ViewReads.{all_octets_read}
use Rattle.narc_transport.specs.Context.{IsEnds}
use Rattle.narc_transport.specs.declared.as_tcp.TcpWithOffset.{TcpWithOffset}
use Rattle.narc_transport.specs.declared.context.Ends.{Ends}
use Rattle.narc_stack.specs.declared.content.ContentContext.{ContentContext}
use Rattle.narc_stack.specs.Content.{RawContent, IsContentContext, by_udp, by_tcp, tcp_or_raw, ip_content}
use Rattle.narc_stack.specs.Ipv4.{body_of, protocol_of}
use Rattle.narc_transport.specs.Parts.{udp_part, tcp_part}
use Rattle.narc_transport.specs.Segment.{IsSegment}
use Rattle.narc_transport.proofs.TcpRead as tcp
use Rattle.narc_transport.proofs.TcpRead.{IsTcpRead, tcp_read}
use Rattle.narc_transport.proofs.TcpOctets.{tcp_octets_are}
use Rattle.narc_transport.proofs.TcpRows.{tcp_rows_are}
use Rattle.narc_transport.proofs.UdpRead as udp
use Rattle.narc_transport.proofs.UdpRead.{IsUdpRead, udp_read}
use Rattle.narc_transport.proofs.UdpOctets.{udp_octets_are}
use Rattle.narc_transport.proofs.UdpRows.{udp_rows_are}

abbrev udp_read_rows : Ends × ℕ → (start : ℕ) → List ℕ → List Row
udp_read_rows c start x = udp.summed_rows c start x ++ []

udp_part_read : IsTailRead udp_part IsUdpRead udp_read_rows
unfolding udp_part
udp_part_read = udp_read

tcp_part_read : IsTailRead tcp_part IsTcpRead tcp.summed_rows
unfolding tcp_part
tcp_part_read = tcp_read

abbrev unread : Unit {0} → (start : ℕ) → List ℕ → List Row
unread c start x = []

abbrev tcp_or_raw_rows : ContentContext → (start : ℕ) → List ℕ → List Row
tcp_or_raw_rows c start x = member_rows tcp.summed_rows unread (by_tcp c) start x

abbrev pub content_read_rows : ContentContext → (start : ℕ) → List ℕ → List Row
content_read_rows c start x = member_rows udp_read_rows tcp_or_raw_rows (by_udp c) start x

abbrev IsTcpOrRaw : ContentContext → Either TcpWithOffset (Bor (List ℕ)) → List ℕ → Type 0
IsTcpOrRaw c v o = Sides (λ a s. IsTcpRead a s o) (λ z l. o ≡ l.now) (by_tcp c) v

abbrev pub IsContentRead : ContentContext → RawContent → List ℕ → Type 0
IsContentRead c v o = Sides (λ a u. IsUdpRead a u o) (λ d w. IsTcpOrRaw d w o) (by_udp c) v

tcp_or_raw_read : IsTailRead tcp_or_raw IsTcpOrRaw tcp_or_raw_rows
tcp_or_raw_read = united_read by_tcp IsContentContext tcp_part_read all_octets_read

pub content_read : IsTailRead ip_content IsContentRead content_read_rows
content_read = united_read by_udp IsContentContext udp_part_read tcp_or_raw_read

-- data in as many octets as the context says
pub record IsHere (c : ContentContext) (d : List ℕ) : Type 0 where
  pub ends : IsEnds c.ends
  pub protocol : c.protocol < 256
  pub each : IsOctets d
  pub size : length d ≡ c.octets
  pub short : c.octets ≤ 65535

-- the rows that judge the data
abbrev pub data_rows : ContentContext → (start : ℕ) → List ℕ → List Row
data_rows c start d =
    if c.fragment then []
    else if nat_eq c.protocol 17 then udp_rows c.ends.src c.ends.dst d start
    else if nat_eq c.protocol 6 then tcp_rows c.ends.src c.ends.dst d start
    else []

module _ (c : ContentContext) (d : List ℕ) (h : IsHere c d) (start : ℕ) where
  tcp_or_none : (fragment is_tcp : Bool) → first_failing (member_rows tcp.summed_rows unread (if is_tcp && not fragment then Left (c.ends, c.octets) else Right tt) start d) ≡ first_failing (if fragment then [] else if is_tcp then tcp_rows c.ends.src c.ends.dst d start else [])
  tcp_or_none true true = refl
  tcp_or_none true false = refl
  tcp_or_none false true = ap (λ n. first_failing (tcp.summed_rows (c.ends, n) start d)) (sym h.size) ∙ tcp_rows_are c.ends h.ends start d h.each (omega (arith, h.size, h.short))
  tcp_or_none false false = refl

  udp_or_others : (fragment is_udp : Bool) (rows : List Row) → first_failing (tcp_or_raw_rows c start d) ≡ first_failing (if fragment then [] else rows)
      → first_failing (member_rows udp_read_rows tcp_or_raw_rows (if is_udp && not fragment then Left (c.ends, c.octets) else Right c) start d) ≡ first_failing (if fragment then [] else if is_udp then udp_rows c.ends.src c.ends.dst d start else rows)
  udp_or_others true true rows e = e
  udp_or_others true false rows e = e
  udp_or_others false true rows e = ap (λ n. first_failing (udp_read_rows (c.ends, n) start d)) (sym h.size) ∙ udp_rows_are c.ends h.ends start d h.each
  udp_or_others false false rows e = e

  pub content_rows_are : first_failing (content_read_rows c start d) ≡ first_failing (data_rows c start d)
  content_rows_are = udp_or_others c.fragment (nat_eq c.protocol 17) _ (tcp_or_none c.fragment (nat_eq c.protocol 6))

-- the data is of this kind, and its octets are these
pub record IsData (c : ContentContext) (b : IpBody) (d : List ℕ) : Type 0 where
  pub protocol : protocol_of b ≡ c.protocol
  pub may_have_body : MayHaveBody c.fragment (ip_body_view b)
  pub body : IsIpBody c.ends.src c.ends.dst (ip_body_view b) d
  pub spelled : SpellsIpBody b

is_whole : (fragment is_this : Bool) → (is_this && not fragment) ≡ true → IsFalse fragment
is_whole true true e = cc
is_whole true false e = cc
is_whole false t e = refl

-- data that is kept unread is of a fragment, or of another protocol
unread_data : (fragment is_tcp is_udp : Bool) → (is_tcp && not fragment) ≡ false → (is_udp && not fragment) ≡ false → IsTrue (fragment || not (is_tcp || is_udp))
unread_data true is_tcp is_udp e k = refl
unread_data false true is_udp e k = cc
unread_data false false true e k = cc
unread_data false false false e k = refl

pub taken : (n protocol : ℕ) (fragment : Bool) → n ≡ protocol → IsFalse fragment → (nat_eq protocol n && not fragment) ≡ true
taken n protocol true e whole = cc
taken n protocol false e whole = ap (λ t. t && true) (eq-eqb protocol n (sym e))

pub not_taken : (fragment is_tcp is_udp : Bool) → IsTrue (fragment || not (is_tcp || is_udp)) → ((is_tcp && not fragment) ≡ false) × ((is_udp && not fragment) ≡ false)
not_taken true true true h = (refl, refl)
not_taken true true false h = (refl, refl)
not_taken true false true h = (refl, refl)
not_taken true false false h = (refl, refl)
not_taken false true is_udp h = cc
not_taken false false true h = cc
not_taken false false false h = (refl, refl)

module _ (c : ContentContext) (d : List ℕ) (h : IsHere c d) where
  tcp_or_raw_data : (t : Bool) → (nat_eq c.protocol 6 && not c.fragment) ≡ t → (nat_eq c.protocol 17 && not c.fragment) ≡ false → (v : Either TcpWithOffset (Bor (List ℕ)))
      → Sides {A = Ends × ℕ} {B = Unit {0}} (λ a s. IsTcpRead a s d) (λ z l. d ≡ l.now) (if t then Left (c.ends, c.octets) else Right tt) v → IsData c (body_of c.protocol (Right v)) d
  tcp_or_raw_data true e other (Left s) p =
      let k = (tcp_octets_are c.ends h.ends s d h.each).0 (subst (λ n. IsTcpRead (c.ends, n) s d) (sym h.size) p) in
      record { protocol = sym (eqb-true c.protocol 6 (and_left (nat_eq c.protocol 6) (not c.fragment) e)); may_have_body = is_whole c.fragment (nat_eq c.protocol 6) e; body = k.segment; spelled = k.spelled }
  tcp_or_raw_data true e other (Right l) p = absurd p
  tcp_or_raw_data false e other (Left s) p = absurd p
  tcp_or_raw_data false e other (Right l) p =
      record { protocol = refl; may_have_body = unread_data c.fragment (nat_eq c.protocol 6) (nat_eq c.protocol 17) e other; body = (h.protocol, p, h.each); spelled = tt }

  udp_data : (t : Bool) → (nat_eq c.protocol 17 && not c.fragment) ≡ t → (v : RawContent)
      → Sides (λ a u. IsUdpRead a u d) (λ z w. IsTcpOrRaw z w d) (if t then Left (c.ends, c.octets) else Right c) v → IsData c (body_of c.protocol v) d
  udp_data true e (Left u) p = record {
    protocol = sym (eqb-true c.protocol 17 (and_left (nat_eq c.protocol 17) (not c.fragment) e));
    may_have_body = is_whole c.fragment (nat_eq c.protocol 17) e;
    body = (udp_octets_are c.ends h.ends u d h.each).0 (subst (λ n. IsUdpRead (c.ends, n) u d) (sym h.size) p);
    spelled = tt;
  }
  udp_data true e (Right v) p = absurd p
  udp_data false e (Left u) p = absurd p
  udp_data false e (Right v) p = tcp_or_raw_data (nat_eq c.protocol 6 && not c.fragment) refl e v p

  pub data_of_content : (v : RawContent) → IsContentRead c v d → IsData c (body_of c.protocol v) d
  data_of_content v p = udp_data (nat_eq c.protocol 17 && not c.fragment) refl v p

  -- and back
  pub record HasContent (b : IpBody) : Type 0 where
    pub value : RawContent
    pub is : IsContentRead c value d
    pub back : body_of c.protocol value ≡ b

  pub content_of_data : (b : IpBody) → IsData c b d → HasContent b
  content_of_data (ip_body.Udp u) k = record {
    value = Left u;
    is = left_side (λ a u. IsUdpRead a u d) (λ z w. IsTcpOrRaw z w d) (c.ends, c.octets) c (nat_eq c.protocol 17 && not c.fragment) (taken 17 c.protocol c.fragment k.protocol k.may_have_body) u (subst (λ n. IsUdpRead (c.ends, n) u d) h.size ((udp_octets_are c.ends h.ends u d h.each).1 k.body));
    back = refl;
  }
  content_of_data (ip_body.Tcp t) k =
      let segment = k.body in
      let words = segment.options.whole_words in
      let s : TcpWithOffset = record { offset = (20 + length segment.area) / 4; tcp = t } in
      let is : IsSegment c.ends.src c.ends.dst s d = record { segment = segment; header = omega (arith, words); spelled = k.spelled } in
      let read = subst (λ n. IsTcpRead (c.ends, n) s d) h.size ((tcp_octets_are c.ends h.ends s d h.each).1 is) in
      record {
        value = Right (Left s);
        is = right_side (λ a u. IsUdpRead a u d) (λ z w. IsTcpOrRaw z w d) (c.ends, c.octets) c (nat_eq c.protocol 17 && not c.fragment) (ap (λ n. nat_eq n 17 && not c.fragment) (sym k.protocol)) (Left s)
            (left_side (λ a s. IsTcpRead a s d) (λ z l. d ≡ l.now) (c.ends, c.octets) tt (nat_eq c.protocol 6 && not c.fragment) (taken 6 c.protocol c.fragment k.protocol k.may_have_body) s read);
        back = refl;
      }
  content_of_data (ip_body.Raw protocol payload) k =
      let may = ap (λ n. c.fragment || not (nat_eq n 6 || nat_eq n 17)) (sym k.protocol) ∙ k.may_have_body in
      let none = not_taken c.fragment (nat_eq c.protocol 6) (nat_eq c.protocol 17) may in
      record {
        value = Right (Right payload);
        is = right_side (λ a u. IsUdpRead a u d) (λ z w. IsTcpOrRaw z w d) (c.ends, c.octets) c (nat_eq c.protocol 17 && not c.fragment) none.1 (Right payload) (right_side (λ a s. IsTcpRead a s d) (λ z l. d ≡ l.now) (c.ends, c.octets) tt (nat_eq c.protocol 6 && not c.fragment) none.0 payload k.body.1);
        back = ap (λ n. ip_body.Raw n payload) (sym k.protocol);
      }
