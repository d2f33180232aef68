-- The octets that are read as a frame are just those that are a frame of the packet, and the first row that fails refuses others.
use Rattle.std.proofs.Common.{◌≡◌, ◌≢◌, ℕ, ◌^◌, ◌<◌, ◌↔◌, Bool, true, false, List, ◌++◌, nat_eq, if◌then◌else◌, refl, sym, ap, ◌∙◌, subst, append_assoc, lit<}
use Rattle.std.specs.Borrow.{Bor}
use Rattle.std.proofs.Math.Nat.{mod-eq_of_lt}
use Rattle.std.proofs.lemmas.Bool.{eqb-true, eqb-false, ne_eqb}
use Rattle.narc_bits.specs.Octets.{IsOctets, big_endian}
use Rattle.narc_bits.specs.Bits.{bits}
use Rattle.narc_bits.proofs.Octets.{IsOctets-back}
use Rattle.narc_format.specs.declared.fault.Fault.{Fault}
use Rattle.narc_compose.specs.declared.either.Either.{Either}
use Rattle.narc_compose.specs.declared.either.Either.TheVariants.{Left, Right}
use Rattle.narc_compose.specs.Union.{Sides}
use Rattle.narc_packet.specs.Frame.{IsFrame, IsEthBody, ether_type_of, arp_type, ipv4_type}
use Rattle.narc_packet.specs.WellFormed.{SpellsEthBody, SpellsOptions}
use Rattle.narc_packet.specs.PacketView.{eth_body_view, view}
use Rattle.narc_packet.specs.Refusal.{rows_for}
use Rattle.narc_packet.specs.declared.packet.EthBody.{EthBody}
use Rattle.narc_packet.specs.declared.packet.EthBody.TheVariants as eth_body
use Rattle.narc_packet.specs.declared.packet.Ipv4.{Ipv4}
use Rattle.narc_packet.specs.declared.packet.Packet.{Packet}
use Rattle.narc_eth.specs.EthernetHeader.{Header, header_octets}
use Rattle.narc_layout.specs.FirstFault.{IsFirstFault}
use Rattle.narc_layout.proofs.SameRows.{refused_by, stands_as}
use Rattle.narc_layout.proofs.UnionRead.{right_side}
use Rattle.narc_stack.specs.RawFrame.{RawBody, RawFrame, body_of, type_of, raw_body, packet_of, raw_frame}
use Rattle.narc_stack.specs.WholeFrame.{whole_frame}
use Rattle.narc_stack.proofs.Ipv4Read.{IsIpv4Read}
use Rattle.narc_stack.proofs.Ipv4Relation.{ipv4_is}
use Rattle.narc_stack.proofs.FrameRead.{IsPaddedArp, IsIpv4OrOther, IsBodyRead, IsRawRead, IsFrameRead, frame_read, frame_rows_are}

-- a body of this type, and its octets
record IsBodyOf (t : ℕ) (b : EthBody) (x : List ℕ) : Type 0 where
  pub kind : ether_type_of (eth_body_view b) ≡ t
  pub is : IsEthBody (eth_body_view b) x
  pub spelled : SpellsEthBody b

module _ (t : ℕ) (small : t < 2 ^ 16) (x : List ℕ) (each : IsOctets x) where
  other_seen : (is_ipv4 : Bool) → nat_eq t ipv4_type ≡ is_ipv4 → t ≢ arp_type → (v : Either Ipv4 (Bor (List ℕ)))
      → Sides {A = Unit {0}} {B = Unit {0}} (λ c p. IsIpv4Read c p x) (λ z l. x ≡ l.now) (if is_ipv4 then Left tt else Right tt) v → IsBodyOf t (body_of t (Right v)) x
  other_seen true e no_arp (Left p) r =
      let k = (ipv4_is p x each).0 r in
      record { kind = sym (eqb-true t ipv4_type e); is = (k.octets, k.pad, k.is, k.joined); spelled = k.spelled }
  other_seen true e no_arp (Right l) r = absurd r
  other_seen false e no_arp (Left p) r = absurd r
  other_seen false e no_arp (Right l) r =
      let same = mod-eq_of_lt small in
      let back = sym same in
      record {
        kind = same;
        is = (subst (λ n. n < 2 ^ 16) back small, subst (λ n. n ≢ arp_type) back no_arp, subst (λ n. n ≢ ipv4_type) back (eqb-false t ipv4_type e), r);
        spelled = tt;
      }

  body_seen : (is_arp : Bool) → nat_eq t arp_type ≡ is_arp → (v : RawBody)
      → Sides {A = Unit {0}} {B = ℕ} (λ c a. IsPaddedArp a x) (λ z w. IsIpv4OrOther z w x) (if is_arp then Left tt else Right t) v → IsBodyOf t (body_of t v) x
  body_seen true e (Left a) r = record {
    kind = sym (eqb-true t arp_type e);
    is = (r.first.0, r.back, r.joined ∙ ap (λ l. l ++ r.back) r.first.1);
    spelled = tt;
  }
  body_seen true e (Right v) r = absurd r
  body_seen false e (Left a) r = absurd r
  body_seen false e (Right v) r = other_seen (nat_eq t ipv4_type) refl (eqb-false t arp_type e) v r

  body_is : (v : RawBody) → IsBodyRead t v x → IsBodyOf t (body_of t v) x
  body_is v r = body_seen (nat_eq t arp_type) refl v r

-- the layout of a frame
joined_frame : (h : Header) (x : List ℕ) → header_octets h ++ x ≡ h.0 ++ h.1.0 ++ big_endian 2 h.1.1 ++ x
joined_frame h x = ap (λ l. l ++ x) (sym (append_assoc h.0 h.1.0 (big_endian 2 h.1.1)))

packet_seen : (w : RawFrame) (b : List ℕ) → IsOctets b → IsRawRead w b → IsFrame (view (packet_of w)) b × SpellsOptions (packet_of w)
packet_seen w b each q =
    let range = q.first.0 in
    let body = body_is w.0.1.1 range.1.1 q.back (IsOctets-back q.front q.back (subst IsOctets q.joined each)) w.1 q.second in (
      record {
        content = q.back;
        layout = q.joined ∙ ap (λ l. l ++ q.back) q.first.1 ∙ joined_frame w.0 q.back ∙ ap (λ n. w.0.0 ++ w.0.1.0 ++ big_endian 2 n ++ q.back) (sym body.kind);
        body = body.is;
        dst = range.0;
        src = range.1.0;
        octets = each;
      },
      body.spelled,
    )

-- and back
type_of-view : (v : EthBody) → ether_type_of (eth_body_view v) ≡ type_of v
type_of-view (eth_body.Arp a) = refl
type_of-view (eth_body.Ip p) = refl
type_of-view (eth_body.Other t y) = refl

type_small : (v : EthBody) (x : List ℕ) → IsEthBody (eth_body_view v) x → type_of v < 2 ^ 16
type_small (eth_body.Arp a) x h = lit< tt
type_small (eth_body.Ip p) x h = lit< tt
type_small (eth_body.Other t y) x h = h.0

body_read_again : (v : EthBody) (x : List ℕ) → IsOctets x → IsEthBody (eth_body_view v) x → SpellsEthBody v → IsBodyRead (type_of v) (raw_body v) x
body_read_again (eth_body.Arp a) x each h s = record { front = _; back = h.1; joined = h.2; first = (h.0, refl); second = tt }
body_read_again (eth_body.Ip p) x each h s = (ipv4_is p x each).1 (record { spelled = s; octets = h.0; pad = h.1; is = h.2; joined = h.3 })
body_read_again (eth_body.Other t y) x each h s =
    right_side (λ c a. IsPaddedArp a x) (λ z w. IsIpv4OrOther z w x) tt t (nat_eq t arp_type) (ne_eqb t arp_type h.1) (Right y)
    (right_side (λ c p. IsIpv4Read c p x) (λ z l. x ≡ l.now) tt tt (nat_eq t ipv4_type) (ne_eqb t ipv4_type h.2) y h.3)

body_again : (v : EthBody) (x : List ℕ) → IsEthBody (eth_body_view v) x → body_of (type_of v) (raw_body v) ≡ v
body_again (eth_body.Arp a) x h = refl
body_again (eth_body.Ip p) x h = refl
body_again (eth_body.Other t y) x h = ap (λ n. eth_body.Other n y) (mod-eq_of_lt h.0)

with_body : Packet → EthBody → Packet
with_body p v = record p { body = v }

read_again : (p : Packet) (b : List ℕ) → IsOctets b → IsFrame (view p) b → SpellsOptions p → IsFrameRead p b
unfolding with_body
read_again p b each f s =
    let front = header_octets (p.dst, (p.src, type_of p.body)) in
    let joined : b ≡ front ++ f.content = f.layout ∙ ap (λ n. p.dst ++ p.src ++ big_endian 2 n ++ f.content) (type_of-view p.body) ∙ sym (joined_frame (raw_frame p).0 f.content) in (
      raw_frame p,
      record {
        front = front;
        back = f.content;
        joined = joined;
        first = ((f.dst, (f.src, type_small p.body f.content f.body)), refl);
        second = body_read_again p.body f.content (IsOctets-back front f.content (subst IsOctets joined each)) f.body s;
      },
      ap (with_body p) (body_again p.body f.content f.body),
    )

pub frame_is : (p : Packet) (b : List ℕ) → IsOctets b → IsFrameRead p b ↔ (IsFrame (view p) b × SpellsOptions p)
frame_is p b each = (
  λ r. subst (λ q. IsFrame (view q) b × SpellsOptions q) r.2 (packet_seen r.0 b each r.1),
  λ k. read_again p b each k.0 k.1,
)

-- octets stand for a packet exactly where they are a frame of it, and its options are spelled
pub frame_stands : (p : Packet) (b : List ℕ) → IsOctets b → whole_frame.stands tt p (bits b) ↔ (IsFrame (view p) b × SpellsOptions p)
frame_stands p b each =
    let stood = stands_as frame_read tt p b each in
    let is = frame_is p b each in
    (λ s. is.0 (stood.0 s), λ k. stood.1 (is.1 k))

-- octets are refused exactly where a row fails
pub frame_refuses : (b : List ℕ) → IsOctets b → (f : Fault) → whole_frame.refuses tt (bits b) f ↔ IsFirstFault 0 (rows_for b) f
frame_refuses b each f = refused_by frame_read tt 0 b each (rows_for b) (frame_rows_are b each) f
