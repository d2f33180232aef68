-- The conditions of the frame's rules hold.
use Rattle.std.proofs.Common.{◌≡◌, ℕ, ◌%◌, ◌^◌, ◌<◌, Bool, true, false, nat_eq, if◌then◌else◌, refl, sym, ap, ◌∙◌, subst, arith, lit<}
use Rattle.std.specs.Borrow.{Bor}
use Rattle.std.proofs.Math.Nat.{mod-eq_of_lt}
use Rattle.std.proofs.lemmas.Bool.{eqb-true}
use Rattle.std.specs.Prelude.{List}
use Rattle.narc_compose.specs.declared.either.Either.{Either}
use Rattle.narc_compose.specs.declared.either.Either.TheVariants.{Left, Right}
use Rattle.narc_compose.specs.Seq.{seq_tail}
use Rattle.narc_compose.specs.Measured.{measured}
use Rattle.narc_compose.specs.Strip.{stripped, Chosen}
use Rattle.narc_compose.specs.Union.{Side, Sides, united}
use Rattle.narc_list.specs.Bytes.{all_octets}
use Rattle.narc_list.specs.Pad.{padding}
use Rattle.narc_packet.specs.Frame.{arp_type, ipv4_type}
use Rattle.narc_packet.specs.PacketView.{PacketView, EthBodyView, Ipv4Body, OtherBody, eth_body_view}
use Rattle.narc_packet.specs.declared.packet.Ipv4.{Ipv4}
use Rattle.narc_eth.specs.EthernetHeader.{Header}
use Rattle.narc_eth.proofs.HeaderLayout.{eth_head_layout}
use Rattle.narc_eth.proofs.ArpLayout.{arp_layout}
use Rattle.narc_stack.specs.FramePart.{frame_part}
use Rattle.narc_stack.specs.Ipv4Part.{ipv4_part}
use Rattle.narc_stack.specs.RawFrame.{RawBody, RawFrame, body_of, type_of, raw_body, packet_of, raw_frame, SamePacket}
use Rattle.narc_stack.specs.WholeFrame.{padded_arp, ipv4_or_other, frame_body, header_and_body, whole_frame}
use Rattle.narc_stack.proofs.Ipv4Sound.{ipv4_sound}

ipv4_part_sound : ipv4_part.sound
unfolding ipv4_part
ipv4_part_sound = ipv4_sound

ipv4_part_valid : ipv4_part.valid tt
unfolding ipv4_part stripped measured
ipv4_part_valid = tt

padded_sound : padded_arp.sound
unfolding seq_tail padding
padded_sound = record {
  first_sound = arp_layout.shape.sound;
  second_sound = tt;
  carries = record { first_valid = λ c ok. arp_layout.shape.valid; second_valid = λ c a ok k. lit< tt; same = λ c v w a. refl };
  meets = arp_layout.shape.whole;
}

ipv4_picked : (t : Bool) → Side ipv4_part.valid all_octets.valid (if t then Left tt else Right tt)
unfolding all_octets
ipv4_picked true = ipv4_part_valid
ipv4_picked false = tt

other_sound : ipv4_or_other.sound
unfolding united all_octets
other_sound = record { left_sound = ipv4_part_sound; right_sound = tt; picked = λ t ok. ipv4_picked (nat_eq t ipv4_type) }

type_picked : (n : ℕ) → n < 2 ^ 64 → (t : Bool) → Side padded_arp.valid ipv4_or_other.valid (if t then Left tt else Right n)
unfolding seq_tail united
type_picked n h true = tt
type_picked n h false = h

body_sound : frame_body.sound
unfolding united
body_sound = record { left_sound = padded_sound; right_sound = other_sound; picked = λ t ok. type_picked t ok (nat_eq t arp_type) }

raw_sound : header_and_body.sound
unfolding seq_tail united
raw_sound = record {
  first_sound = eth_head_layout.shape.sound;
  second_sound = body_sound;
  carries = record {
    first_valid = λ c ok. eth_head_layout.shape.valid;
    second_valid = λ c h ok a. omega (arith, ((eth_head_layout.shape.admits h).0 a).1.1);
    same = λ c h k a. ap (λ (x : Header). x.1.1) (eth_head_layout.shape.alike h k a);
  };
  meets = eth_head_layout.shape.whole;
}

-- a body that is the same is seen as the same
same_other : (t : ℕ) (v w : Either Ipv4 (Bor (List ℕ))) → ipv4_or_other.alike v w → eth_body_view (body_of t (Right v)) ≡ eth_body_view (body_of t (Right w))
unfolding united all_octets ipv4_part stripped
same_other t (Left p) (Left q) h = ap Ipv4Body h
same_other t (Left p) (Right l) h = absurd h
same_other t (Right l) (Left p) h = absurd h
same_other t (Right l) (Right k) h = ap (OtherBody (t % 65536)) h

same_body : (t : ℕ) (v w : RawBody) → frame_body.alike v w → eth_body_view (body_of t v) ≡ eth_body_view (body_of t w)
unfolding united seq_tail
same_body t (Left a) (Left b) h = ap (λ x. eth_body_view (body_of t (Left (x, tt)))) (arp_layout.shape.alike a.0 b.0 h.0)
same_body t (Right y) (Right z) h = same_other t y z h
same_body t (Left a) (Right z) h = absurd h
same_body t (Right y) (Left b) h = absurd h

with_body : Header → EthBodyView → PacketView
with_body h body = record { dst = h.0; src = h.1.0; body = body }

same_packet : (v w : RawFrame) → header_and_body.alike v w → SamePacket (packet_of v) (packet_of w)
unfolding seq_tail with_body
same_packet v w a =
    let same = eth_head_layout.shape.alike v.0 w.0 a.0 in
    ap (with_body v.0) (same_body v.0.1.1 v.1 w.1 a.1) ∙ ap (λ (h : Header). with_body h (eth_body_view (body_of h.1.1 w.1))) same

-- the type of the body is that of the header
ipv4_back : (t : ℕ) (b : Bool) → nat_eq t ipv4_type ≡ b → (v : Either Ipv4 (Bor (List ℕ))) → t < 2 ^ 16
    → Sides ipv4_part.admits all_octets.admits (if b then Left tt else Right tt) v → type_of (body_of t (Right v)) ≡ t
ipv4_back t true e (Left p) small a = sym (eqb-true t ipv4_type e)
ipv4_back t true e (Right l) small a = absurd a
ipv4_back t false e (Left p) small a = absurd a
ipv4_back t false e (Right l) small a = mod-eq_of_lt small

type_back : (t : ℕ) (b : Bool) → nat_eq t arp_type ≡ b → (v : RawBody) → t < 2 ^ 16
    → Sides padded_arp.admits ipv4_or_other.admits (if b then Left tt else Right t) v → type_of (body_of t v) ≡ t
unfolding united
type_back t true e (Left a) small h = sym (eqb-true t arp_type e)
type_back t true e (Right y) small h = absurd h
type_back t false e (Left a) small h = absurd h
type_back t false e (Right y) small h = ipv4_back t (nat_eq t ipv4_type) refl y small h

body_back : (t : ℕ) (v : RawBody) → raw_body (body_of t v) ≡ v
body_back t (Left a) = refl
body_back t (Right (Left p)) = refl
body_back t (Right (Right l)) = refl

raw_back : (w : RawFrame) → header_and_body.admits tt w → raw_frame (packet_of w) ≡ w
unfolding seq_tail united
raw_back w a =
    let h = (eth_head_layout.shape.admits w.0).0 a.1 in
    ap (λ t. (((w.0.0, (w.0.1.0, t)), raw_body (body_of w.0.1.1 w.1)))) (type_back w.0.1.1 (nat_eq w.0.1.1 arp_type) refl w.1 h.1.1 a.2)
    ∙ ap (λ v. (w.0, v)) (body_back w.0.1.1 w.1)

chosen : (w : RawFrame) → header_and_body.admits tt w → Chosen packet_of (λ c p. raw_frame p) SamePacket header_and_body tt (packet_of w)
chosen w a =
    let back = raw_back w a in
    record { admitted = subst (header_and_body.admits tt) (sym back) a; back = ap packet_of back }

pub frame_sound : whole_frame.sound
unfolding stripped
frame_sound = record { part_sound = raw_sound; same = same_packet; chosen = λ c ok w a. chosen w a }

pub frame_part_sound : frame_part.sound
unfolding frame_part
frame_part_sound = frame_sound

pub frame_valid : whole_frame.valid tt
unfolding stripped seq_tail
frame_valid = tt
