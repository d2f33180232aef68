-- Which packets can be written.
use Rattle.std.proofs.Common.{ℕ, ◌-◌, ◌%◌, ◌≤◌, ◌↔◌, List, length, replicate, ap, subst, arith, length-append}
use Rattle.std.specs.Prelude.{flat_map}
use Rattle.std.proofs.lemmas.List.{length-replicate}
use Rattle.narc_bits.specs.Octets.{IsOctets}
use Rattle.narc_bits.specs.Bits.{bits}
use Rattle.narc_bits.proofs.Octets.{IsOctets-back}
use Rattle.narc_packet.specs.Options.{IsArea, filled, tcp_option, IsTcpOption, ip_option, IsIpOption}
use Rattle.narc_packet.specs.Canonical.{canonical_frame}
use Rattle.narc_packet.specs.PacketView.{IpBodyView, UdpBody, TcpBody, RawBody, Ipv4View, EthBodyView, ArpBody, Ipv4Body, OtherBody, PacketView, view}
use Rattle.narc_packet.specs.Ipv4.{IsIpBody, IsIpv4}
use Rattle.narc_packet.specs.Frame.{IsEthBody, IsFrame}
use Rattle.narc_packet.specs.WellFormed.{FitArea, IsWellFormedIpBody, IsWellFormedIpv4, smallest_length, SpellsOptions}
use Rattle.narc_packet.specs.declared.packet.Packet.{Packet}
use Rattle.narc_stack.specs.FramePart.{frame_laws}
use Rattle.narc_stack.specs.WholeFrame.{whole_frame}
use Rattle.narc_stack.specs.Admitted.{IsAdmittedBody, IsAdmitted}
use Rattle.narc_stack.proofs.Canonical.{canonical_is_frame}
use Rattle.narc_stack.proofs.FrameSound.{frame_sound, frame_valid}
use Rattle.narc_stack.proofs.FrameRead.{frame_read}
use Rattle.narc_stack.proofs.FrameRelation.{frame_is, frame_stands}

-- an area has room for its options, and for the shortest area of them
module _ {O : Type 0} (spelling : O → List ℕ) (IsOption : O → Type 0) (options : List O) (area : List ℕ) (a : IsArea spelling IsOption options area) where
  fit_of : FitArea spelling IsOption options
  fit_of = record { each = a.each; bound = omega (arith, a.bound, ap length a.layout, length-append (flat_map spelling options) a.rest) }

  shorter : length (filled (flat_map spelling options)) ≤ length area
  shorter =
      let l = flat_map spelling options in
      let words = a.whole_words in
      omega (arith, length-append l (replicate ((4 - length l % 4) % 4) 0), length-replicate {A = ℕ} ((4 - length l % 4) % 4) 0, ap length a.layout, length-append l a.rest, words)

body_admitted : (src dst : List ℕ) (b : IpBodyView) (x : List ℕ) → IsIpBody src dst b x → IsWellFormedIpBody b × (smallest_length b ≤ length x)
body_admitted src dst (UdpBody u) x h = (h.in_range, omega (arith, ap length h.layout, length-append u.payload h.surplus))
body_admitted src dst (TcpBody t) x h =
    let fewer = shorter tcp_option IsTcpOption t.options h.area h.options in
    ((h.in_range, fit_of tcp_option IsTcpOption t.options h.area h.options), omega (arith, ap length h.layout, length-append h.area t.payload, fewer))
body_admitted src dst (RawBody protocol payload) x h = ((h.0, subst IsOctets h.1 h.2), omega (arith, ap length h.1))

ipv4_admitted : (p : Ipv4View) (x : List ℕ) → IsIpv4 p x → IsWellFormedIpv4 p
ipv4_admitted p x h =
    let body = body_admitted p.src p.dst p.body h.content h.body in
    let fewer = shorter ip_option IsIpOption p.options h.area h.options in
    let room = h.fits in
    record {
      in_range = h.in_range;
      options = fit_of ip_option IsIpOption p.options h.area h.options;
      may_have_body = h.may_have_body;
      body = body.0;
      fits = omega (arith, body.1, fewer, room);
    }

eth_admitted : (b : EthBodyView) (x : List ℕ) → IsOctets x → IsEthBody b x → IsAdmittedBody b
eth_admitted (ArpBody a) x each h = h.0
eth_admitted (Ipv4Body p) x each h = ipv4_admitted p h.0 h.2
eth_admitted (OtherBody t payload) x each h = (h.0, h.1, h.2, subst IsOctets h.3 each)

pub admitted_of : (p : PacketView) (b : List ℕ) → IsFrame p b → IsAdmitted p
admitted_of p b f = record { dst = f.dst; src = f.src; body = eth_admitted p.body f.content (IsOctets-back _ f.content (subst IsOctets f.layout f.octets)) f.body }

pub frame_admits : (p : Packet) → whole_frame.admits tt p ↔ (IsAdmitted (view p) × SpellsOptions p)
frame_admits p = (
  λ a.
      let stood = frame_laws.spelling_stands frame_sound tt frame_valid p a in
      let s = (frame_read.stands tt p (whole_frame.spelling tt p)).0 stood in
      let is = (frame_is p s.octets s.each).0 s.is in
      (admitted_of (view p) s.octets is.0, is.1),
  λ h.
      let f = canonical_is_frame (view p) h.0 in
      frame_laws.admitted frame_sound tt frame_valid p (bits (canonical_frame (view p))) ((frame_stands p (canonical_frame (view p)) f.octets).1 (f, h.1)),
)
