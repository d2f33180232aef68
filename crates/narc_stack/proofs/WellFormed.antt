-- Packets that have a frame of at most `MAX_FRAME` octets.
use Rattle.std.proofs.Common.{◌≡◌, ℕ, ◌+◌, ◌-◌, ◌≤◌, ◌↔◌, List, ◌++◌, length, replicate, ap, ◌∙◌, arith, length-append}
use Rattle.std.proofs.lemmas.List.{length-replicate}
use Rattle.narc_bits.specs.declared.limits.TheConstants.{MAX_FRAME}
use Rattle.narc_bits.specs.Octets.{big_endian}
use Rattle.narc_packet.specs.PacketView.{EthBodyView, ArpBody, Ipv4Body, OtherBody, PacketView}
use Rattle.narc_packet.specs.Frame.{IsEthBody, IsFrame, arp_octets, ether_type_of}
use Rattle.narc_packet.specs.Canonical.{padded, canonical_eth_body, canonical_frame}
use Rattle.narc_packet.specs.Ipv4.{canonical_ipv4}
use Rattle.narc_packet.specs.declared.packet.Arp.{Arp}
use Rattle.narc_packet.specs.Ranges.{IsMac, IsArpInRange}
use Rattle.narc_packet.specs.WellFormed.{IsWellFormedEthBody, IsWellFormed}
use Rattle.narc_eth.proofs.ArpLayout.{arp_layout}
use Rattle.narc_stack.specs.Admitted.{IsAdmittedBody, IsAdmitted}
use Rattle.narc_stack.proofs.Canonical.{canonical_few, canonical_is_frame}
use Rattle.narc_stack.proofs.FrameAdmits.{admitted_of}

-- the octets behind the header
pub front_length : (dst src : List ℕ) (t : ℕ) (content : List ℕ) → IsMac dst → IsMac src → length (dst ++ src ++ big_endian 2 t ++ content) ≡ 14 + length content
front_length dst src t content d s =
    let front = dst ++ src ++ big_endian 2 t in
    omega (arith, length-append front content, length-append (dst ++ src) (big_endian 2 t), length-append dst src, d.0, s.0)

body_admitted : (b : EthBodyView) → IsWellFormedEthBody b → IsAdmittedBody b
body_admitted (ArpBody a) h = h
body_admitted (Ipv4Body p) h = h
body_admitted (OtherBody t payload) h = (h.0, h.1, h.2, h.4)

pub well_formed_admitted : (p : PacketView) → IsWellFormed p → IsAdmitted p
well_formed_admitted p h = record { dst = h.dst; src = h.src; body = body_admitted p.body h.body }

pub padded_length : (l : List ℕ) → length (padded l) ≡ length l + (46 - length l)
padded_length l = omega (arith, length-append l (replicate (46 - length l) 0), length-replicate {A = ℕ} (46 - length l) 0)

-- the data of a frame with an ARP packet
pub arp_size : (a : Arp) → IsArpInRange a → length (canonical_eth_body (ArpBody a)) ≡ 46
arp_size a h = omega (arith, padded_length (arp_octets a), arp_layout.shape.sized a h)

body_small : (b : EthBodyView) → IsWellFormedEthBody b → 14 + length (canonical_eth_body b) ≤ MAX_FRAME
body_small (ArpBody a) h = omega (arith, padded_length (arp_octets a), arp_layout.shape.sized a h)
body_small (Ipv4Body p) h = omega (arith, padded_length (canonical_ipv4 p), canonical_few p h)
body_small (OtherBody t payload) h = h.3

-- the canonical frame is not too long
pub canonical_small : (p : PacketView) → IsWellFormed p → length (canonical_frame p) ≤ MAX_FRAME
canonical_small p h = omega (arith, front_length p.dst p.src (ether_type_of p.body) (canonical_eth_body p.body) h.dst h.src, body_small p.body h.body)

body_well_formed : (b : EthBodyView) (content : List ℕ) → IsEthBody b content → IsAdmittedBody b → 14 + length content ≤ MAX_FRAME → IsWellFormedEthBody b
body_well_formed (ArpBody a) content is h small = h
body_well_formed (Ipv4Body p) content is h small = h
body_well_formed (OtherBody t payload) content is h small = (h.0, h.1, h.2, omega (arith, small, ap length is.3), h.3)

pub well_formed_of : (p : PacketView) (b : List ℕ) → IsFrame p b → length b ≤ MAX_FRAME → IsWellFormed p
well_formed_of p b f small =
    let admitted = admitted_of p b f in
    let size = ap length f.layout ∙ front_length p.dst p.src (ether_type_of p.body) f.content f.dst f.src in
    record { dst = f.dst; src = f.src; body = body_well_formed p.body f.content f.body admitted.body (omega (arith, small, size)) }

pub well_formed_is : (p : PacketView) → IsWellFormed p ↔ ((b : List ℕ) × IsFrame p b × (length b ≤ MAX_FRAME))
well_formed_is p = (
  λ h. (canonical_frame p, canonical_is_frame p (well_formed_admitted p h), canonical_small p h),
  λ h. well_formed_of p h.0 h.1 h.2,
)
