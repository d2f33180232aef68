-- Which octets are written for a packet.
use Rattle.std.proofs.Common.{◌≡◌, ℕ, ◌-◌, ◌^◌, ◌<◌, List, ◌++◌, length, replicate, nat_eq, refl, sym, ap, ◌∙◌, append_assoc, arith, lit<}
use Rattle.std.proofs.lemmas.Bool.{ne_eqb}
use Rattle.narc_bits.specs.Bits.{bits}
use Rattle.narc_bits.specs.Octets.{big_endian}
use Rattle.narc_compose.specs.declared.either.Either.TheVariants.{Right}
use Rattle.narc_compose.specs.Seq.{seq_tail}
use Rattle.narc_compose.specs.Strip.{stripped}
use Rattle.narc_compose.specs.Union.{united}
use Rattle.narc_list.specs.Bytes.{all_octets}
use Rattle.narc_list.specs.Pad.{padding}
use Rattle.narc_packet.specs.declared.packet.EthBody.{EthBody}
use Rattle.narc_packet.specs.declared.packet.EthBody.TheVariants as eth_body
use Rattle.narc_packet.specs.declared.packet.Packet.{Packet}
use Rattle.narc_packet.specs.Frame.{arp_type, ipv4_type, arp_octets, ether_type_of}
use Rattle.narc_packet.specs.Canonical.{canonical_eth_body, canonical_frame}
use Rattle.narc_packet.specs.PacketView.{eth_body_view, view}
use Rattle.narc_packet.specs.WellFormed.{SpellsEthBody, SpellsOptions}
use Rattle.narc_eth.specs.EthernetHeader.{Header, IsHeaderInRange, header_octets}
use Rattle.narc_layout.proofs.Layouts.{spelling-layout}
use Rattle.narc_eth.proofs.HeaderLayout.{eth_head_layout}
use Rattle.narc_eth.proofs.ArpLayout.{arp_layout}
use Rattle.narc_stack.specs.RawFrame.{type_of, raw_body}
use Rattle.narc_stack.specs.WholeFrame.{whole_frame, frame_body, padded_arp, ipv4_or_other}
use Rattle.narc_stack.specs.Ipv4Part.{ipv4_part}
use Rattle.narc_stack.specs.Admitted.{IsAdmittedBody, IsAdmitted}
use Rattle.narc_stack.proofs.Ipv4Written.{joined, right_spelling, ipv4_written}

body_written : (b : EthBody) → IsAdmittedBody (eth_body_view b) → SpellsEthBody b → frame_body.spelling (type_of b) (raw_body b) ≡ bits (canonical_eth_body (eth_body_view b))
unfolding united seq_tail padding all_octets
body_written (eth_body.Arp a) h s =
    let zeros : List ℕ = replicate 18 0 in
    let fill : 18 ≡ 46 - length (arp_octets a) = omega (arith, arp_layout.shape.sized a h) in
    joined (arp_octets a) zeros (spelling-layout arp_layout.shape a h) refl ∙ ap (λ n. bits (arp_octets a ++ replicate n 0)) fill
body_written (eth_body.Ip p) h s = ipv4_written p h s
body_written (eth_body.Other t y) h s =
    right_spelling padded_arp.spelling ipv4_or_other.spelling tt t (nat_eq t arp_type) (ne_eqb t arp_type h.1) (Right y)
    ∙ right_spelling ipv4_part.spelling all_octets.spelling tt tt (nat_eq t ipv4_type) (ne_eqb t ipv4_type h.2) y

type_small : (b : EthBody) → IsAdmittedBody (eth_body_view b) → type_of b < 2 ^ 16
type_small (eth_body.Arp a) h = lit< tt
type_small (eth_body.Ip p) h = lit< tt
type_small (eth_body.Other t y) h = h.0

type_view : (b : EthBody) → type_of b ≡ ether_type_of (eth_body_view b)
type_view (eth_body.Arp a) = refl
type_view (eth_body.Ip p) = refl
type_view (eth_body.Other t y) = refl

pub frame_written : (p : Packet) → IsAdmitted (view p) → SpellsOptions p → whole_frame.spelling tt p ≡ bits (canonical_frame (view p))
unfolding stripped seq_tail
frame_written p h s =
    let header : Header = (p.dst, (p.src, type_of p.body)) in
    let range : IsHeaderInRange header = (h.dst, (h.src, type_small p.body h.body)) in
    let content = canonical_eth_body (eth_body_view p.body) in
    let same : header_octets header ≡ p.dst ++ p.src ++ big_endian 2 (ether_type_of (eth_body_view p.body)) =
    sym (append_assoc p.dst p.src (big_endian 2 (type_of p.body))) ∙ ap (λ n. p.dst ++ p.src ++ big_endian 2 n) (type_view p.body) in
    joined (header_octets header) content (spelling-layout eth_head_layout.shape header range) (body_written p.body h.body s) ∙ ap (λ k. bits (k ++ content)) same
