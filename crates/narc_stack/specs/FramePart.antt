-- A whole frame as one name, and what it promises.
use Rattle.std.specs.Prelude.{◌<◌, ◌^◌}
use Rattle.narc_format.specs.Laws.{TailLaws}
use Rattle.narc_format.specs.Meaning.{Meaning}
use Rattle.narc_compose.specs.SeqTailLaws.{seq_tail_laws}
use Rattle.narc_compose.specs.StripLaws.{stripped_tail_laws}
use Rattle.narc_compose.specs.UnionTailLaws.{united_tail_laws}
use Rattle.narc_list.specs.Bytes.{all_octets}
use Rattle.narc_list.specs.BytesLaws.{all_octets_laws}
use Rattle.narc_list.specs.Pad.{padding}
use Rattle.narc_list.specs.PadLaws.{padding_laws}
use Rattle.narc_packet.specs.declared.packet.Packet.{Packet}
use Rattle.narc_eth.specs.ArpPacket.{arp_format}
use Rattle.narc_eth.specs.EthernetHeader.{Header, eth_head}
use Rattle.narc_eth.specs.Laws.{arp_laws}
use Rattle.narc_eth.proofs.HeaderLayout.{eth_head_layout}
use Rattle.narc_stack.specs.Ipv4Part.{ipv4_part, ipv4_part_laws}
use Rattle.narc_stack.specs.RawFrame.{packet_of, raw_frame, SamePacket}
use Rattle.narc_stack.specs.WholeFrame.{padded_arp, by_type, by_ipv4, ipv4_or_other, frame_body, header_and_body, whole_frame}

padded_arp_laws : TailLaws padded_arp
padded_arp_laws = seq_tail_laws (λ c. c) (λ c a. 18) (λ c. Unit {0}) arp_format padding arp_laws padding_laws

ipv4_or_other_laws : TailLaws ipv4_or_other
ipv4_or_other_laws = united_tail_laws by_ipv4 (λ ether_type. ether_type < 2 ^ 64) ipv4_part all_octets ipv4_part_laws all_octets_laws

frame_body_laws : TailLaws frame_body
frame_body_laws = united_tail_laws by_type (λ ether_type. ether_type < 2 ^ 64) padded_arp ipv4_or_other padded_arp_laws ipv4_or_other_laws

header_and_body_laws : TailLaws header_and_body
header_and_body_laws = seq_tail_laws (λ c. c) (λ c (h : Header). h.1.1) (λ c. Unit {0}) eth_head frame_body eth_head_layout.shape.laws frame_body_laws

pub frame_laws : TailLaws whole_frame
frame_laws = stripped_tail_laws packet_of (λ c p. raw_frame p) SamePacket header_and_body header_and_body_laws

-- what `Frame` means
unfoldable pub frame_part : Meaning (Unit {0}) Packet
frame_part = whole_frame

pub frame_part_laws : TailLaws frame_part
unfolding frame_part
frame_part_laws = frame_laws
