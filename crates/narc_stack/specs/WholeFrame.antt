-- What `Frame` means.
use Rattle.std.specs.Prelude.{ℕ, ◌<◌, ◌^◌, List, nat_eq, if◌then◌else◌}
use Rattle.std.specs.Borrow.{Bor}
use Rattle.narc_format.specs.Meaning.{Meaning}
use Rattle.narc_compose.specs.declared.either.Either.{Either}
use Rattle.narc_compose.specs.declared.either.Either.TheVariants.{Left, Right}
use Rattle.narc_compose.specs.Seq.{seq_tail}
use Rattle.narc_compose.specs.Strip.{stripped}
use Rattle.narc_compose.specs.Union.{united}
use Rattle.narc_list.specs.Bytes.{all_octets}
use Rattle.narc_list.specs.Pad.{padding}
use Rattle.narc_packet.specs.declared.packet.Arp.{Arp}
use Rattle.narc_packet.specs.declared.packet.Ipv4.{Ipv4}
use Rattle.narc_packet.specs.declared.packet.Packet.{Packet}
use Rattle.narc_packet.specs.Frame.{arp_type, ipv4_type}
use Rattle.narc_eth.specs.ArpPacket.{arp_format}
use Rattle.narc_eth.specs.EthernetHeader.{eth_head}
use Rattle.narc_stack.specs.Ipv4Part.{ipv4_part}
use Rattle.narc_stack.specs.RawFrame.{RawBody, RawFrame, packet_of, raw_frame, SamePacket}

-- an ARP packet, and padding that fills a frame of 60 octets where it is written
abbrev pub padded_arp : Meaning (Unit {0}) (Arp × Unit {0})
padded_arp = seq_tail {C = Unit {0}} {CA = Unit {0}} {CB = ℕ} (λ c. c) (λ c a. 18) (λ c. Unit {0}) arp_format padding

-- the left member for the type of ARP
abbrev pub by_type : ℕ → Either (Unit {0}) ℕ
by_type ether_type = if nat_eq ether_type arp_type then Left tt else Right ether_type

abbrev pub by_ipv4 : ℕ → Either (Unit {0}) (Unit {0})
by_ipv4 ether_type = if nat_eq ether_type ipv4_type then Left tt else Right tt

abbrev pub ipv4_or_other : Meaning ℕ (Either Ipv4 (Bor (List ℕ)))
ipv4_or_other = united by_ipv4 (λ ether_type. ether_type < 2 ^ 64) ipv4_part all_octets

abbrev pub frame_body : Meaning ℕ RawBody
frame_body = united by_type (λ ether_type. ether_type < 2 ^ 64) padded_arp ipv4_or_other

abbrev pub header_and_body : Meaning (Unit {0}) RawFrame
header_and_body = seq_tail {C = Unit {0}} {CA = Unit {0}} {CB = ℕ} (λ c. c) (λ c h. h.1.1) (λ c. Unit {0}) eth_head frame_body

abbrev pub whole_frame : Meaning (Unit {0}) Packet
whole_frame = stripped packet_of (λ c p. raw_frame p) SamePacket header_and_body
