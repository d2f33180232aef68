-- The frame that is written for a packet: shortest options areas, no surplus, computed checksums, and ARP and IPv4
-- padded with octets 0 to 60 octets, the least that Ethernet sends without its check sequence (RFC 894).
use Rattle.std.specs.Prelude.{ℕ, ◌-◌, List, ◌++◌, length, replicate}
use Rattle.narc_bits.specs.Octets.{big_endian}
use Rattle.narc_packet.specs.PacketView.{PacketView, EthBodyView, ArpBody, Ipv4Body, OtherBody}
use Rattle.narc_packet.specs.Ipv4.{canonical_ipv4}
use Rattle.narc_packet.specs.Frame.{arp_octets, ether_type_of}

-- the fewest octets behind the Ethernet header
abbrev pub padded : List ℕ → List ℕ
padded octets = octets ++ replicate (46 - length octets) 0

abbrev pub canonical_eth_body : EthBodyView → List ℕ
canonical_eth_body (ArpBody a) = padded (arp_octets a)
canonical_eth_body (Ipv4Body p) = padded (canonical_ipv4 p)
canonical_eth_body (OtherBody ether_type payload) = payload

abbrev pub canonical_frame : PacketView → List ℕ
canonical_frame p = p.dst ++ p.src ++ big_endian 2 (ether_type_of p.body) ++ canonical_eth_body p.body
