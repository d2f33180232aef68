-- Packets that can be written: their numbers lie in their ranges, and their body is of their type.
use Rattle.std.specs.Prelude.{◌≢◌, ◌<◌, ◌^◌}
use Rattle.narc_bits.specs.Octets.{IsOctets}
use Rattle.narc_packet.specs.PacketView.{PacketView, EthBodyView, ArpBody, Ipv4Body, OtherBody}
use Rattle.narc_packet.specs.Ranges.{IsMac, IsArpInRange}
use Rattle.narc_packet.specs.Frame.{arp_type, ipv4_type}
use Rattle.narc_packet.specs.WellFormed.{IsWellFormedIpv4}

abbrev pub IsAdmittedBody : EthBodyView → Type 0
IsAdmittedBody (ArpBody a) = IsArpInRange a
IsAdmittedBody (Ipv4Body p) = IsWellFormedIpv4 p
IsAdmittedBody (OtherBody ether_type payload) = (ether_type < 2 ^ 16) × (ether_type ≢ arp_type) × (ether_type ≢ ipv4_type) × IsOctets payload

pub record IsAdmitted (p : PacketView) : Type 0 where
  pub dst : IsMac p.dst
  pub src : IsMac p.src
  pub body : IsAdmittedBody p.body
