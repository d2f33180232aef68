use Rattle.std.proofs.Common.{[], ◌∷◌, length, refl, ap, arith, lit<}
use Rattle.narc_bits.proofs.Octets.{IsOctets-big_endian}
use Rattle.narc_bits.proofs.Numbers.{length-bits}
use Rattle.narc_packet.specs.declared.packet.Arp.{Arp}
use Rattle.narc_packet.specs.Frame.{arp_octets}
use Rattle.narc_packet.specs.Ranges.{IsArpInRange}
use Rattle.narc_layout.proofs.Layouts.{spelling-layout}
use Rattle.narc_eth.proofs.ArpLayout.{arp_layout}
use Rattle.narc_header_tests.proofs.tests.eth.an_arp_packet_is_read_and_written.Goals as goal

abbrev request : Arp
request = record {
  op = 1;
  sender_mac = 2 ∷ 0 ∷ 0 ∷ 0 ∷ 0 ∷ 0xbb ∷ [];
  sender_ip = 10 ∷ 0 ∷ 0 ∷ 1 ∷ [];
  target_mac = 0 ∷ 0 ∷ 0 ∷ 0 ∷ 0 ∷ 0 ∷ [];
  target_ip = 10 ∷ 0 ∷ 0 ∷ 2 ∷ [];
}

in_range : IsArpInRange request
in_range = record {
  op = lit< tt;
  sender_mac = (refl, IsOctets-big_endian 6 0x0200000000bb);
  sender_ip = (refl, IsOctets-big_endian 4 0x0a000001);
  target_mac = (refl, IsOctets-big_endian 6 0);
  target_ip = (refl, IsOctets-big_endian 4 0x0a000002);
}

pub write-requires-clause-admitted : goal.write-requires-clause-admitted
write-requires-clause-admitted g c = (arp_layout.shape.admits request).1 in_range

pub write-requires-clause-enough : goal.write-requires-clause-enough
write-requires-clause-enough g c = omega (arith, ap length (spelling-layout arp_layout.shape request in_range), length-bits (arp_octets request))
