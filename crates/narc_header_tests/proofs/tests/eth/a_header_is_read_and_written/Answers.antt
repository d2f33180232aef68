use Rattle.std.proofs.Common.{[], ◌∷◌, length, refl, ap, arith, lit<}
use Rattle.narc_bits.proofs.Octets.{IsOctets-big_endian}
use Rattle.narc_bits.proofs.Numbers.{length-bits}
use Rattle.narc_layout.proofs.Layouts.{spelling-layout}
use Rattle.narc_eth.specs.EthernetHeader.{Header, IsHeaderInRange, header_octets}
use Rattle.narc_eth.proofs.HeaderLayout.{eth_head_layout}
use Rattle.narc_header_tests.proofs.tests.eth.a_header_is_read_and_written.Goals as goal

abbrev header : Header
header = (2 ∷ 0 ∷ 0 ∷ 0 ∷ 0 ∷ 0xaa ∷ [], (2 ∷ 0 ∷ 0 ∷ 0 ∷ 0 ∷ 0xbb ∷ [], 0x0806))

in_range : IsHeaderInRange header
in_range = ((refl, IsOctets-big_endian 6 0x0200000000aa), ((refl, IsOctets-big_endian 6 0x0200000000bb), lit< tt))

pub write-requires-clause-admitted : goal.write-requires-clause-admitted
write-requires-clause-admitted g c = (eth_head_layout.shape.admits header).1 in_range

pub write-requires-clause-enough : goal.write-requires-clause-enough
write-requires-clause-enough g c = omega (arith, ap length (spelling-layout eth_head_layout.shape header in_range), length-bits (header_octets header))
