use Rattle.std.proofs.Common.{arith}
use Rattle.narc_bits.proofs.Scans.{length-bits_left}
use Rattle.narc_rules_tests.proofs.tests.bits.split_octets.Goals as goal

pub split-part-requires-clause-enough : goal.split-part-requires-clause-enough
split-part-requires-clause-enough g c = omega (arith, length-bits_left c.take.new.self)
