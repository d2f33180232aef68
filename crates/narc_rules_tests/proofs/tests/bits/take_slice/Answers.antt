use Rattle.std.proofs.Common.{arith}
use Rattle.narc_bits.proofs.Scans.{length-bits_left}
use Rattle.narc_rules_tests.proofs.tests.bits.take_slice.Goals as goal

pub slice-slice-requires-clause-enough : goal.slice-slice-requires-clause-enough
slice-slice-requires-clause-enough g c = omega (arith, length-bits_left c.take.new.self)
