use Rattle.std.proofs.Common.{arith, ap, length}
use Rattle.narc_rules_tests.proofs.Sums.{checked_tail_fits}
use Rattle.narc_rules_tests.proofs.tests.sum.a_checked_tail_is_summed_to_its_end.Goals as goal

pub write_all-requires-clause-enough : goal.write_all-requires-clause-enough
write_all-requires-clause-enough g c = checked_tail_fits _ (1, c.as_slice-2.result) _ (ap length c.as_slice-2.ensures) (omega arith)
