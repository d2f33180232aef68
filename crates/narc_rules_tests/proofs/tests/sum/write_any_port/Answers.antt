use Rattle.std.proofs.Common.{arith}
use Rattle.narc_rules_tests.proofs.Sums.{checked_or_none_fits}
use Rattle.narc_rules_tests.proofs.tests.sum.write_any_port.Goals as goal

pub write-requires-clause-enough : goal.write-requires-clause-enough
write-requires-clause-enough c = checked_or_none_fits _ c.args.port _ (omega (arith, c.requires.enough))
