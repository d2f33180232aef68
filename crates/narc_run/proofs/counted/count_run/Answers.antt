use Rattle.std.proofs.Common.{sym}
use Rattle.narc_run.proofs.counted.count_run.Goals as goal

pub returns : goal.returns
returns g c = rw (sym c.new-steps.ensures) c.run-outcome.ensures
