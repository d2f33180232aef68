use Rattle.std.proofs.Common.{◌+◌, ◌≤◌}
use Rattle.narc_trial.specs.Trying.{numbers}
use Rattle.narc_trial.specs.Counting.{IsTrial, hurt_cost}
use Rattle.narc_trial.proofs.Trials.{Bounded}
use Rattle.narc_trial.proofs.trial.try_packets.Given as goal

abbrev pub invariant-loop-i : goal.invariant-loop-i
invariant-loop-i g l = record {
  trial : IsTrial l.seed l.i l.counts;
  bounds : Bounded l.counts l.i;
  steps : l.steps ≤ l.initial.steps + hurt_cost (numbers l.seed l.i);
}
