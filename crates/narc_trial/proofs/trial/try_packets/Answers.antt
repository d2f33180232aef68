use Rattle.std.proofs.Common.{◌+◌, sym, ap, ◌∙◌, subst, arith}
use Rattle.narc_trial.specs.declared.counts.TrialCounts.{TrialCounts}
use Rattle.narc_trial.specs.Counting.{counts_after}
use Rattle.narc_trial.proofs.Trials.{Bounded, Bounded-push, IsTrial-push, hurt_cost-push}
use Rattle.narc_trial.proofs.trial.try_packets.Goals as goal

pub loop-i-preserved : goal.loop-i-preserved
loop-i-preserved g c =
    let counts = c.loop-i.counts in
    let tried = c.try_packet-tried.result in
    let found = c.try_packet-tried.ensures in
    let after = c.count.new.self in
    let counted = c.count.ensures ∙ ap (λ size. counts_after counts size tried.fate) found.size in
    record {
      trial = IsTrial-push c.args.seed c.loop-i.i counts after tried.fate c.loop-i.invariant.trial found.fate counted;
      bounds = subst (λ (n : TrialCounts). Bounded n (c.loop-i.i + 1)) (sym c.count.ensures) (Bounded-push counts c.loop-i.i tried.size tried.fate c.loop-i.invariant.bounds found.bound);
      steps = omega (arith, found.cost, c.loop-i.invariant.steps, hurt_cost-push c.args.seed c.loop-i.i);
    }
