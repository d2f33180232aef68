use Rattle.std.proofs.Common.{◌≡◌, ◌+◌, arith}
use Rattle.narc_run.specs.Output.{trial_line}
use Rattle.narc_run.proofs.UnreadRuns.{trial-run, done_line, cut_line}
use Rattle.narc_run.proofs.trial.run_trial.Goals as goal

pub returns-in-Ok-tell_trial : goal.returns-in-Ok-tell_trial
returns-in-Ok-tell_trial g c =
    let all : c.steps.inside.decoding + c.steps.inside.judging ≡ c.args.steps.now = c.steps.view_is in
    let counts = c.try_packets-counts.result in
    let line = trial_line c.args.seed c.args.count counts in
    trial-run c.args.seed c.args.count counts _ _ _ _ c.args.steps.now (c.try_packets-counts.new.steps + c.steps.inside.judging) c.done.result _ c.try_packets-counts.ensures.trial
    (omega (arith, all, c.try_packets-counts.ensures.cost))
    (done_line line _ _ _ _ c.done.result c.done.ensures c.in-Ok-tell_trial.ensures.pushed c.in-Ok-tell_trial.ensures.faults.later)

pub returns : goal.returns
returns g c =
    let all : c.steps.inside.decoding + c.steps.inside.judging ≡ c.args.steps.now = c.steps.view_is in
    let counts = c.try_packets-counts.result in
    let line = trial_line c.args.seed c.args.count counts in
    trial-run c.args.seed c.args.count counts _ _ _ _ c.args.steps.now (c.try_packets-counts.new.steps + c.steps.inside.judging) c.sink_fault.result _ c.try_packets-counts.ensures.trial
    (omega (arith, all, c.try_packets-counts.ensures.cost))
    (cut_line line _ _ _ _ c.sink_fault.result c.sink_fault.ensures c.in-Err.ensures.pushed c.in-Err.ensures.faults.later c.in-Err.ensures.faults.cause)
