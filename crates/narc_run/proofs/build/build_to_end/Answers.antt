use Rattle.std.proofs.Common.{ap, Ok, Err}
use Rattle.narc_run.specs.declared.outcome.Outcome.{Outcome}
use Rattle.narc_run.specs.Verdict.{verdict_of}
use Rattle.narc_run.proofs.BuildRuns.{ends, counted}
use Rattle.narc_run.proofs.build.build_to_end.Goals as goal

pub returns-in-Ok-clause-run : goal.returns-in-Ok-clause-run
returns-in-Ok-clause-run g c = λ steps.
    ends (g.S.Source.left c.args.source.now) (g.S.Source.left c.build.new.source) (g.K.Sink.held c.args.sink.now) (g.K.Sink.held c.build.new.sink) steps
    (Ok c.in-Ok.ending) c.in-Ok.ensures.run c.of_built.result.status c.of_built.result.at c.of_built.ensures

pub returns-in-Ok-clause-faults : goal.returns-in-Ok-clause-faults
returns-in-Ok-clause-faults g c =
    counted (Ok c.in-Ok.ending) c.of_built.result.status c.of_built.result.at _ _ _ _ c.of_built.ensures c.in-Ok.ensures.source_faults c.in-Ok.ensures.sink_faults

pub returns-clause-run : goal.returns-clause-run
returns-clause-run g c = λ steps.
    ends (g.S.Source.left c.args.source.now) (g.S.Source.left c.build.new.source) (g.K.Sink.held c.args.sink.now) (g.K.Sink.held c.build.new.sink) steps
    (Err _) c.in-Err.ensures.run c.sink_fault.result.status c.sink_fault.result.at (ap (λ (o : Outcome). verdict_of o.status o.at) c.sink_fault.ensures)

pub returns-clause-faults : goal.returns-clause-faults
returns-clause-faults g c =
    counted (Err _) c.sink_fault.result.status c.sink_fault.result.at _ _ _ _ (ap (λ (o : Outcome). verdict_of o.status o.at) c.sink_fault.ensures) c.in-Err.ensures.source_faults c.in-Err.ensures.sink_faults
