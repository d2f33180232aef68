use Rattle.std.proofs.Common.{refl}
use Rattle.narc_run.specs.Job.{Capture}
use Rattle.narc_run.proofs.CaptureRuns.{steady}
use Rattle.narc_run.proofs.RightJobs.{lacking}
use Rattle.narc_run.proofs.StreamRuns.{right_stream}
use Rattle.narc_run.proofs.walk.run_walk.Goals as goal

pub returns-in-Ok : goal.returns-in-Ok
returns-in-Ok g c =
    let j = g.V.Visitor.job c.args.visitor.now in
    right_stream (Capture j) (steady j) (g.S.Source.left c.args.source.now) (g.S.Source.left c.walk_to_end.new.source) (g.K.Sink.held c.args.sink.now) (g.K.Sink.held c.walk_to_end.new.sink)
    (g.S.Source.faults c.args.source.now) (g.S.Source.faults c.walk_to_end.new.source) (g.K.Sink.faults c.args.sink.now) (g.K.Sink.faults c.walk_to_end.new.sink)
    c.args.steps.now c.walk_to_end.new.steps c.walk_to_end.result c.walk_to_end.ensures.run c.walk_to_end.ensures.faults _ _ (λ none. cc)

pub returns-in-Err : goal.returns-in-Err
returns-in-Err g c =
    lacking (Capture (g.V.Visitor.job c.args.visitor.now)) (λ same. cc) (g.S.Source.left c.args.source.now) (g.K.Sink.held c.args.sink.now) (g.S.Source.faults c.args.source.now) (g.K.Sink.faults c.args.sink.now) c.args.steps.now
    c.no_memory.result c.no_memory.ensures _ _ refl refl
