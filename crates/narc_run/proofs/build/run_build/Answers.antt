use Rattle.std.proofs.Common.{refl}
use Rattle.narc_run.specs.Job.{Build}
use Rattle.narc_run.proofs.BuildRuns.{steady}
use Rattle.narc_run.proofs.RightJobs.{lacking}
use Rattle.narc_run.proofs.StreamRuns.{right_stream}
use Rattle.narc_run.proofs.build.run_build.Goals as goal

pub returns-in-Ok : goal.returns-in-Ok
returns-in-Ok g c =
    right_stream Build steady (g.S.Source.left c.args.source.now) (g.S.Source.left c.build_to_end.new.source) (g.K.Sink.held c.args.sink.now) (g.K.Sink.held c.build_to_end.new.sink)
    (g.S.Source.faults c.args.source.now) (g.S.Source.faults c.build_to_end.new.source) (g.K.Sink.faults c.args.sink.now) (g.K.Sink.faults c.build_to_end.new.sink)
    c.args.steps.now c.args.steps.now c.build_to_end.result (c.build_to_end.ensures.run c.args.steps.now) c.build_to_end.ensures.faults _ _ (λ none. cc)

pub returns-in-Err : goal.returns-in-Err
returns-in-Err g c =
    lacking Build (λ same. cc) (g.S.Source.left c.args.source.now) (g.K.Sink.held c.args.sink.now) (g.S.Source.faults c.args.source.now) (g.K.Sink.faults c.args.sink.now) c.args.steps.now
    c.no_memory.result c.no_memory.ensures _ _ refl refl
