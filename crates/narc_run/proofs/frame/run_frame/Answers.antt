use Rattle.std.proofs.Common.{refl}
use Rattle.narc_run.specs.Job.{Frame}
use Rattle.narc_run.proofs.FrameRuns.{steady}
use Rattle.narc_run.proofs.RightJobs.{lacking}
use Rattle.narc_run.proofs.StreamRuns.{right_stream}
use Rattle.narc_run.proofs.frame.run_frame.Goals as goal

pub returns-in-Ok : goal.returns-in-Ok
returns-in-Ok g c =
    right_stream Frame steady (g.S.Source.left c.args.source.now) (g.S.Source.left c.answer_input.new.source) (g.K.Sink.held c.args.sink.now) (g.K.Sink.held c.answer_input.new.sink)
    (g.S.Source.faults c.args.source.now) (g.S.Source.faults c.answer_input.new.source) (g.K.Sink.faults c.args.sink.now) (g.K.Sink.faults c.answer_input.new.sink)
    c.args.steps.now c.answer_input.new.steps c.answer_input.result c.answer_input.ensures.run c.answer_input.ensures.faults _ _ (λ none. cc)

pub returns-in-Err : goal.returns-in-Err
returns-in-Err g c =
    lacking Frame (λ same. cc) (g.S.Source.left c.args.source.now) (g.K.Sink.held c.args.sink.now) (g.S.Source.faults c.args.source.now) (g.K.Sink.faults c.args.sink.now) c.args.steps.now
    c.no_memory.result c.no_memory.ensures _ _ refl refl
