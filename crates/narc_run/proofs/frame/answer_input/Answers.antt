use Rattle.std.proofs.Common.{take, Ok, Err, sym, ◌∙◌, subst, arith, length-take}
use Rattle.narc_run.specs.declared.outcome.Outcome.{Outcome}
use Rattle.narc_run.specs.Job.{Frame}
use Rattle.narc_run.specs.StreamRun.{StreamRun}
use Rattle.narc_run.proofs.FrameRuns.{frame_broken, frame_long, frame_ended}
use Rattle.narc_run.proofs.frame.answer_input.Goals as goal

pub returns-in-Failed-clause-run : goal.returns-in-Failed-clause-run
returns-in-Failed-clause-run g c =
    let filled = c.in-Failed.ensures.filled in
    let octets = take c.in-Failed.count c.fill.new.buffer in
    frame_broken (g.S.Source.left c.args.source.now) (g.S.Source.left c.fill.new.source) (g.K.Sink.held c.args.sink.now) c.args.steps.now octets c.source_fault_behind.result
    (omega (arith, length-take c.in-Failed.count c.fill.new.buffer, filled.0, c.in-Failed.ensures.len, c.requires)) c.source_fault_behind.ensures.octets filled.1 c.source_fault_behind.ensures.value

pub returns-in-Full-clause-run : goal.returns-in-Full-clause-run
returns-in-Full-clause-run g c =
    frame_long (g.S.Source.left c.args.source.now) (g.S.Source.left c.fill.new.source) (g.K.Sink.held c.args.sink.now) c.args.steps.now c.fill.new.buffer c.malformed.result
    (c.in-Full.ensures.len ∙ c.requires) c.in-Full.ensures.filled c.malformed.ensures

pub returns-in-Err-clause-run : goal.returns-in-Err-clause-run
returns-in-Err-clause-run g c =
    let x = g.S.Source.left c.args.source.now in
    let z = g.S.Source.left c.fill.new.source in
    let before = g.K.Sink.held c.args.sink.now in
    let after = g.K.Sink.held c.answer_frame.new.sink in
    let filled = c.in-Whole.ensures.filled in
    subst (λ (o : Outcome). StreamRun Frame x z before after c.args.steps.now c.answer_frame.new.steps o.status o.at) (sym c.sink_fault.ensures)
    (frame_ended (take c.in-Whole.count c.fill.new.buffer) x z before after c.args.steps.now c.answer_frame.new.steps
    (omega (arith, length-take c.in-Whole.count c.fill.new.buffer, filled.0, c.in-Whole.ensures.len, c.requires)) filled.1 filled.2 c.in-Err.ensures.cost (Err c.in-Err.field-0) c.in-Err.ensures.told)

pub returns-in-Ok-clause-run : goal.returns-in-Ok-clause-run
returns-in-Ok-clause-run g c =
    let x = g.S.Source.left c.args.source.now in
    let z = g.S.Source.left c.fill.new.source in
    let filled = c.in-Whole.ensures.filled in
    frame_ended (take c.in-Whole.count c.fill.new.buffer) x z (g.K.Sink.held c.args.sink.now) (g.K.Sink.held c.answer_frame.new.sink) c.args.steps.now c.answer_frame.new.steps
    (omega (arith, length-take c.in-Whole.count c.fill.new.buffer, filled.0, c.in-Whole.ensures.len, c.requires)) filled.1 filled.2 c.in-Ok.ensures.cost (Ok c.in-Ok.outcome) c.in-Ok.ensures.told
