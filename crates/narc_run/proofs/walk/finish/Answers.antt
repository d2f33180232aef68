use Rattle.std.proofs.Common.{[], ◌++◌, ap, subst, append-nil}
use Rattle.narc_text.proofs.Printings.{Stops-then}
use Rattle.narc_run.specs.Output.{capture_end}
use Rattle.narc_run.specs.Run.{WroteFront}
use Rattle.narc_run.proofs.CaptureTexts.{IsShown-failed}
use Rattle.narc_run.proofs.Visits.{front_stopped}
use Rattle.narc_run.proofs.walk.finish.Goals as goal

pub returns-in_err-end-clause-printed : goal.returns-in_err-end-clause-printed
returns-in_err-end-clause-printed g c = λ h told saw.
    let text = capture_end (g.V.Visitor.job c.args.visitor.now) told c.args.end in
    let before = g.K.Sink.held c.args.sink.now in
    let after = g.K.Sink.held c.end.new.sink in
    IsShown-failed c.from_residual.result (c.args.page.now ++ text) _ before after c.from_residual.ensures.0
    (front_stopped _ before after (c.in_err-end.ensures.printed h told saw))

pub returns-in_err-flush-clause-printed : goal.returns-in_err-flush-clause-printed
returns-in_err-flush-clause-printed g c = λ h told saw.
    let page = c.args.page.now in
    let text = capture_end (g.V.Visitor.job c.args.visitor.now) told c.args.end in
    let before = g.K.Sink.held c.args.sink.now in
    let middle = g.K.Sink.held c.end.new.sink in
    let after = g.K.Sink.held c.flush.new.sink in
    let stopped = front_stopped _ before after (Stops-then text [] page c.end.new.page before middle after (c.in_ok-end.ensures.printed h told saw) c.in_err-flush.ensures.printed) in
    IsShown-failed c.from_residual-in_err-flush.result (page ++ text) _ before after c.from_residual-in_err-flush.ensures.0
    (subst (λ l. WroteFront l before after) (ap (λ l. page ++ l) (append-nil text)) stopped)
