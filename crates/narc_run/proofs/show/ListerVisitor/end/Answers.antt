use Rattle.std.proofs.Common.{[], ◌++◌, ap, ◌∙◌, subst}
use Rattle.narc_text.specs.Printing.{Passes}
use Rattle.narc_text.proofs.Printings.{Passes-room, Stops-more, IsPrinted-failed}
use Rattle.narc_run.specs.declared.tally.Tally.{Tally}
use Rattle.narc_run.specs.Output.{last_line}
use Rattle.narc_run.specs.Tallies.{tally_line}
use Rattle.narc_run.proofs.CaptureTexts.{line_is}
use Rattle.narc_run.proofs.show.ListerVisitor.end.Goals as goal

pub returns-in_err-make_room-clause-printed : goal.returns-in_err-make_room-clause-printed
returns-in_err-make_room-clause-printed g c = λ h told saw.
    let page = c.args.page.now in
    let line = last_line told c.args.end in
    let before = g.K.Sink.held c.args.sink.now in
    let after = g.K.Sink.held c.make_room.new.sink in
    IsPrinted-failed line page c.make_room.new.self before after c.from_residual.result c.from_residual.ensures.0
    (Stops-more [] line page before after c.in_err-make_room.ensures.printed)

pub returns-clause-printed : goal.returns-clause-printed
returns-clause-printed g c = λ h told saw.
    let page = c.args.page.now in
    let tally = c.args.self.now.tally in
    let after = c.put_end.new.page in
    let before = g.K.Sink.held c.args.sink.now in
    let middle = g.K.Sink.held c.make_room.new.sink in
    subst (λ l. Passes (page ++ l) after before middle) (ap (λ (t : Tally). tally_line t c.args.end) saw ∙ line_is told c.args.end)
    (Passes-room (tally_line tally c.args.end) page c.make_room.new.self after before middle c.in_ok-make_room.ensures.printed c.put_end.ensures)
