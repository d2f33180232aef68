use Rattle.std.proofs.Common.{[], ◌++◌, subst}
use Rattle.narc_text.specs.Printing.{Passes}
use Rattle.narc_text.proofs.Printings.{Passes-room, Stops-more, IsPrinted-failed}
use Rattle.narc_run.specs.Counting.{counts_lines}
use Rattle.narc_run.specs.Output.{checked}
use Rattle.narc_run.proofs.Checks.{lines_are}
use Rattle.narc_run.proofs.check.CountsVisitor.end.Goals as goal

pub returns-in_err-make_room-clause-printed : goal.returns-in_err-make_room-clause-printed
returns-in_err-make_room-clause-printed g c = λ h told saw.
    let page = c.args.page.now in
    let lines = checked told c.args.end in
    let before = g.K.Sink.held c.args.sink.now in
    let after = g.K.Sink.held c.make_room.new.sink in
    IsPrinted-failed lines page c.make_room.new.self before after c.from_residual.result c.from_residual.ensures.0
    (Stops-more [] lines page before after c.in_err-make_room.ensures.printed)

pub returns-clause-printed : goal.returns-clause-printed
returns-clause-printed g c = λ h told saw.
    let page = c.args.page.now in
    let counts = c.args.self.now in
    let after = c.put_counts.new.page in
    let before = g.K.Sink.held c.args.sink.now in
    let middle = g.K.Sink.held c.make_room.new.sink in
    subst (λ l. Passes (page ++ l) after before middle) (lines_are counts told c.args.end saw)
    (Passes-room (counts_lines counts.tally counts.refused c.args.end) page c.make_room.new.self after before middle c.in_ok-make_room.ensures.printed c.put_counts.ensures)
