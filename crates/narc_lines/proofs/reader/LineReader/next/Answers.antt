use Rattle.std.proofs.Common.{sym, subst}
use Rattle.narc_lines.specs.Reading.{IsNext}
use Rattle.narc_lines.proofs.Readings.{next_ended, next_failed, next_exceeded}
use Rattle.narc_lines.proofs.reader.LineReader.next.Goals as goal

pub returns-in-End-clause-next : goal.returns-in-End-clause-next
returns-in-End-clause-next g c =
    let i = c.pulls.invariant in
    let came = c.in-End.ensures.refilled in
    let x = g.S.Source.left c.args.source.now in
    let z = g.S.Source.left c.refill.new.source in
    subst (IsNext c.args.self.now c.refill.new.self x z) (sym c.ended.ensures)
    (next_ended c.args.self.now c.pulls.self c.ahead.new.self c.refill.new.self x (g.S.Source.left c.pulls.source) z i.longest i.holds c.in-Open.ensures.same c.in-Open.ensures.ahead came.0 came.1 came.2)

pub returns-in-Failed-clause-next : goal.returns-in-Failed-clause-next
returns-in-Failed-clause-next g c =
    let i = c.pulls.invariant in
    let came = c.in-Failed.ensures.refilled in
    next_failed c.args.self.now c.pulls.self c.ahead.new.self c.refill.new.self (g.S.Source.left c.args.source.now) (g.S.Source.left c.pulls.source) (g.S.Source.left c.refill.new.source)
    i.longest i.holds c.in-Open.ensures.same c.in-Open.ensures.ahead came.0 came.1

pub returns-in-Long-clause-next : goal.returns-in-Long-clause-next
returns-in-Long-clause-next g c =
    let i = c.pulls.invariant in
    let came = c.in-Long.ensures.refilled in
    next_exceeded c.args.self.now c.pulls.self c.ahead.new.self c.refill.new.self (g.S.Source.left c.args.source.now) (g.S.Source.left c.pulls.source) (g.S.Source.left c.refill.new.source)
    i.longest i.holds c.in-Open.ensures.same c.in-Open.ensures.ahead came.0 came.1
