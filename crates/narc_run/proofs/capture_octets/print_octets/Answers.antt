use Rattle.narc_run.proofs.Pushings.{IsPrinted-behind}
use Rattle.narc_run.proofs.capture_octets.print_octets.Goals as goal

pub returns-then-octets-gt-PAGE_SIZE-clause-printed : goal.returns-then-octets-gt-PAGE_SIZE-clause-printed
returns-then-octets-gt-PAGE_SIZE-clause-printed g c =
    IsPrinted-behind c.args.octets.now c.args.page.now c.flush.new.self (g.K.Sink.held c.args.sink.now) (g.K.Sink.held c.flush.new.sink) (g.K.Sink.held c.push.new.self)
    c.in_ok-flush.ensures.printed c.in_ok-flush.ensures.empty c.push.result c.push.ensures.octets
