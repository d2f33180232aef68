use Rattle.narc_build.proofs.TextEnds.{IsPrinted-pushed}
use Rattle.narc_build.proofs.capture.tell_waiting.Goals as goal

pub returns-clause-printed : goal.returns-clause-printed
returns-clause-printed g c =
    IsPrinted-pushed c.args.writer.now.octets c.flush.new.self.octets (g.K.Sink.held c.args.sink.now) (g.K.Sink.held c.flush.new.sink) c.flush.result c.flush.ensures.pushed c.flush.ensures.empty
