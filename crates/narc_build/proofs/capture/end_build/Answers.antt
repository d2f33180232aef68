use Rattle.narc_build.proofs.TextEnds.{shown_failed}
use Rattle.narc_build.proofs.capture.end_build.Goals as goal

pub returns-in_err-flush-clause-shown : goal.returns-in_err-flush-clause-shown
returns-in_err-flush-clause-shown g c =
    shown_failed c.args.writer.now.octets c.args.ending (g.K.Sink.held c.args.sink.now) (g.K.Sink.held c.flush.new.sink) c.from_residual.result c.from_residual.ensures.0
    c.in_err-flush.ensures.pushed
