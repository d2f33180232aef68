use Rattle.narc_build.proofs.TextEnds.{ended_cut}
use Rattle.narc_build.proofs.capture.end_text.Goals as goal

pub returns-in_err-flush-clause-ended : goal.returns-in_err-flush-clause-ended
returns-in_err-flush-clause-ended g c =
    ended_cut c.args.lines.now (g.S.Source.left c.args.source.now) c.args.writer.now (g.K.Sink.held c.args.sink.now) (g.K.Sink.held c.flush.new.sink)
    c.from_residual.result c.from_residual.ensures.0 c.in_err-flush.ensures.pushed
