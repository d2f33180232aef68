use Rattle.std.proofs.Common.{◌++◌, subst}
use Rattle.narc_world.specs.Outside.{IsPushed}
use Rattle.narc_world.proofs.Pushes.{IsPushed-cut, IsPushed-then}
use Rattle.narc_pcap.proofs.writer.write_record.Goals as goal

pub returns-in_err-push-clause-pushed : goal.returns-in_err-push-clause-pushed
returns-in_err-push-clause-pushed g c =
    subst (λ l. IsPushed c.from_residual.result (g.K.Sink.held c.args.sink.now) (g.K.Sink.held c.push.new.self) (l ++ c.args.frame.now)) c.put_head.ensures
    (IsPushed-cut _ c.args.frame.now (g.K.Sink.held c.args.sink.now) (g.K.Sink.held c.push.new.self) c.from_residual.result c.from_residual.ensures.0 c.in_err-push.ensures.octets)

pub returns-clause-pushed : goal.returns-clause-pushed
returns-clause-pushed g c =
    subst (λ l. IsPushed c.push-2.result (g.K.Sink.held c.args.sink.now) (g.K.Sink.held c.push-2.new.self) (l ++ c.args.frame.now)) c.put_head.ensures
    (IsPushed-then _ c.args.frame.now (g.K.Sink.held c.args.sink.now) (g.K.Sink.held c.push.new.self) (g.K.Sink.held c.push-2.new.self) c.push-2.result c.in_ok-push.ensures.octets c.push-2.ensures.octets)
