use Rattle.narc_packet.specs.PacketView.{view}
use Rattle.narc_text.specs.PacketText.{text}
use Rattle.narc_text.proofs.Printings.{IsPushed-flushed, IsPushed-stopped}
use Rattle.narc_text.proofs.packet.put_packet.Goals as goal

pub returns-in_err-print_packet-clause-pushed : goal.returns-in_err-print_packet-clause-pushed
returns-in_err-print_packet-clause-pushed g c =
    IsPushed-stopped (text (view c.args.packet.now)) c.new-page.result (g.K.Sink.held c.args.sink.now) (g.K.Sink.held c.print_packet.new.sink)
    c.from_residual.result c.new-page.ensures c.from_residual.ensures.0 c.in_err-print_packet.ensures.printed

pub returns-clause-pushed : goal.returns-clause-pushed
returns-clause-pushed g c =
    IsPushed-flushed (text (view c.args.packet.now)) c.new-page.result c.print_packet.new.page c.flush.new.self
    (g.K.Sink.held c.args.sink.now) (g.K.Sink.held c.print_packet.new.sink) (g.K.Sink.held c.flush.new.sink) c.flush.result
    c.new-page.ensures c.in_ok-print_packet.ensures.printed c.flush.ensures.printed c.flush.ensures.empty
