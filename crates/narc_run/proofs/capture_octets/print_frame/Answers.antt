use Rattle.std.proofs.Common.{[]}
use Rattle.narc_packet.specs.Canonical.{canonical_frame}
use Rattle.narc_packet.specs.PacketView.{view}
use Rattle.narc_pcap.specs.Written.{whole_record}
use Rattle.narc_text.proofs.Printings.{IsPrinted-stopped}
use Rattle.narc_run.proofs.capture_octets.print_frame.Goals as goal

pub returns-in_err-make_room-clause-printed : goal.returns-in_err-make_room-clause-printed
returns-in_err-make_room-clause-printed g c =
    IsPrinted-stopped [] (whole_record c.args.big c.args.head.now.sec c.args.head.now.sub (canonical_frame (view c.args.packet.now)))
    c.args.page.now c.make_room.new.self (g.K.Sink.held c.args.sink.now) (g.K.Sink.held c.make_room.new.sink)
    c.from_residual.result c.from_residual.ensures.0 c.in_err-make_room.ensures.printed
