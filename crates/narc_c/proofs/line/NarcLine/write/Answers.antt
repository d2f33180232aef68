use Rattle.narc_packet.specs.PacketView.{view}
use Rattle.narc_c.proofs.Lines.{text_fits}
use Rattle.narc_c.proofs.line.NarcLine.write.Goals as goal

pub unwrap-requires : goal.unwrap-requires
unwrap-requires c =
    let written = c.put_packet-written in
    let sink = written.new.sink in
    text_fits (view c.args.packet.now) c.requires written.result sink.len c.args.self.now.octets sink.octets c.known_size.ensures written.ensures.pushed written.ensures.faults
