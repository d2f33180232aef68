use Rattle.std.proofs.Common.{sym, subst}
use Rattle.narc_packet.specs.PacketView.{udp_view}
use Rattle.narc_packet.specs.TextWords.{hex_word}
use Rattle.narc_text.specs.Printing.{udp_front, IsPrinted}
use Rattle.narc_text.proofs.PacketTexts.{udp-parts}
use Rattle.narc_text.proofs.Printings.{IsPrinted-room}
use Rattle.narc_text.proofs.packet.print_udp.Goals as goal

pub returns-clause-printed : goal.returns-clause-printed
returns-clause-printed g c =
    let page = c.args.page.now in
    let udp = udp_view c.args.udp.now in
    let before = g.K.Sink.held c.args.sink.now in
    let middle = g.K.Sink.held c.make_room.new.sink in
    let after = g.K.Sink.held c.print_hex.new.sink in
    subst (λ l. IsPrinted c.print_hex.result l page c.print_hex.new.page before after) (sym (udp-parts udp))
    (IsPrinted-room (udp_front udp) (hex_word udp.payload) page c.make_room.new.self c.put_udp.new.page c.print_hex.new.page before middle after c.print_hex.result
    c.in_ok-make_room.ensures.printed c.put_udp.ensures c.print_hex.ensures.printed)
