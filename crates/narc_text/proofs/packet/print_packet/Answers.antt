use Rattle.std.proofs.Common.{sym, subst}
use Rattle.narc_packet.specs.PacketView.{view}
use Rattle.narc_text.specs.Printing.{addresses, IsPrinted}
use Rattle.narc_text.proofs.PacketTexts.{text-parts}
use Rattle.narc_text.proofs.Printings.{IsPrinted-then, Passes-room}
use Rattle.narc_text.proofs.packet.print_packet.Goals as goal

pub returns-clause-printed : goal.returns-clause-printed
returns-clause-printed g c =
    let before = g.K.Sink.held c.args.sink.now in
    let middle = g.K.Sink.held c.make_room.new.sink in
    let after = g.K.Sink.held c.print_body.new.sink in
    let front = addresses c.args.packet.now.dst c.args.packet.now.src in
    subst (λ l. IsPrinted c.print_body.result l c.args.page.now c.print_body.new.page before after) (sym (text-parts (view c.args.packet.now)))
    (IsPrinted-then front _ c.args.page.now c.put_addresses.new.page c.print_body.new.page before middle after c.print_body.result
    (Passes-room front c.args.page.now c.make_room.new.self c.put_addresses.new.page before middle c.in_ok-make_room.ensures.printed c.put_addresses.ensures.value) c.print_body.ensures.printed)
