use Rattle.std.proofs.Common.{◌≡◌, ◌++◌, codes, decimal, ap, ◌∙◌, sym, subst}
use Rattle.narc_packet.specs.TextWords.{hex_word}
use Rattle.narc_text.specs.Printing.{IsPrinted}
use Rattle.narc_text.proofs.PacketTexts.{raw-front, raw-parts}
use Rattle.narc_text.proofs.Printings.{IsPrinted-room}
use Rattle.narc_text.proofs.packet.print_raw.Goals as goal

pub returns-clause-printed : goal.returns-clause-printed
returns-clause-printed g c =
    let page = c.args.page.now in
    let roomy = c.make_room.new.self in
    let before = g.K.Sink.held c.args.sink.now in
    let middle = g.K.Sink.held c.make_room.new.sink in
    let after = g.K.Sink.held c.print_hex.new.sink in
    let front = codes " raw " ++ (decimal c.args.protocol ++ codes " ") in
    let put : c.put-2.new.self ≡ roomy ++ front =
    c.put-2.ensures
    ∙ ap (λ l. l ++ codes " ") (c.put_octet.ensures.value ∙ ap (λ l. l ++ decimal c.args.protocol) c.put.ensures)
    ∙ raw-front roomy c.args.protocol in
    subst (λ l. IsPrinted c.print_hex.result l page c.print_hex.new.page before after) (sym (raw-parts c.args.protocol c.args.payload.now))
    (IsPrinted-room front (hex_word c.args.payload.now) page roomy c.put-2.new.self c.print_hex.new.page before middle after c.print_hex.result
    c.in_ok-make_room.ensures.printed put c.print_hex.ensures.printed)
