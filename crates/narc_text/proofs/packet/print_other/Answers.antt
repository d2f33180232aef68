use Rattle.std.proofs.Common.{◌≡◌, ◌++◌, codes, decimal, ap, ◌∙◌, subst}
use Rattle.narc_packet.specs.TextWords.{hex_word}
use Rattle.narc_text.specs.Printing.{IsPrinted}
use Rattle.narc_text.proofs.PacketTexts.{other-front, other-parts}
use Rattle.narc_text.proofs.Printings.{IsPrinted-put}
use Rattle.narc_text.proofs.packet.print_other.Goals as goal

pub returns-clause-printed : goal.returns-clause-printed
returns-clause-printed g c =
    let page = c.args.page.now in
    let before = g.K.Sink.held c.args.sink.now in
    let after = g.K.Sink.held c.print_hex.new.sink in
    let front = codes " other " ++ (decimal c.args.ether_type ++ codes " ") in
    let put : c.put-2.new.self ≡ page ++ front =
    c.put-2.ensures
    ∙ ap (λ l. l ++ codes " ") (c.put_short.ensures.value ∙ ap (λ l. l ++ decimal c.args.ether_type) c.put.ensures)
    ∙ other-front page c.args.ether_type in
    subst (λ l. IsPrinted c.print_hex.result l page c.print_hex.new.page before after) (other-parts c.args.ether_type c.args.payload.now)
    (IsPrinted-put front (hex_word c.args.payload.now) page c.put-2.new.self c.print_hex.new.page before after c.print_hex.result put c.print_hex.ensures.printed)
