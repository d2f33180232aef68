use Rattle.std.proofs.Common.{◌≡◌, ◌++◌, List, ℕ, codes, decimal, ap, ◌∙◌, append_assoc}
use Rattle.narc_packet.specs.TextWords.{hex_word}
use Rattle.narc_text.proofs.Printings.{IsPrinted-room}
use Rattle.narc_text.proofs.options.print_other.Goals as goal

front : (page : List ℕ) (kind : ℕ) → ((page ++ codes "opt:") ++ decimal kind) ++ codes ":" ≡ page ++ ((codes "opt:" ++ decimal kind) ++ codes ":")
front page kind = simp append_assoc

pub returns-clause-printed : goal.returns-clause-printed
returns-clause-printed g c =
    let roomy = c.make_room.new.self in
    let kind = c.args.kind in
    let put : c.put-2.new.self ≡ roomy ++ ((codes "opt:" ++ decimal kind) ++ codes ":") =
    c.put-2.ensures ∙ ap (λ l. l ++ codes ":") (c.put_octet.ensures.value ∙ ap (λ l. l ++ decimal kind) c.put.ensures) ∙ front roomy kind in
    IsPrinted-room ((codes "opt:" ++ decimal kind) ++ codes ":") (hex_word c.args.octets.now) c.args.page.now roomy c.put-2.new.self c.print_hex.new.page
    (g.K.Sink.held c.args.sink.now) (g.K.Sink.held c.make_room.new.sink) (g.K.Sink.held c.print_hex.new.sink) c.print_hex.result
    c.in_ok-make_room.ensures.printed put c.print_hex.ensures.printed
