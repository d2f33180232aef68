use Rattle.std.proofs.Common.{◌∷◌, codes, sym, ap, ◌∙◌}
use Rattle.narc_reading.proofs.HexTexts.{refused}
use Rattle.narc_reading.proofs.OptionParts.{option-named, option-parts, no-name}
use Rattle.narc_reading.proofs.Refusals.{first}
use Rattle.narc_reading.proofs.options.read_option.Goals as goal

pub returns-then-is_word : goal.returns-then-is_word
returns-then-is_word c =
    let rest = c.next.new.self in
    option-named c.args.word.now (codes "nop") rest c.read_nop.result (sym c.of-parts.ensures ∙ c.in_ok-name.ensures.ok ∙ ap (λ n. n ∷ rest) (c.is_word.ensures.0 c.if-is_word.true)) c.read_nop.ensures

pub returns-then-is_word-2 : goal.returns-then-is_word-2
returns-then-is_word-2 c =
    let rest = c.next.new.self in
    option-named c.args.word.now (codes "ts") rest c.read_times.result (sym c.of-parts.ensures ∙ c.in_ok-name.ensures.ok ∙ ap (λ n. n ∷ rest) (c.is_word-2.ensures.0 c.if-is_word-2.true)) c.read_times.ensures

pub returns-then-is_word-3 : goal.returns-then-is_word-3
returns-then-is_word-3 c =
    let rest = c.next.new.self in
    option-named c.args.word.now (codes "sack") rest c.read_sack.result (sym c.of-parts.ensures ∙ c.in_ok-name.ensures.ok ∙ ap (λ n. n ∷ rest) (c.is_word-3.ensures.0 c.if-is_word-3.true)) c.read_sack.ensures

pub returns-then-is_word-4 : goal.returns-then-is_word-4
returns-then-is_word-4 c =
    let rest = c.next.new.self in
    option-named c.args.word.now (codes "mss") rest c.read_size.result (sym c.of-parts.ensures ∙ c.in_ok-name.ensures.ok ∙ ap (λ n. n ∷ rest) (c.is_word-4.ensures.0 c.if-is_word-4.true)) c.read_size.ensures

pub returns-then-is_word-5 : goal.returns-then-is_word-5
returns-then-is_word-5 c =
    let rest = c.next.new.self in
    option-named c.args.word.now (codes "sackok") rest c.read_permitted.result (sym c.of-parts.ensures ∙ c.in_ok-name.ensures.ok ∙ ap (λ n. n ∷ rest) (c.is_word-5.ensures.0 c.if-is_word-5.true)) c.read_permitted.ensures

pub returns-then-is_word-6 : goal.returns-then-is_word-6
returns-then-is_word-6 c =
    let rest = c.next.new.self in
    option-named c.args.word.now (codes "scale") rest c.read_scale.result (sym c.of-parts.ensures ∙ c.in_ok-name.ensures.ok ∙ ap (λ n. n ∷ rest) (c.is_word-6.ensures.0 c.if-is_word-6.true)) c.read_scale.ensures

pub returns-then-is_word-7 : goal.returns-then-is_word-7
returns-then-is_word-7 c =
    let rest = c.next.new.self in
    option-named c.args.word.now (codes "opt") rest c.read_other.result (sym c.of-parts.ensures ∙ c.in_ok-name.ensures.ok ∙ ap (λ n. n ∷ rest) (c.is_word-7.ensures.0 c.if-is_word-7.true)) c.read_other.ensures

pub returns : goal.returns
returns c = λ o is e.
    no-name c.in_ok-name.name.now (refused c.is_word.result c.if-is_word.false c.is_word.ensures.1) (refused c.is_word-2.result c.if-is_word-2.false c.is_word-2.ensures.1) (refused c.is_word-3.result c.if-is_word-3.false c.is_word-3.ensures.1) (refused c.is_word-4.result c.if-is_word-4.false c.is_word-4.ensures.1) (refused c.is_word-5.result c.if-is_word-5.false c.is_word-5.ensures.1) (refused c.is_word-6.result c.if-is_word-6.false c.is_word-6.ensures.1) (refused c.is_word-7.result c.if-is_word-7.false c.is_word-7.ensures.1) o
    (first (sym c.in_ok-name.ensures.ok ∙ c.of-parts.ensures ∙ option-parts c.args.word.now o is e))
