use Rattle.std.proofs.Common.{◌≡◌, decimal, sym, ap, ◌∙◌, arith}
use Rattle.std.proofs.lemmas.Slice.Eq.{bytes_eq-Decides}
use Rattle.narc_run.proofs.Numbers.{number_up_to-text, number_up_to-other}
use Rattle.narc_run.proofs.job.number_up_to.Goals as goal
use Rattle.narc_run.proofs.job.number_up_to.Goals.{else-is_text_of-via-then-is_text_of+else-number-greatest, else-is_text_of-via-else-is_text_of}

pub returns-in_default : goal.returns-in_default
returns-in_default c =
    sym (number_up_to-other c.args.greatest c.args.word.now c.parse.result (omega arith) c.parse.ensures.value.0 (λ n is e h. cc))

pub returns-then-number-greatest : goal.returns-then-number-greatest
returns-then-number-greatest c =
    let text : decimal c.in-Ok.number ≡ c.args.word.now = (bytes_eq-Decides (decimal c.in-Ok.number) c.args.word.now).0 (sym c.is_text_of.ensures ∙ c.if-is_text_of.true) in
    sym (number_up_to-text c.args.greatest c.in-Ok.number c.args.word.now (omega arith) (sym text) (omega arith))

pub returns-else-is_text_of : goal.returns-else-is_text_of
returns-else-is_text_of c =
    sym (number_up_to-other c.args.greatest c.args.word.now c.parse.result (omega arith) c.parse.ensures.value.0 (λ n is e h.
    let same : c.in-Ok.number ≡ n = cc in
    let passes = (bytes_eq-Decides (decimal c.in-Ok.number) c.args.word.now).1 (ap decimal same ∙ sym e) in
    elim c.else-is_text_of.branch [
      | else-is_text_of-via-then-is_text_of+else-number-greatest w ↦ omega arith
      | else-is_text_of-via-else-is_text_of w ↦ cc (passes, c.is_text_of.ensures, w.if-is_text_of.false)
    ]))
