use Rattle.std.proofs.Common.{◌≡◌, ◌≤◌, length, set, subst, arith, rules}
use Rattle.std.proofs.lemmas.Fmt.{length-decimal-le}
use Rattle.narc_text.specs.Texts.{IsText}
use Rattle.narc_text.proofs.ShortTexts.{IsText-written}
use Rattle.narc_text.proofs.texts.text_of.Goals as goal

pub returns : goal.returns
returns c =
    let n = c.from-number.result in
    let width = c.width_of_four-width.result in
    let most = length-decimal-le 3 n (omega arith) (omega (arith, c.from-number.ensures, c.ranges.number.fits)) (omega (arith, c.from-number.ensures, c.ranges.number.fits)) in
    let few : width ≤ 3 = omega (arith, c.width_of_four-width.ensures.value, most) in
    let size : length c.write_digits.new.buf ≡ 4 = search rules in
    subst (λ m. IsText m (set c.write_digits.new.buf 3 width)) c.from-number.ensures
    (IsText-written n width c.write_digits.result c.write_digits.new.buf _ c.write_digits.ensures.start c.width_of_four-width.ensures.value few size c.write_digits.ensures.written)
