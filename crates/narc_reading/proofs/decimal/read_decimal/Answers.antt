use Rattle.std.proofs.Common.{◌≡◌, ◌≢◌, ℕ, ◌+◌, ◌*◌, ◌<◌, ◌≤◌, ◌⊎◌, inl, inr, List, decimal, length, get_or, ap, sym, ◌∙◌, subst, arith}
use Rattle.std.proofs.lemmas.Bool.Decides.{nat_tests}
use Rattle.std.proofs.lemmas.List.{take_all}
use Rattle.std.specs.Str.Parse.{AllDigits, digits_value}
use Rattle.narc_reading.proofs.Decimals.{IsPlain, IsPlain-decimal, decimal-plain, digits_value-of_decimal, value-below, each-more, value-more, no-digit}
use Rattle.narc_reading.proofs.Refusals.{IsReadBy-refused}
use Rattle.narc_reading.proofs.decimal.read_decimal.Goals as goal
use Rattle.narc_reading.proofs.decimal.read_decimal.Goals.{else-digits-eq48-via-then-digits-eq48+else-digits-gt1, else-digits-eq48-via-else-digits-eq48}

pub returns-then-is_empty : goal.returns-then-is_empty
returns-then-is_empty c = λ v small e.
    let plain = (IsPlain-decimal v (omega arith)).some in
    let size = ap length e in
    grind (arith, nat_tests)

pub returns-then-digits-gt-MOST : goal.returns-then-digits-gt-MOST
returns-then-digits-gt-MOST c = λ v small e.
    let plain = IsPlain-decimal v (omega arith) in
    omega (arith, ap length e, plain.few)

pub returns-then-digits-gt1 : goal.returns-then-digits-gt1
returns-then-digits-gt1 c = λ v small e.
    let plain = IsPlain-decimal v (omega arith) in
    omega (arith, ap length e, plain.first (sym (ap (λ l. get_or l 0 0) e) ∙ c.if-digits-eq48.true))

pub overflow_mul-number : goal.overflow_mul-number
overflow_mul-number c =
    let below = value-below c.args.digits.now c.loop-digit.digit-index c.loop-digit.invariant.each (omega arith) in
    omega (arith, below)

pub overflow_add-number : goal.overflow_add-number
overflow_add-number c =
    let below = value-below c.args.digits.now c.loop-digit.digit-index c.loop-digit.invariant.each (omega arith) in
    omega (arith, below)

pub returns-in_err-read_digit : goal.returns-in_err-read_digit
returns-in_err-read_digit c =
    let i = c.loop-digit.digit-index in
    IsReadBy-refused (λ n. n) decimal (λ n. n < c.args.limit) _ _ c.from_residual.ensures.0
    (λ v small e. no-digit v i (omega arith) (omega (arith, ap length e)) (λ d low is. c.in_err-read_digit.ensures d low (ap (λ l. get_or l i 0) e ∙ is)))

pub loop-digit-preserved : goal.loop-digit-preserved
loop-digit-preserved c =
    let digits = c.args.digits.now in
    let i = c.loop-digit.digit-index in
    let digit = c.in_ok-read_digit.ensures in
    record {
      each = each-more digits i c.in_ok-read_digit.field-0 (omega arith) digit.1 digit.0 c.loop-digit.invariant.each;
      value = ap (λ n. 10 * c.loop-digit.number + n) c.from.ensures ∙ value-more digits i c.in_ok-read_digit.field-0 c.loop-digit.number (omega arith) digit.1 digit.0 c.loop-digit.invariant.value;
    }

single : (digits : List ℕ) → 0 < length digits → ((get_or digits 0 0 ≡ 48) × (length digits ≤ 1)) ⊎ (get_or digits 0 0 ≢ 48) → get_or digits 0 0 ≡ 48 → length digits ≡ 1
single digits some (inl few) e = omega (arith, few.1)
single digits some (inr other) e = absurd (other e)

pub returns-then-number-limit : goal.returns-then-number-limit
returns-then-number-limit c =
    let digits = c.args.digits.now in
    let whole = take_all c.loop-digit.digit-index digits (omega arith) in
    let some : 0 < length digits = grind (arith, nat_tests) in
    let plain : IsPlain digits = record {
      each = subst (AllDigits 10) whole c.loop-digit.invariant.each;
      some = some;
      few = c.if-digits-gt-MOST.false;
      first = single digits some c.else-digits-eq48.either;
    } in (
      c.if-number-limit.true,
      decimal-plain digits plain ∙ ap decimal (sym (c.loop-digit.invariant.value ∙ ap (digits_value 10) whole)),
    )

pub returns-else-number-limit : goal.returns-else-number-limit
returns-else-number-limit c = λ v small e.
    let digits = c.args.digits.now in
    let whole = take_all c.loop-digit.digit-index digits (omega arith) in
    omega (arith, c.loop-digit.invariant.value, ap (digits_value 10) whole, ap (digits_value 10) e, digits_value-of_decimal v (omega arith))
