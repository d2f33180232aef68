-- Decimal numbers and their digits.
use Rattle.std.proofs.Common.{◌≡◌, ◌≢◌, ℕ, ◌+◌, ◌-◌, ◌*◌, ◌^◌, ◌<◌, ◌≤◌, List, decimal, length, get_or, take, sym, ap, arith, length-take}
use Rattle.std.proofs.lemmas.Bool.Decides.{nat_tests}
use Rattle.std.proofs.lemmas.Bool.{cases_lt}
use Rattle.std.proofs.Common.{inl, inr, subst}
use Rattle.std.proofs.lemmas.Fmt.{decimal_digit, digits_decimal, digits_value-decimal, decimal_nonempty, first_decimal, length-decimal-le, decimal-digits_value}
use Rattle.std.proofs.lemmas.Str.Parse.{IsNumeralModel, numerals_by_value, tells_digits, digits_value_short, digit_at}
use Rattle.std.proofs.lemmas.Int.Digits.{digits_more, digits_value_more}
use Rattle.std.specs.Char.{digit_value}
use Rattle.std.specs.Str.Parse.{AllDigits, digits_value}

-- digits are numerals of std
own : IsNumeralModel (AllDigits 10) (digits_value 10)
own = numerals_by_value (AllDigits 10) tells_digits

pub digit_value-digit : (n : ℕ) → n < 10 → digit_value (48 + n) ≡ n
digit_value-digit n h = grind (arith, nat_tests)

pub digit-from_value : (c : ℕ) → digit_value c < 10 → c ≡ 48 + digit_value c
digit-from_value c h = grind (arith, nat_tests)

-- what a number's text is like
pub record IsPlain (digits : List ℕ) : Type 0 where
  pub each : AllDigits 10 digits
  pub some : 0 < length digits
  pub few : length digits ≤ 19
  pub first : get_or digits 0 0 ≡ 48 → length digits ≡ 1

first-zero : (n : ℕ) → n < 2 ^ 64 → get_or (decimal n) 0 0 ≡ 48 → length (decimal n) ≡ 1
first-zero n h e = elim (cases_lt 0 n) [
  | inl some ↦ absurd (omega (arith, first_decimal n some h))
  | inr none ↦ ap length (decimal_digit n (omega arith))
]

pub IsPlain-decimal : (n : ℕ) → n < 10 ^ 19 → IsPlain (decimal n)
IsPlain-decimal n h =
    let fits : n < 2 ^ 64 = omega (arith, h) in
    record {
      each = digits_decimal own n fits;
      some = decimal_nonempty n fits;
      few = length-decimal-le 19 n (omega arith) h fits;
      first = first-zero n fits;
    }

-- plain digits are the text of their value
pub decimal-plain : (digits : List ℕ) → IsPlain digits → digits ≡ decimal (digits_value 10 digits)
decimal-plain digits h =
    let bound = digits_value_short own digits 19 h.each h.few in
    sym (decimal-digits_value own digits h.each h.some h.first (omega (arith, bound)))

pub digits_value-of_decimal : (n : ℕ) → n < 10 ^ 19 → digits_value 10 (decimal n) ≡ n
digits_value-of_decimal n h = digits_value-decimal own n (omega (arith, h))

-- a value of fewer digits leaves room for one more
pub value-below : (digits : List ℕ) (i : ℕ) → AllDigits 10 (take i digits) → i ≤ 18 → digits_value 10 (take i digits) < 10 ^ 18
value-below digits i each few = digits_value_short own (take i digits) 18 each (omega (arith, length-take {A = ℕ}))

-- one digit more
pub each-more : (digits : List ℕ) (i n : ℕ) → i < length digits → get_or digits i 0 ≡ 48 + n → n < 10 → AllDigits 10 (take i digits) → AllDigits 10 (take (i + 1) digits)
each-more digits i n inside is small each =
    digits_more 10 digits i inside each (subst (λ c. digit_value c < 10) (sym is) (omega (arith, digit_value-digit n small)))

pub value-more : (digits : List ℕ) (i n number : ℕ) → i < length digits → get_or digits i 0 ≡ 48 + n → n < 10 → number ≡ digits_value 10 (take i digits)
    → 10 * number + n ≡ digits_value 10 (take (i + 1) digits)
value-more digits i n number inside is small value =
    omega (arith, digits_value_more 10 digits i inside, ap digit_value is, digit_value-digit n small, value)

-- what is no digit stands in no number's text
pub no-digit : (n i : ℕ) → n < 10 ^ 19 → i < length (decimal n) → ((d : ℕ) → d < 10 → get_or (decimal n) i 0 ≢ 48 + d) → ⊥
no-digit n i small inside other =
    let range = digit_at (decimal n) i (IsPlain-decimal n small).each inside in
    other (get_or (decimal n) i 0 - 48) (omega arith) (omega arith)
