-- Words that are numbers, as they are parsed: a parser takes more words than those.
use Rattle.std.proofs.Common.{◌≡◌, ℕ, ◌<◌, ◌≤◌, ◌^◌, Bool, true, false, List, Some, None, Result, Ok, sym, ap, ◌∙◌, refl, arith}
use Rattle.std.specs.Prelude.{◌&&◌, decimal, bytes_eq, if◌then◌else◌}
use Rattle.std.specs.Str.Parse.{digits_value, ParsesUnsigned}
use Rattle.std.proofs.lemmas.Bool.{le-leb, leb-true}
use Rattle.std.proofs.lemmas.Fmt.{decimal_is_IsNumeral, parse-decimal}
use Rattle.std.proofs.lemmas.Slice.Eq.{bytes_eq-Decides}
use Rattle.narc_run.specs.Numbers.{number_up_to}

taken : (b c : Bool) (m n : ℕ) → b ≡ true → c ≡ true → m ≡ n → (if b && c then Some m else None) ≡ Some n
taken true true m n p q e = ap Some e
taken true false m n p q e = cc
taken false c m n p q e = cc

not_taken : (b c : Bool) (m : ℕ) → (b ≡ true → c ≡ true → ⊥) → (if b && c then Some m else None) ≡ None
not_taken true true m no_ = absurd (no_ refl refl)
not_taken true false m no_ = refl
not_taken false c m no_ = refl

pub number_up_to-text : (greatest n : ℕ) (word : List ℕ) → n < 2 ^ 32 → word ≡ decimal n → n ≤ greatest → number_up_to greatest word ≡ Some n
number_up_to-text greatest n word small e h =
    let value : digits_value 10 word ≡ n = ap (digits_value 10) e ∙ (decimal_is_IsNumeral n (omega arith)).1 in
    taken (bytes_eq (decimal (digits_value 10 word)) word) _ (digits_value 10 word) n
    ((bytes_eq-Decides (decimal (digits_value 10 word)) word).1 (ap decimal value ∙ sym e))
    (le-leb (digits_value 10 word) greatest (omega arith)) value

pub number_up_to-other : {E : Type 0} (greatest : ℕ) (word : List ℕ) (r : Result ℕ E) → greatest < 2 ^ 32 → ParsesUnsigned 32 10 word r
    → ((n : ℕ) → r ≡ Ok n → word ≡ decimal n → n ≤ greatest → ⊥) → number_up_to greatest word ≡ None
number_up_to-other greatest word r small parses no_ =
    let n = digits_value 10 word in
    not_taken (bytes_eq (decimal n) word) _ n (λ p q.
    let e : word ≡ decimal n = sym ((bytes_eq-Decides (decimal n) word).0 p) in
    let h : n ≤ greatest = leb-true n greatest q in
    no_ n (parse-decimal 32 n word r (omega arith) (omega arith) e parses) e h)
