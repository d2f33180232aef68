-- Words as the values that they spell: a reader that answers the value whose text the word is, or that it is the text of none,
-- answers the value of the word.
use Rattle.std.proofs.Common.{◌≡◌, Bool, true, false, List, ℕ, Some, None, Result, Ok, Err, refl, sym, ap, ◌∙◌}
use Rattle.std.specs.Prelude.{◌&&◌, bytes_eq, if◌then◌else◌}
use Rattle.std.specs.Result.{result_ok}
use Rattle.std.proofs.lemmas.Slice.Eq.{bytes_eq-Decides}
use Rattle.narc_reading.specs.declared.error.BadLine.{BadLine}
use Rattle.narc_reading.specs.Reading.{IsRead}
use Rattle.narc_edit.specs.WordValues.{spelled_by}

-- each value is guessed from its text, and what is wanted are the values
pub record IsGuess {V : Type 0} (text : V → List ℕ) (IsValue : V → Type 0) (is_wanted : V → Bool) (guess : List ℕ → V) : Type 0 where
  pub back : (v : V) → IsValue v → guess (text v) ≡ v
  pub wanted : (v : V) → IsValue v → is_wanted v ≡ true
  pub only : (v : V) → is_wanted v ≡ true → IsValue v

taken : {V : Type 0} (b c : Bool) (v w : V) → b ≡ true → c ≡ true → v ≡ w → (if b && c then Some v else None) ≡ Some w
taken true true v w p q e = ap Some e
taken true false v w p q e = cc
taken false c v w p q e = cc

not_taken : {V : Type 0} (b c : Bool) (v : V) → (b ≡ true → c ≡ true → ⊥) → (if b && c then Some v else None) ≡ None
not_taken true true v no_ = absurd (no_ refl refl)
not_taken true false v no_ = refl
not_taken false c v no_ = refl

module _ {V : Type 0} (text : V → List ℕ) (IsValue : V → Type 0) (is_wanted : V → Bool) (guess : List ℕ → V) (g : IsGuess text IsValue is_wanted guess) (word : List ℕ) where
  pub value_of_reading : (r : Result V BadLine) → IsRead text IsValue word r → result_ok r ≡ spelled_by word text is_wanted (guess word)
  value_of_reading (Ok v) h =
      let guessed : guess word ≡ v = ap guess h.1 ∙ g.back v h.0 in
      sym (taken (bytes_eq (text (guess word)) word) (is_wanted (guess word)) (guess word) v
      ((bytes_eq-Decides (text (guess word)) word).1 (ap text guessed ∙ sym h.1))
      (ap is_wanted guessed ∙ g.wanted v h.0) guessed)
  value_of_reading (Err e) h =
      sym (not_taken (bytes_eq (text (guess word)) word) (is_wanted (guess word)) (guess word)
      (λ p q. h (guess word) (g.only (guess word) q) (sym ((bytes_eq-Decides (text (guess word)) word).0 p))))
