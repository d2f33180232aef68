-- Words that assign fields, one after the other.
use Rattle.std.proofs.Common.{◌≡◌, ℕ, suc, ◌+◌, Bool, true, false, List, ◌∷◌, length, Some, None, drop, refl, sym, ap, ◌∙◌, add-one, eq-eqb}
use Rattle.std.specs.Prelude.{slice_get, bytes_eq, option_and_then, if◌then◌else◌}
use Rattle.std.specs.List.{position_or_len, before_first, after_first}
use Rattle.std.proofs.Math.Seq.{drop-cons}
use Rattle.std.proofs.lemmas.Option.{slice_get_within, get_or_from_slice_get}
use Rattle.std.proofs.lemmas.Slice.Eq.{bytes_eq-Decides}
use Rattle.narc_edit.specs.declared.edits.Edits.{Edits}
use Rattle.narc_edit.specs.Assignments.{edits_after, is_equals_sign, with_value, with_word}

otherwise : {A : Type 0} (b : Bool) (x y z : A) → (b ≡ true → ⊥) → z ≡ y → z ≡ (if b then x else y)
otherwise true x y z no_ e = absurd (no_ refl)
otherwise false x y z no_ e = e

-- the row of another name is passed over
pub other_name : {A : Type 0} (name row : List ℕ) (x y z : A) → (name ≡ row → ⊥) → z ≡ y → z ≡ (if bytes_eq name row then x else y)
other_name name row x y z differs e = otherwise (bytes_eq name row) x y z (λ h. differs ((bytes_eq-Decides name row).0 h)) e

begins_with : (words : List (List ℕ)) (i : ℕ) (word : List ℕ) → slice_get words i ≡ Some word → drop i words ≡ word ∷ drop (i + 1) words
begins_with words i word h =
    drop-cons words i word (slice_get_within words i word h)
    ∙ ap (λ first. first ∷ drop (suc i) words) (get_or_from_slice_get words i word word h)
    ∙ ap (λ n. word ∷ drop n words) (sym (add-one i))

module _ (es : Edits) (words : List (List ℕ)) (i : ℕ) (word : List ℕ) (h : slice_get words i ≡ Some word) where
  then_rest : edits_after es (drop i words) ≡ option_and_then (λ next. edits_after next (drop (i + 1) words)) (with_word es word)
  then_rest = ap (edits_after es) (begins_with words i word h)

  -- the assignments of one word more
  pub edits_after-word : (next : Edits) → with_word es word ≡ Some next → edits_after next (drop (i + 1) words) ≡ edits_after es (drop i words)
  edits_after-word next e = sym (then_rest ∙ ap (option_and_then (λ next. edits_after next (drop (i + 1) words))) e)

  -- a word that assigns nothing
  pub edits_after-none : with_word es word ≡ None → edits_after es (drop i words) ≡ None
  edits_after-none e = then_rest ∙ ap (option_and_then (λ next. edits_after next (drop (i + 1) words))) e

-- a word without a `=` assigns nothing
pub with_word-none : (es : Edits) (word : List ℕ) → position_or_len is_equals_sign word ≡ length word → with_word es word ≡ None
with_word-none es word e =
    ap (λ b. if b then None else with_value es (before_first is_equals_sign word) (after_first is_equals_sign word))
    (eq-eqb (position_or_len is_equals_sign word) (length word) e)
