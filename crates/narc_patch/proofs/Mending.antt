-- Checksums, mended one behind the other.
use Rattle.std.proofs.Common.{◌≡◌, ℕ, suc, ◌+◌, ◌<◌, ◌≤◌, List, ◌∷◌, length, drop, fold, get_or, ap, ◌∙◌, subst, sym, arith}
use Rattle.std.specs.List.{AllByRecursion}
use Rattle.std.proofs.Math.Seq.{drop-cons}
use Rattle.narc_patch.specs.declared.change.Checksum.{Checksum}

module _ (sums : List Checksum) (i : ℕ) (or : Checksum) (h : i < length sums) where
  next : drop i sums ≡ get_or sums i or ∷ drop (i + 1) sums
  next = let e : suc i ≡ i + 1 = omega arith in drop-cons sums i or h ∙ ap (λ n. get_or sums i or ∷ drop n sums) e

  pub mended_next : (mend : List ℕ → Checksum → List ℕ) (l whole : List ℕ) → fold mend l (drop i sums) ≡ whole → fold mend (mend l (get_or sums i or)) (drop (i + 1) sums) ≡ whole
  mended_next mend l whole is = sym (ap (fold mend l) next) ∙ is

  abbrev Inside : ℕ → List Checksum → Type 0
  Inside size rest = AllByRecursion (λ (sum : Checksum). sum.at + 2 ≤ size) rest

  pub inside_next : (size same : ℕ) → same ≡ size → Inside size (drop i sums) → Inside same (drop (i + 1) sums)
  inside_next size same e all = subst (λ n. Inside n (drop (i + 1) sums)) (sym e) (subst (Inside size) next all).1

  pub inside_here : (size : ℕ) → Inside size (drop i sums) → (get_or sums i or).at + 2 ≤ size
  inside_here size all = (subst (Inside size) next all).0
