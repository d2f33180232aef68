-- Octets that are the same but for one word.
use Rattle.std.proofs.Common.{◌≡◌, ℕ, ◌+◌, ◌-◌, ◌≤◌, List, ◌++◌, length, take, drop, sym, ap, ◌∙◌, inl, inr, arith, length-append}
use Rattle.std.proofs.lemmas.List.{drop-drop, drop-take, length-take-le, take-append-le, take-take}
use Rattle.std.proofs.lemmas.Bool.{cases_lt}
use Rattle.narc_bits.specs.Bits.{overlay}
use Rattle.narc_bits.specs.Octets.{number_of, number_at}
use Rattle.narc_bits.specs.InternetSum.{total}
use Rattle.narc_bits.proofs.Lists.{length-overlay}
use Rattle.narc_bits.proofs.NumbersAt.{number_at-take}
use Rattle.narc_bits.proofs.Overlays.{drop-overlay}
use Rattle.narc_bits.proofs.SumWords.{around}
use Rattle.narc_mend.specs.Mended.{AreWords, DifferInWord}

-- what is overlaid differs in the word that has it
pub overlay-differs : (l : List ℕ) (word k : ℕ) (s : List ℕ) → word ≤ k → k + length s ≤ word + 2 → word + 2 ≤ length l → DifferInWord l (overlay l k s) word
unfolding overlay
overlay-differs l word k s low high inside = record {
  size = length-overlay l k s (omega (arith, high, inside));
  front = take-append-le word (take k l) (s ++ drop (k + length s) l) (omega (arith, length-take-le k l (omega arith), low)) ∙ take-take word k l low;
  back = drop-overlay l k s (word + 2) high (omega (arith, high, inside));
}

pub around-same : (old new : List ℕ) (at : ℕ) → DifferInWord old new at → around new at ≡ around old at
around-same old new at d = omega (arith, ap total d.front, ap total d.back)

-- another word is the same
pub number_at-same : (old new : List ℕ) (hole at : ℕ) → DifferInWord old new at → AreWords (length old) hole at → number_at new hole 2 ≡ number_at old hole 2
number_at-same old new hole at d w =
    let same : take 2 (drop hole new) ≡ take 2 (drop hole old) =
    elim (cases_lt at hole) [
      | inl before ↦
          let there : hole ≡ (at + 2) + (hole - (at + 2)) = omega (arith, before, w.even, w.hole_even) in
          let of : (l : List ℕ) → drop hole l ≡ drop (hole - (at + 2)) (drop (at + 2) l) = λ l. ap (λ n. drop n l) there ∙ sym (drop-drop (hole - (at + 2)) (at + 2) l) in
          ap (take 2) (of new ∙ ap (drop (hole - (at + 2))) d.back ∙ sym (of old))
      | inr h ↦ elim (cases_lt hole at) [
        | inl behind ↦
            let there : at ≡ hole + (at - hole) = omega (arith, behind) in
            let enough : 2 ≤ at - hole = omega (arith, behind, w.even, w.hole_even) in
            let of : (l : List ℕ) → take 2 (drop hole l) ≡ take 2 (drop hole (take at l)) = λ l. sym (ap (λ n. take 2 (drop hole (take n l))) there ∙ ap (take 2) (drop-take hole (at - hole) l) ∙ take-take 2 (at - hole) (drop hole l) enough) in
            of new ∙ ap (λ l. take 2 (drop hole l)) d.front ∙ sym (of old)
        | inr g ↦ absurd (w.apart (omega (arith, h, g)))
      ]
    ]
    in
    number_at-take new hole 2 ∙ ap number_of same ∙ sym (number_at-take old hole 2)
