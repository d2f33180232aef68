-- The sum of octets by one word of them.
use Rattle.std.proofs.Common.{◌≡◌, ℕ, ◌+◌, ◌%◌, ◌<◌, ◌≤◌, List, [], ◌∷◌, ◌++◌, length, take, drop, refl, ap, arith, length-drop, length-take}
use Rattle.std.proofs.lemmas.List.{drop-drop, length-take-le}
use Rattle.narc_bits.specs.Bits.{overlay}
use Rattle.narc_bits.specs.Octets.{big_endian, number_of, number_at}
use Rattle.narc_bits.specs.InternetSum.{total}
use Rattle.narc_bits.proofs.NumbersAt.{number_at-take}
use Rattle.narc_bits.proofs.Sums.{total-append, total-word, total-split}

-- the number in two octets is their sum
number-total : (l : List ℕ) → length l ≡ 2 → total l ≡ number_of l
unfolding total
number-total [] h = absurd (omega arith)
number-total (a ∷ []) h = absurd (omega arith)
number-total (a ∷ b ∷ []) h = omega arith
number-total (a ∷ b ∷ c ∷ l) h = absurd (omega arith)

-- what is summed before and behind a word
abbrev pub around : List ℕ → (at : ℕ) → ℕ
around l at = total (take at l) + total (drop (at + 2) l)

module _ (l : List ℕ) (at : ℕ) (even : at % 2 ≡ 0) (inside : at + 2 ≤ length l) where
  pub total-at : total l ≡ number_at l at 2 + around l at
  total-at =
      let two : length (take 2 (drop at l)) ≡ 2 = omega (arith, length-take 2 (drop at l), length-drop at l) in
      omega (arith, total-split l at (omega arith) even, total-split (drop at l) 2 (omega (arith, length-drop at l)) refl, ap total (drop-drop 2 at l), number-total (take 2 (drop at l)) two, number_at-take l at 2)

  -- once the word is another
  pub total-with_word : (word : ℕ) → word < 65536 → total (overlay l at (big_endian 2 word)) ≡ word + around l at
  unfolding overlay
  total-with_word word small =
      let evens : length (take at l) % 2 ≡ 0 = omega (arith, length-take-le at l (omega arith), even) in
      omega (arith, total-append (take at l) (big_endian 2 word ++ drop (at + 2) l) evens, total-word word (drop (at + 2) l) small)
