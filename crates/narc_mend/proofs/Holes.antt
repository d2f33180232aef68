-- Octets with a checksum in a hole, of which some in one word are others.
use Rattle.std.proofs.Common.{◌≡◌, ℕ, ◌+◌, ◌*◌, ◌/◌, ◌%◌, ◌<◌, ◌≤◌, ◌≢◌, ◌^◌, List, ◌++◌, length, sym, ap, ◌∙◌, subst, arith, length-append}
use Rattle.narc_bits.specs.Bits.{overlay}
use Rattle.narc_bits.specs.Octets.{IsOctets, big_endian, number_at}
use Rattle.narc_bits.specs.InternetSum.{total, IsGoodSum}
use Rattle.narc_bits.proofs.Lists.{overlay-behind, overlay-front}
use Rattle.narc_bits.proofs.NumbersAt.{number_at_small, number-front, number-behind}
use Rattle.narc_bits.proofs.Overlays.{IsOctets-overlay}
use Rattle.narc_mend.specs.declared.mend.Zero.{Zero}
use Rattle.narc_mend.specs.Mended.{mended, with_word, with_mended_sum, DifferInWord}
use Rattle.narc_mend.proofs.Differences.{overlay-differs}
use Rattle.narc_mend.proofs.MendedSums.{mended_sums_are_good}

-- Octets by the checksum that stands in their hole.
pub record IsHole (hole : ℕ) (octets : ℕ → List ℕ) : Type 0 where
  pub inside : (sum : ℕ) → hole + 2 ≤ length (octets sum)
  pub sum_is : (sum : ℕ) → sum < 2 ^ 16 → number_at (octets sum) hole 2 ≡ sum
  pub put : (sum other : ℕ) → with_word (octets sum) hole other ≡ octets other

pub hole-behind : (front : List ℕ) (n hole : ℕ) (octets : ℕ → List ℕ) → length front ≡ n → IsHole hole octets → IsHole (n + hole) (λ sum. front ++ octets sum)
hole-behind front n hole octets size h = record {
  inside = λ sum. omega (arith, length-append front (octets sum), size, h.inside sum);
  sum_is = λ sum small. number-behind front (octets sum) n hole 2 size ∙ h.sum_is sum small;
  put = λ sum other. overlay-behind front (octets sum) n hole (big_endian 2 other) size ∙ ap (λ l. front ++ l) (h.put sum other);
}

pub hole-before : (hole : ℕ) (octets : ℕ → List ℕ) (back : List ℕ) → IsHole hole octets → IsHole hole (λ sum. octets sum ++ back)
hole-before hole octets back h = record {
  inside = λ sum. omega (arith, length-append (octets sum) back, h.inside sum);
  sum_is = λ sum small. number-front (octets sum) back hole 2 (h.inside sum) ∙ h.sum_is sum small;
  put = λ sum other. overlay-front (octets sum) back hole (big_endian 2 other) (h.inside sum) ∙ ap (λ l. l ++ back) (h.put sum other);
}

-- Some octets of one word, beside a hole, in so many octets.
pub record IsWordChange (size hole k : ℕ) (octets : List ℕ) : Type 0 where
  pub each : IsOctets octets
  pub in_word : k + length octets ≤ k / 2 * 2 + 2
  pub inside : k / 2 * 2 + 2 ≤ size
  pub apart : hole ≢ k / 2 * 2

module _ (hole k : ℕ) (octets : List ℕ) (zero : Zero) (old new : ℕ → List ℕ) (h : IsHole hole old) (g : IsHole hole new) (sum : ℕ) (small : sum < 2 ^ 16) where
  abbrev word : ℕ
  word = k / 2 * 2

  abbrev next_sum : ℕ
  next_sum = mended sum (number_at (old sum) word 2) (number_at (new sum) word 2) zero

  mended_is : with_mended_sum (old sum) (new sum) hole word zero ≡ new next_sum
  mended_is = ap (λ s. with_word (new sum) hole (mended s (number_at (old sum) word 2) (number_at (new sum) word 2) zero)) (h.sum_is sum small) ∙ g.put sum next_sum

  -- the sum stays good, where the new octets are not all 0
  pub stays_good : hole % 2 ≡ 0 → IsWordChange (length (old sum)) hole k octets → overlay (old sum) k octets ≡ new sum → IsOctets (old sum) → 0 < total (new next_sum) → IsGoodSum (old sum) → IsGoodSum (new next_sum)
  stays_good even c overlaid each some good =
      subst IsGoodSum mended_is
      (mended_sums_are_good (old sum) (new sum) hole word zero
      (subst (λ l. DifferInWord (old sum) l word) overlaid (overlay-differs (old sum) word k octets (omega arith) c.in_word c.inside))
      (record { even = omega arith; hole_even = even; apart = c.apart; inside = c.inside; hole_inside = h.inside sum })
      (number_at_small (new sum) word (subst IsOctets overlaid (IsOctets-overlay (old sum) k octets each c.each)))
      (subst (λ l. 0 < total l) (sym mended_is) some) good)
