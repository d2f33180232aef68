-- The checksum that is written into octets, and the octets with it.
use Rattle.std.proofs.Common.{◌≡◌, ℕ, zero, suc, ◌+◌, ◌*◌, ◌%◌, ◌≤◌, Bool, true, false, List, ◌++◌, length, nat_eq, if◌then◌else◌, refl, sym, ap, ◌∙◌, arith}
use Rattle.std.proofs.lemmas.Bool.{eqb-true}
use Rattle.narc_bits.specs.Octets.{IsOctets, big_endian}
use Rattle.narc_bits.specs.Bits.{bits, bits_of_number, overlay}
use Rattle.narc_bits.specs.InternetSum.{total, complement, checksum}
use Rattle.narc_bits.proofs.Spelled.{bits-overlay, bits-big_endian, length-big_endian}
use Rattle.narc_bits.proofs.Sums.{total-append}
use Rattle.narc_format.specs.Meaning.{Meaning}
use Rattle.narc_sum.specs.Checked.{with_word, sealing, never_zero}
use Rattle.narc_layout.proofs.SumReads.{sum_of_bits, sum_again}

-- 0 is written as all ones
pub never_zero_is : (n : ℕ) → never_zero n ≡ (if nat_eq n 0 then 65535 else n)
unfolding never_zero
never_zero_is zero = refl
never_zero_is (suc n) = ap (λ t. if t then 65535 else suc n) (sym (is_no (nat_eq (suc n) 0) refl)) where
  some : suc n ≡ 0 → ⊥
  some h = omega (arith, h)

  is_no : (t : Bool) → nat_eq (suc n) 0 ≡ t → nat_eq (suc n) 0 ≡ false
  is_no true e = absurd (some (eqb-true (suc n) 0 e))
  is_no false e = e

-- a format whose spelling is octets with a word of 0 in the hole
module _ {C V : Type 0} (F : Meaning C V) (pseudo_of : C → ℕ → List ℕ) (hole : ℕ) (c : C) (v : V) (octets : (word : ℕ) → List ℕ)
    (spelled : F.spelling c v ≡ bits (octets 0)) (each : IsOctets (octets 0)) (room : hole + 2 ≤ length (octets 0)) (put : (word : ℕ) → overlay (octets 0) hole (big_endian 2 word) ≡ octets word) where
  pub word_is : (word : ℕ) → with_word pseudo_of hole F word c v ≡ bits (octets word)
  word_is word =
      ap (λ b. overlay b (8 * hole) (bits_of_number 16 word)) spelled
      ∙ ap (overlay (bits (octets 0)) (8 * hole)) (sym (bits-big_endian 2 word))
      ∙ sym (bits-overlay (octets 0) hole (big_endian 2 word) (omega (arith, room, length-big_endian 2 word)))
      ∙ ap bits (put word)

  pub checksum_is : length (pseudo_of c (length (octets 0))) % 2 ≡ 0 → sealing pseudo_of hole F c v ≡ checksum (pseudo_of c (length (octets 0)) ++ octets 0)
  checksum_is even =
      let pseudo = pseudo_of c (length (octets 0)) in
      let sum : sum_of_bits pseudo_of c (with_word pseudo_of hole F 0 c v) ≡ total (pseudo ++ octets 0) =
      ap (sum_of_bits pseudo_of c) (word_is 0) ∙ sum_again pseudo_of c (octets 0) each ∙ sym (total-append pseudo (octets 0) even) in
      ap complement sum
