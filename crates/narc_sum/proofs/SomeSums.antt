-- Octets of which a bit is 1 have a sum.
use Rattle.std.proofs.Common.{◌≡◌, ℕ, zero, suc, ◌+◌, ◌*◌, ◌/◌, ◌%◌, ◌^◌, ◌<◌, ◌≤◌, ◌⊎◌, Bool, true, false, List, [], ◌∷◌, ◌++◌, length, take, drop, sym, ap, subst, arith, inl, inr, length-drop, take-append-drop}
use Rattle.std.proofs.lemmas.Bool.{cases_lt}
use Rattle.std.proofs.lemmas.Nat.{pow_pos}
use Rattle.narc_bits.specs.Bits.{bits_of_number, number_of_bits, octets_of_bits}
use Rattle.narc_bits.specs.InternetSum.{total}
use Rattle.narc_bits.proofs.Numbers.{number_of_bits_lt, number_of_bits-bits_of_number_lt}
use Rattle.narc_format.specs.Holes.{IsHoled}
use Rattle.narc_format.specs.Meaning.{Meaning}
use Rattle.std.specs.Prelude.{IsTrue}
use Rattle.narc_sum.specs.declared.limits.TheConstants.{MAX_CHECKED}
use Rattle.narc_sum.specs.Checked.{CheckedSound}

-- bits of which one in front is 1
front_some : (a c : List Bool) → 0 < number_of_bits a → 0 < number_of_bits (a ++ c)
unfolding number_of_bits
front_some [] c h = absurd (omega (arith, h))
front_some (true ∷ a) c h = omega (arith, pow_pos (length (a ++ c)))
front_some (false ∷ a) c h = omega (arith, front_some a c (omega (arith, h)))

pub some-front : (a c : List Bool) {b : List Bool} → b ≡ a ++ c → 0 < number_of_bits a → 0 < number_of_bits b
some-front a c joined h = omega (arith, ap number_of_bits joined, front_some a c h)

-- bits of which one behind others is 1
behind_some : (a c : List Bool) → 0 < number_of_bits c → 0 < number_of_bits (a ++ c)
unfolding number_of_bits
behind_some [] c h = h
behind_some (x ∷ a) c h = omega (arith, behind_some a c h)

pub some-behind : (a c : List Bool) {b : List Bool} → b ≡ a ++ c → 0 < number_of_bits c → 0 < number_of_bits b
some-behind a c joined h = omega (arith, ap number_of_bits joined, behind_some a c h)

-- a number that is not 0
pub some_number : (n k : ℕ) → k < 2 ^ n → 0 < k → 0 < number_of_bits (bits_of_number n k)
some_number n k fits some = omega (arith, some, number_of_bits-bits_of_number_lt n k fits)

some_part : (a b : List Bool) → 0 < number_of_bits (a ++ b) → (0 < number_of_bits a) ⊎ (0 < number_of_bits b)
unfolding number_of_bits
some_part [] b h = inr h
some_part (true ∷ a) b h = inl (omega (arith, pow_pos (length a)))
some_part (false ∷ a) b h = elim (some_part a b (omega (arith, h))) [ inl some ↦ inl (omega (arith, some)) | inr some ↦ inr some ]

first_some : (octet : ℕ) (l : List ℕ) → 0 < octet → 0 < total (octet ∷ l)
unfolding total
first_some octet [] h = omega (arith, h)
first_some octet (p ∷ l) h = omega (arith, h)

later_some : (octet : ℕ) (l : List ℕ) → 0 < total l → 0 < total (octet ∷ l)
unfolding total
later_some o [] h = absurd (omega (arith, h))
later_some o (p ∷ []) h = omega (arith, h)
later_some o (p ∷ q ∷ l) h =
    elim (cases_lt 0 p) [
      | inl some ↦ omega (arith, some)
      | inr none ↦ elim (cases_lt 0 q) [
        | inl some ↦ omega (arith, first_some q l some)
        | inr nor ↦ omega (arith, later_some q l (omega (arith, h, none, nor)))
      ]
    ]

none_empty : (b : List Bool) → length b ≡ 0 → 0 < number_of_bits b → ⊥
none_empty b size h = omega (arith, h, number_of_bits_lt b, ap (λ k. 2 ^ k) size)

-- the octets of bits that are not all 0
pub octets_some : (n : ℕ) (b : List Bool) → length b ≡ 8 * n → 0 < number_of_bits b → 0 < total (octets_of_bits n b)
unfolding octets_of_bits
octets_some zero b size h = absurd (none_empty b size h)
octets_some (suc n) b size h =
    elim (some_part (take 8 b) (drop 8 b) (subst (λ l. 0 < number_of_bits l) (sym (take-append-drop 8 b)) h)) [
      | inl some ↦ first_some (number_of_bits (take 8 b)) (octets_of_bits n (drop 8 b)) some
      | inr some ↦ later_some (number_of_bits (take 8 b)) (octets_of_bits n (drop 8 b)) (octets_some n (drop 8 b) (omega (arith, size, length-drop 8 b)) some)
    ]

-- the conditions of a checked format: its hole, how many octets it has at most, and that its bits are not all 0
module _ {C V : Type 0} (pseudo_of : C → ℕ → List ℕ) (hole : ℕ) (F : Meaning C V) where
  pub checked_is_sound : F.sound → IsHoled F hole → hole % 2 ≡ 0 → IsTrue F.whole → IsTrue F.aligned
      → ((c : C) → F.valid c → (v : V) (b : List Bool) → F.stands c v b → (length b % 8 ≡ 0) × (length b ≤ 8 * MAX_CHECKED))
      → ((c : C) → F.valid c → (v : V) (b : List Bool) → F.stands c v b → 0 < number_of_bits b) → CheckedSound pseudo_of hole F
  checked_is_sound sound holed even whole aligned bound some = record {
    part_sound = sound;
    holed = holed;
    whole = whole;
    aligned = aligned;
    even = even;
    some = λ c ok v b p. let size = bound c ok v b p in omega (arith, octets_some (length b / 8) b (omega (arith, size.0)) (some c ok v b p));
    short = λ c ok v b p. (bound c ok v b p).1;
  }
