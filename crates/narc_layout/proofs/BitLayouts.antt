-- Formats of bits, without a context: which values stand, and by which bits.
use Rattle.std.proofs.Common.{◌≡◌, ℕ, ◌^◌, ◌<◌, ◌↔◌, Bool, List, [], ◌∷◌, ◌++◌, length, IsTrue, refl, ap, ◌∙◌}
use Rattle.narc_bits.specs.Bits.{bits, bits_of_number}
use Rattle.narc_bits.specs.Octets.{IsOctets}
use Rattle.narc_format.specs.Meaning.{Meaning}
use Rattle.narc_scalar.specs.Constant.{constant}
use Rattle.narc_scalar.specs.Flag.{flag}
use Rattle.narc_scalar.specs.Names.{enumerated}
use Rattle.narc_scalar.specs.Octets.{fixed_octets}
use Rattle.narc_scalar.specs.Tested.{tested}
use Rattle.narc_scalar.specs.Word.{word}
use Rattle.narc_compose.specs.Both.{both}
use Rattle.narc_compose.specs.Named.{named}
use Rattle.narc_compose.specs.Seq.{seq}

-- exactly the values in range stand, each for its own bits
pub record IsSpelled {V : Type 0} (m : Meaning (Unit {0}) V) (InRange : V → Type 0) (bits_of : V → List Bool) : Type 0 where
  pub stands : (v : V) (b : List Bool) → m.stands tt v b ↔ (InRange v × (b ≡ bits_of v))

pub word_spelled : (n : ℕ) → IsSpelled (word n) (λ v. v < 2 ^ n) (bits_of_number n)
unfolding word
word_spelled n = record { stands = λ v b. (λ p. p, λ h. h) }

pub constant_spelled : (n k : ℕ) → IsSpelled (constant n k) (λ v. Unit {0}) (λ v. bits_of_number n k)
unfolding constant
constant_spelled n k = record { stands = λ v b. (λ p. (tt, p), λ h. h.1) }

pub flag_spelled : IsSpelled flag (λ v. Unit {0}) (λ v. v ∷ [])
unfolding flag
flag_spelled = record { stands = λ v b. (λ p. (tt, p), λ h. h.1) }

pub octets_spelled : (n : ℕ) → IsSpelled (fixed_octets n) (λ v. (length v ≡ n) × IsOctets v) bits
unfolding fixed_octets
octets_spelled n = record { stands = λ v b. (λ p. ((p.size, p.each), p.is), λ h. record { size = h.0.0; each = h.0.1; is = h.1 }) }

module _ {V : Type 0} {m : Meaning (Unit {0}) V} {InRange : V → Type 0} {bits_of : V → List Bool} (S : IsSpelled m InRange bits_of) where
  pub tested_spelled : (holds : Unit {0} → V → Bool) → IsSpelled (tested holds m) (λ v. InRange v × IsTrue (holds tt v)) bits_of
  unfolding tested
  tested_spelled holds = record { stands = λ v b. (λ p. let h = (S.stands v b).0 p.0 in ((h.0, p.1), h.1), λ h. ((S.stands v b).1 (h.0.0, h.1), h.0.1)) }

  pub named_spelled : (field : ℕ) → IsSpelled (named field m) InRange bits_of
  unfolding named
  named_spelled field = record { stands = S.stands }

  -- it, and another format behind it
  pub then_spelled : {W : Type 0} {n : Meaning (Unit {0}) W} {AlsoInRange : W → Type 0} {bits_behind : W → List Bool} → IsSpelled n AlsoInRange bits_behind
      → IsSpelled (both m n) (λ v. InRange v.0 × AlsoInRange v.1) (λ v. bits_of v.0 ++ bits_behind v.1)
  unfolding seq
  then_spelled {bits_behind = bits_behind} T = record {
    stands = λ v b. (
      λ p.
          let h = (S.stands v.0 p.front).0 p.first in
          let k = (T.stands v.1 p.back).0 p.second in
          ((h.0, k.0), p.joined ∙ ap (λ l. l ++ p.back) h.1 ∙ ap (λ l. bits_of v.0 ++ l) k.1),
      λ h. record {
        front = bits_of v.0;
        back = bits_behind v.1;
        joined = h.1;
        first = (S.stands v.0 (bits_of v.0)).1 (h.0.0, refl);
        second = (T.stands v.1 (bits_behind v.1)).1 (h.0.1, refl);
      },
    );
  }

-- a name has the bits of its number
pub name_spelled : {V : Type 0} {m : Meaning (Unit {0}) ℕ} {InRange : ℕ → Type 0} {bits_of : ℕ → List Bool} → IsSpelled m InRange bits_of → (number : V → ℕ)
    → IsSpelled (enumerated number m) (λ v. (number v < 2 ^ 64) × InRange (number v)) (λ v. bits_of (number v))
unfolding enumerated
name_spelled S number = record { stands = λ v b. (λ p. let h = (S.stands (number v) b).0 p.1 in ((p.0, h.0), h.1), λ h. (h.0.0, (S.stands (number v) b).1 (h.0.1, h.1))) }
