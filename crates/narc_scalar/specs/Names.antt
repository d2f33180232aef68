-- A format of numbers that have names.
use Rattle.std.specs.Prelude.{◌≡◌, ◌↔◌, ◌<◌, ◌^◌, ℕ, nat_eq, List, [], ◌∷◌, Option, Some, None, if◌then◌else◌}
use Rattle.narc_format.specs.Meaning.{Meaning}
use Rattle.narc_scalar.specs.Rejected.{Rejects}

-- a number names a value exactly where it is the value's number
abbrev pub IsExact : {V : Type 0} → (ℕ → Option V) → (V → ℕ) → Type 0
IsExact name number = (n : ℕ) → n < 2 ^ 64 → (v : _) → (name n ≡ Some v) ↔ (number v ≡ n)

-- the value of the first row with this number
abbrev pub named_in : {V : Type 0} → List (ℕ × V) → ℕ → Option V
named_in [] n = None
named_in (row ∷ rows) n = if nat_eq n row.0 then Some row.1 else named_in rows n

-- the number is a u64, and that of the value
pub record IsNumberOf {V : Type 0} (number : V → ℕ) (n : ℕ) (v : V) : Type 0 where
  pub small : n < 2 ^ 64
  pub is : number v ≡ n

module _ {V : Type 0} (number : V → ℕ) (F : Meaning (Unit {0}) ℕ) where
  -- the format is sound, and numbers that are alike are the same
  pub record IsNumeric : Type 0 where
    pub format : F.sound
    pub same : (m n : ℕ) → F.alike m n → m ≡ n

  unfoldable pub enumerated : Meaning (Unit {0}) V
  enumerated = record {
    stands = λ c v b. (number v < 2 ^ 64) × F.stands tt (number v) b;
    refuses = λ c b f. Rejects F (λ n. (v : V) → IsNumberOf number n v → ⊥) b f;
    admits = λ c v. (number v < 2 ^ 64) × F.admits tt (number v);
    spelling = λ c v. F.spelling tt (number v);
    alike = λ v w. v ≡ w;
    valid = λ c. F.valid tt;
    sound = IsNumeric;
    depth = F.depth;
    whole = F.whole;
    aligned = F.aligned;
  }
