-- A fixed number of octets.
use Rattle.std.specs.Prelude.{◌≡◌, ℕ, ◌*◌, ◌<◌, true, false, List, Bool, length}
use Rattle.narc_bits.specs.Octets.{IsOctets}
use Rattle.narc_bits.specs.Bits.{bits}
use Rattle.narc_format.specs.Faults.{unnamed_fault}
use Rattle.narc_format.specs.Meaning.{Meaning}

-- b is the bits of the n octets v
pub record SpellsOctets (n : ℕ) (v : List ℕ) (b : List Bool) : Type 0 where
  pub size : length v ≡ n
  pub each : IsOctets v
  pub is : b ≡ bits v

unfoldable pub fixed_octets : ℕ → Meaning (Unit {0}) (List ℕ)
fixed_octets n = record {
  stands = λ c v b. SpellsOctets n v b;
  refuses = λ c b f. (length b < 8 * n) × (f ≡ unnamed_fault);
  admits = λ c v. (length v ≡ n) × IsOctets v;
  spelling = λ c v. bits v;
  alike = λ v w. v ≡ w;
  valid = λ c. Unit {0};
  sound = Unit {0};
  depth = 0;
  whole = true;
  aligned = false;
}
