-- The number v in n bits, and nothing else.
use Rattle.std.specs.Prelude.{◌≡◌, ◌≢◌, ℕ, ◌%◌, ◌^◌, ◌<◌, ◌≤◌, false, nat_eq, take}
use Rattle.narc_bits.specs.Bits.{bits_of_number}
use Rattle.narc_format.specs.Faults.{unnamed_fault}
use Rattle.narc_format.specs.Meaning.{Meaning}

-- n is from 1 to 64, and v is a number of n bits
pub record IsConstant (n v : ℕ) : Type 0 where
  pub some : 1 ≤ n
  pub width : n ≤ 64
  pub fits : v < 2 ^ n

unfoldable pub constant : ℕ → ℕ → Meaning (Unit {0}) (Unit {0})
constant n v = record {
  stands = λ c u b. b ≡ bits_of_number n v;
  refuses = λ c b f. (take n b ≢ bits_of_number n v) × (f ≡ unnamed_fault);
  admits = λ c u. Unit {0};
  spelling = λ c u. bits_of_number n v;
  alike = λ u w. Unit {0};
  valid = λ c. Unit {0};
  sound = IsConstant n v;
  depth = 0;
  whole = nat_eq (n % 8) 0;
  aligned = false;
}
