-- A number of n bits, most significant first.
use Rattle.std.specs.Prelude.{◌≡◌, ℕ, ◌%◌, ◌^◌, ◌<◌, ◌≤◌, false, nat_eq, length}
use Rattle.narc_bits.specs.Bits.{bits_of_number}
use Rattle.narc_format.specs.Faults.{unnamed_fault}
use Rattle.narc_format.specs.Meaning.{Meaning}

unfoldable pub word : ℕ → Meaning (Unit {0}) ℕ
word n = record {
  stands = λ c v b. (v < 2 ^ n) × (b ≡ bits_of_number n v);
  refuses = λ c b f. (length b < n) × (f ≡ unnamed_fault);
  admits = λ c v. v < 2 ^ n;
  spelling = λ c v. bits_of_number n v;
  alike = λ v w. v ≡ w;
  valid = λ c. Unit {0};
  sound = (1 ≤ n) × (n ≤ 64);
  depth = 0;
  whole = nat_eq (n % 8) 0;
  aligned = false;
}
