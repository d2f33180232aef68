-- All octets that are left.
use Rattle.std.specs.Prelude.{◌≡◌, ℕ, true, List}
use Rattle.std.specs.Borrow.{Bor}
use Rattle.narc_bits.specs.Octets.{IsOctets}
use Rattle.narc_bits.specs.Bits.{bits}
use Rattle.narc_format.specs.Meaning.{Meaning}

unfoldable pub all_octets : Meaning (Unit {0}) (Bor (List ℕ))
all_octets = record {
  stands = λ c v b. IsOctets v.now × (b ≡ bits v.now);
  refuses = λ c b f. ⊥;
  admits = λ c v. IsOctets v.now;
  spelling = λ c v. bits v.now;
  alike = λ v w. v.now ≡ w.now;
  valid = λ c. Unit {0};
  sound = Unit {0};
  depth = 0;
  whole = true;
  aligned = true;
}
