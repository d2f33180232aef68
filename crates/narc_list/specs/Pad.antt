-- Octets that mean nothing.
use Rattle.std.specs.Prelude.{◌≡◌, ◌<◌, ◌%◌, ◌^◌, ℕ, true, length, replicate}
use Rattle.narc_bits.specs.Bits.{bits}
use Rattle.narc_format.specs.Meaning.{Meaning}

-- any octets stand, and as many octets 0 as the context says are written
unfoldable pub padding : Meaning ℕ (Unit {0})
padding = record {
  stands = λ count u b. length b % 8 ≡ 0;
  refuses = λ count b f. ⊥;
  admits = λ count u. Unit {0};
  spelling = λ count u. bits (replicate count 0);
  alike = λ u w. Unit {0};
  valid = λ count. count < 2 ^ 64;
  sound = Unit {0};
  depth = 0;
  whole = true;
  aligned = true;
}
