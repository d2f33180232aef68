-- One bit.
use Rattle.std.specs.Prelude.{◌≡◌, Bool, false, [], ◌∷◌}
use Rattle.narc_format.specs.Faults.{unnamed_fault}
use Rattle.narc_format.specs.Meaning.{Meaning}

unfoldable pub flag : Meaning (Unit {0}) Bool
flag = record {
  stands = λ c v b. b ≡ v ∷ [];
  refuses = λ c b f. (b ≡ []) × (f ≡ unnamed_fault);
  admits = λ c v. Unit {0};
  spelling = λ c v. v ∷ [];
  alike = λ v w. v ≡ w;
  valid = λ c. Unit {0};
  sound = Unit {0};
  depth = 0;
  whole = false;
  aligned = false;
}
