-- A format whose values pass a test.
use Rattle.std.specs.Prelude.{◌≡◌, Bool, false, IsTrue}
use Rattle.narc_format.specs.Meaning.{Meaning}
use Rattle.narc_scalar.specs.Rejected.{Rejects}

module _ {C V : Type 0} (holds : C → V → Bool) (F : Meaning (Unit {0}) V) where
  -- the format is sound, and values that are alike pass the test together
  pub record IsTestable : Type 0 where
    pub format : F.sound
    pub steady : (c : C) (v w : V) → F.alike v w → holds c v ≡ holds c w

  unfoldable pub tested : Meaning C V
  tested = record {
    stands = λ c v b. F.stands tt v b × IsTrue (holds c v);
    refuses = λ c b f. Rejects F (λ v. holds c v ≡ false) b f;
    admits = λ c v. F.admits tt v × IsTrue (holds c v);
    spelling = λ c v. F.spelling tt v;
    alike = F.alike;
    valid = λ c. F.valid tt;
    sound = IsTestable;
    depth = F.depth;
    whole = F.whole;
    aligned = F.aligned;
  }
