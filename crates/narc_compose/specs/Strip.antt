-- A format of raw values, seen as others.
use Rattle.std.specs.Prelude.{◌≡◌}
use Rattle.narc_format.specs.Meaning.{Meaning}

-- some raw value of this kind is seen as v
pub record Raw {W V : Type 0} (strip : W → V) (Holds : W → Type 0) (v : V) : Type 0 where
  pub raw : W
  pub holds : Holds raw
  pub is : strip raw ≡ v

module _ {C W V : Type 0} (strip : W → V) (choose : C → V → W) (alike : V → V → Type 0) (F : Meaning C W) where
  -- the raw value that is chosen for v can be written, and is seen as v
  pub record Chosen (c : C) (v : V) : Type 0 where
    pub admitted : F.admits c (choose c v)
    pub back : strip (choose c v) ≡ v

  pub record StripSound : Type 0 where
    pub part_sound : F.sound
    -- raw values that are the same are seen as the same
    pub same : (w x : W) → F.alike w x → alike (strip w) (strip x)
    -- a choice for each raw value that can be written
    pub chosen : (c : C) → F.valid c → (w : W) → F.admits c w → Chosen c (strip w)

  -- F, its raw values seen through strip; the one that choose names is written
  unfoldable pub stripped : Meaning C V
  stripped = record {
    stands = λ c v b. Raw strip (λ w. F.stands c w b) v;
    refuses = F.refuses;
    admits = Chosen;
    spelling = λ c v. F.spelling c (choose c v);
    alike = alike;
    valid = F.valid;
    sound = StripSound;
    depth = F.depth;
    whole = F.whole;
    aligned = F.aligned;
  }
