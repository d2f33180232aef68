-- A format, and behind it a second format, or a tail.
use Rattle.std.specs.Prelude.{◌≡◌, ◌⊎◌, max, Bool, true, ◌&&◌, ◌||◌, List, ◌++◌, length, IsTrue}
use Rattle.narc_format.specs.Faults.{later_by}
use Rattle.narc_format.specs.declared.fault.Fault.{Fault}
use Rattle.narc_format.specs.Meaning.{Meaning}

-- a front of one kind, and the rest of another
pub record Joined (First Second : List Bool → Type 0) (b : List Bool) : Type 0 where
  pub front : List Bool
  pub back : List Bool
  pub joined : b ≡ front ++ back
  pub first : First front
  pub second : Second back

-- a front stands for some value, and what is behind it is refused
pub record LaterRefused {V : Type 0} (stands : V → List Bool → Type 0) (refuses : V → List Bool → Fault → Type 0) (b : List Bool) (f : Fault) : Type 0 where
  pub value : V
  pub front : List Bool
  pub back : List Bool
  pub joined : b ≡ front ++ back
  pub first : stands value front
  pub fault : Fault
  pub second : refuses value back fault
  pub moved : f ≡ later_by (length front) fault

module _ {C CA CB VA VB : Type 0} (first : C → CA) (second : C → VA → CB) (valid : C → Type 0) (A : Meaning CA VA) (B : Meaning CB VB) where
  -- the contexts of the parts are valid where that of the whole is, and values that are the same carry the same
  pub record Carries : Type 0 where
    pub first_valid : (c : C) → valid c → A.valid (first c)
    pub second_valid : (c : C) (v : VA) → valid c → A.admits (first c) v → B.valid (second c v)
    pub same : (c : C) (v w : VA) → A.alike v w → second c v ≡ second c w

  -- A, and B behind it, under these conditions
  abbrev pub in_order : (sound : Type 0) (whole aligned : Bool) → Meaning C (VA × VB)
  in_order sound whole aligned = record {
    stands = λ c v b. Joined (A.stands (first c) v.0) (B.stands (second c v.0) v.1) b;
    refuses = λ c b f. A.refuses (first c) b f ⊎ LaterRefused (A.stands (first c)) (λ v. B.refuses (second c v)) b f;
    admits = λ c v. valid c × A.admits (first c) v.0 × B.admits (second c v.0) v.1;
    spelling = λ c v. A.spelling (first c) v.0 ++ B.spelling (second c v.0) v.1;
    alike = λ v w. A.alike v.0 w.0 × B.alike v.1 w.1;
    valid = valid;
    sound = sound;
    depth = max A.depth B.depth;
    whole = whole;
    aligned = aligned;
  }

  pub record SeqSound : Type 0 where
    pub first_sound : A.sound
    pub second_sound : B.sound
    pub carries : Carries
    -- where the second part begins at an octet, the first ends at one
    pub meets : IsTrue B.aligned → IsTrue A.whole

  unfoldable pub seq : Meaning C (VA × VB)
  seq = in_order SeqSound (A.whole && B.whole) (A.aligned || B.aligned)

  pub record SeqTailSound : Type 0 where
    pub first_sound : A.sound
    pub second_sound : B.sound
    pub carries : Carries
    -- a tail begins at an octet
    pub meets : IsTrue A.whole

  unfoldable pub seq_tail : Meaning C (VA × VB)
  seq_tail = in_order SeqTailSound true true
