-- What each format and each tail promises of its meaning, where the conditions of its rules hold.
use Rattle.std.specs.Prelude.{◌≡◌, ◌*◌, ◌%◌, ◌≤◌, ◌⊎◌, Bool, true, List, ◌++◌, length, IsTrue}
use Rattle.narc_bits.specs.declared.limits.TheConstants.{MAX_FRAME}
use Rattle.narc_format.specs.declared.fault.Fault.{Fault}
use Rattle.narc_format.specs.Meaning.{Meaning}

-- at most the bits of a frame, and whole octets where that is asked
pub record Fits (aligned : Bool) (b : List Bool) : Type 0 where
  pub small : length b ≤ 8 * MAX_FRAME
  pub octets : IsTrue aligned → length b % 8 ≡ 0

-- a front of the bits stands for some value
pub record HasFront {V : Type 0} (stands : V → List Bool → Type 0) (b : List Bool) : Type 0 where
  pub found : V
  pub used : List Bool
  pub later : List Bool
  pub joined : b ≡ used ++ later
  pub stood : stands found used

-- all the bits stand for some value
pub record HasValue {V : Type 0} (stands : V → List Bool → Type 0) (b : List Bool) : Type 0 where
  pub found : V
  pub stood : stands found b

pub record IsRefused (refuses : Fault → Type 0) : Type 0 where
  pub fault : Fault
  pub refused : refuses fault

pub record Laws {C V : Type 0} (m : Meaning C V) : Type 0 where
  -- two fronts of one list that stand for values are one front, and the values are the same
  pub one_reading : m.sound → (c : C) (v w : V) (x y d e : List Bool)
      → m.stands c v x → m.stands c w y → x ++ d ≡ y ++ e → (x ≡ y) × m.alike v w
  -- what stands can be written
  pub admitted : m.sound → (c : C) → m.valid c → (v : V) (b : List Bool) → m.stands c v b → m.admits c v
  -- what can be written stands, by its spelling
  pub spelling_stands : m.sound → (c : C) → m.valid c → (v : V) → m.admits c v → m.stands c v (m.spelling c v)
  -- every list is read or refused
  pub read_or_refused : m.sound → (c : C) → m.valid c → (b : List Bool) → Fits m.aligned b
      → HasFront (m.stands c) b ⊎ IsRefused (m.refuses c b)
  -- and never both
  pub never_both : m.sound → (c : C) (v : V) (x e : List Bool) (f : Fault) → m.stands c v x → m.refuses c (x ++ e) f → ⊥
  pub one_fault : m.sound → (c : C) (b : List Bool) (f g : Fault) → m.refuses c b f → m.refuses c b g → f ≡ g
  -- the place of a fault lies within the bits
  pub within : m.sound → (c : C) (b : List Bool) (f : Fault) → m.refuses c b f → f.at ≤ length b
  pub whole_octets : m.sound → IsTrue m.whole → (c : C) (v : V) (b : List Bool) → m.stands c v b → length b % 8 ≡ 0

-- the same of a tail, whose values stand for all the bits
pub record TailLaws {C V : Type 0} (m : Meaning C V) : Type 0 where
  pub one_reading : m.sound → (c : C) (v w : V) (b : List Bool) → m.stands c v b → m.stands c w b → m.alike v w
  pub admitted : m.sound → (c : C) → m.valid c → (v : V) (b : List Bool) → m.stands c v b → m.admits c v
  pub spelling_stands : m.sound → (c : C) → m.valid c → (v : V) → m.admits c v → m.stands c v (m.spelling c v)
  pub read_or_refused : m.sound → (c : C) → m.valid c → (b : List Bool) → Fits true b
      → HasValue (m.stands c) b ⊎ IsRefused (m.refuses c b)
  pub never_both : m.sound → (c : C) (v : V) (b : List Bool) (f : Fault) → m.stands c v b → m.refuses c b f → ⊥
  pub one_fault : m.sound → (c : C) (b : List Bool) (f g : Fault) → m.refuses c b f → m.refuses c b g → f ≡ g
  pub within : m.sound → (c : C) (b : List Bool) (f : Fault) → m.refuses c b f → f.at ≤ length b
