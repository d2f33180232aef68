-- What follows from the laws: a list is read in one way, or refused in one way.
use Rattle.std.specs.Prelude.{◌≡◌, ◌≤◌, ◌↔◌, ◌⊎◌, ℕ, Bool, true, List, [], ◌++◌, length}
use Rattle.narc_bits.specs.Scan.{Scan, bits_left}
use Rattle.narc_format.specs.declared.fault.Fault.{Fault}
use Rattle.narc_format.specs.Meaning.{Meaning}
use Rattle.narc_format.specs.Reading.{Took, TookAll, Refused}
use Rattle.narc_format.specs.Laws.{Fits}

-- the list is refused with this fault alone, whose place lies within it
pub record IsOnlyFault (refuses : Fault → Type 0) (b : List Bool) (f : Fault) : Type 0 where
  pub refused : refuses f
  pub others : (g : Fault) → refuses g → f ≡ g
  pub within : f.at ≤ length b

module _ {C V : Type 0} (m : Meaning C V) where
  -- a value can be written exactly where some list stands for it
  pub record AdmitsExactly : Type 0 where
    pub exact : (c : C) → m.valid c → (v : V) → m.admits c v ↔ ((b : List Bool) × m.stands c v b)

  -- a list that stands for a value does not go on as one that stands for another
  pub record IsFrontFree : Type 0 where
    pub ends : (c : C) (v w : V) (b e : List Bool) → m.stands c v b → m.stands c w (b ++ e) → (e ≡ []) × m.alike v w

  -- a front stands for the value, each front that stands is the same, and nothing is refused
  pub record IsReadAs (c : C) (b used : List Bool) (v : V) : Type 0 where
    pub stood : m.stands c v used
    pub others : (w : V) (x e : List Bool) → m.stands c w x → b ≡ x ++ e → (used ≡ x) × m.alike v w
    pub unrefused : (f : Fault) → m.refuses c b f → ⊥

  -- one fault alone, and no front stands for a value
  pub record IsRefusedAs (c : C) (b : List Bool) (f : Fault) : Type 0 where
    pub only : IsOnlyFault (m.refuses c b) b f
    pub unread : (v : V) (x e : List Bool) → m.stands c v x → b ≡ x ++ e → ⊥

  -- every list of a frame's length is read or refused, and never both
  pub record IsDecided : Type 0 where
    pub decided : (c : C) → m.valid c → (b : List Bool) → Fits m.aligned b
        → ((used : List Bool) × (v : V) × IsReadAs c b used v) ⊎ ((f : Fault) × IsRefusedAs c b f)

  -- what a reading answers is the one answer
  pub record ReadsExactly : Type 0 where
    pub took : (c : C) (old new : Scan) (before after : ℕ) (v : V) → (t : Took m c old new before after v) → IsReadAs c (bits_left old) t.used v
    pub refused : (c : C) (old new : Scan) (before after : ℕ) (f : Fault) → Refused m c old new before after f → IsRefusedAs c (bits_left old) f

  -- what is written is read back, whatever follows it
  pub record IsReadBack : Type 0 where
    pub back : (c : C) → m.valid c → (v : V) → m.admits c v → (later : List Bool) → IsReadAs c (m.spelling c v ++ later) (m.spelling c v) v

  -- the same of a tail: the whole list stands for the value alone, and nothing is refused
  pub record IsAllReadAs (c : C) (b : List Bool) (v : V) : Type 0 where
    pub stood : m.stands c v b
    pub others : (w : V) → m.stands c w b → m.alike v w
    pub unrefused : (f : Fault) → m.refuses c b f → ⊥

  pub record IsAllRefusedAs (c : C) (b : List Bool) (f : Fault) : Type 0 where
    pub only : IsOnlyFault (m.refuses c b) b f
    pub unread : (v : V) → m.stands c v b → ⊥

  pub record IsAllDecided : Type 0 where
    pub decided : (c : C) → m.valid c → (b : List Bool) → Fits true b
        → ((v : V) × IsAllReadAs c b v) ⊎ ((f : Fault) × IsAllRefusedAs c b f)

  pub record ReadsAllExactly : Type 0 where
    pub took : (c : C) (old new : Scan) (before after : ℕ) (v : V) → TookAll m c old new before after v → IsAllReadAs c (bits_left old) v
    pub refused : (c : C) (old new : Scan) (before after : ℕ) (f : Fault) → Refused m c old new before after f → IsAllRefusedAs c (bits_left old) f

  pub record IsAllReadBack : Type 0 where
    pub back : (c : C) → m.valid c → (v : V) → m.admits c v → IsAllReadAs c (m.spelling c v) v
