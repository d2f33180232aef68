-- Formats of whole octets in a context: sound, laid out as octets, and refused by rows.
use Rattle.std.proofs.Common.{◌≡◌, ℕ, ◌+◌, ◌≤◌, ◌↔◌, Bool, true, List, ◌++◌, length, drop, Some, None}
use Rattle.narc_bits.specs.Octets.{IsOctets}
use Rattle.narc_bits.specs.Bits.{bits}
use Rattle.narc_format.specs.declared.fault.Fault.{Fault}
use Rattle.narc_format.specs.Meaning.{Meaning}
use Rattle.narc_format.specs.Laws.{Laws}
use Rattle.narc_format.specs.Rows.{Row, RefusalView, first_failing}
use Rattle.narc_layout.specs.FirstFault.{IsFirstFault}
use Rattle.narc_layout.proofs.Layouts as plain
use Rattle.narc_layout.proofs.Layouts.{Begins}

-- in a valid context, exactly the values in range stand, each spelled by so many octets
pub record IsShaped {C V : Type 0} (m : Meaning C V) (Ok : C → Type 0) (InRange : C → V → Type 0) (octets_of : V → List ℕ) (size : ℕ) : Type 0 where
  pub laws : Laws m
  pub sound : m.sound
  pub valid : (c : C) → Ok c → m.valid c
  pub whole : m.whole ≡ true
  pub depth : m.depth ≡ 0
  pub alike : (v w : V) → m.alike v w → v ≡ w
  pub admits : (c : C) → Ok c → (v : V) → m.admits c v ↔ InRange c v
  pub stands : (c : C) (v : V) (b : List Bool) → m.stands c v b ↔ (InRange c v × (b ≡ bits (octets_of v)))
  pub sized : (c : C) (v : V) → InRange c v → length (octets_of v) ≡ size
  pub each : (c : C) (v : V) → InRange c v → IsOctets (octets_of v)

-- the rows judge what is behind `skip` octets of x, whose value is read there; a row's place counts from `start` octets before x
pub record IsJudged {C V : Type 0} (m : Meaning C V) (InRange : C → V → Type 0) (octets_of : V → List ℕ) (value : (skip : ℕ) → List ℕ → V) (rows : C → (start skip : ℕ) → List ℕ → List Row) : Type 0 where
  pub refuses : (c : C) (start skip : ℕ) (x : List ℕ) → IsOctets x → (f : Fault) → m.refuses c (bits (drop skip x)) f ↔ IsFirstFault (start + skip) (rows c start skip x) f
  pub passes : (c : C) (start skip : ℕ) (x : List ℕ) → IsOctets x → (first_failing (rows c start skip x) ≡ None) ↔ Begins (InRange c) octets_of (drop skip x)
  pub places : (c : C) (start skip : ℕ) (x : List ℕ) (r : RefusalView) → first_failing (rows c start skip x) ≡ Some r → start + skip ≤ r.at
  pub reads : (c : C) (skip : ℕ) (x : List ℕ) (v : V) (later : List ℕ) → InRange c v → drop skip x ≡ octets_of v ++ later → value skip x ≡ v

pub record IsLayout {C V : Type 0} (m : Meaning C V) (Ok : C → Type 0) (InRange : C → V → Type 0) (octets_of : V → List ℕ) (size : ℕ) (value : (skip : ℕ) → List ℕ → V) (rows : C → (start skip : ℕ) → List ℕ → List Row) : Type 0 where
  pub shape : IsShaped m Ok InRange octets_of size
  pub refusals : IsJudged m InRange octets_of value rows

-- a layout that needs no context
module _ {V : Type 0} {m : Meaning (Unit {0}) V} {InRange : V → Type 0} {octets_of : V → List ℕ} {size : ℕ} {value : (skip : ℕ) → List ℕ → V} {rows : (start skip : ℕ) → List ℕ → List Row}
    (L : IsLayout m (λ c. Unit {0}) (λ c. InRange) octets_of size value (λ c. rows)) where
  plain_shape : plain.IsShaped m InRange octets_of size
  plain_shape = record {
    laws = L.shape.laws;
    sound = L.shape.sound;
    valid = L.shape.valid tt tt;
    whole = L.shape.whole;
    depth = L.shape.depth;
    alike = L.shape.alike;
    admits = L.shape.admits tt tt;
    stands = L.shape.stands tt;
    sized = L.shape.sized tt;
    each = L.shape.each tt;
  }

  pub plain_layout : plain.IsLayout m InRange octets_of size rows
  plain_layout = record { shape = plain_shape; refusals = record { refuses = L.refusals.refuses tt; passes = L.refusals.passes tt; places = L.refusals.places tt } }
