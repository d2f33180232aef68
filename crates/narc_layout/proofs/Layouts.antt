-- Formats of fields of whole octets: sound, laid out as octets, and refused by rows.
use Rattle.std.proofs.Common.{◌≡◌, ℕ, ◌+◌, ◌≤◌, ◌↔◌, Bool, true, List, ◌++◌, length, take, drop, Some, None, sym, ap, ◌∙◌, arith, length-append, length-take, take-append-drop}
use Rattle.narc_bits.specs.Octets.{IsOctets}
use Rattle.narc_bits.specs.Bits.{bits}
use Rattle.narc_bits.proofs.Lists.{append-parts}
use Rattle.narc_bits.proofs.Numbers.{length-bits, bits-append}
use Rattle.narc_bits.proofs.Octets.{IsOctets-take}
use Rattle.narc_bits.proofs.Spelled.{bits_same}
use Rattle.narc_format.specs.declared.fault.Fault.{Fault}
use Rattle.narc_format.specs.Meaning.{Meaning}
use Rattle.narc_format.specs.Laws.{Laws}
use Rattle.narc_format.specs.Rows.{Row, RefusalView, first_failing}
use Rattle.narc_layout.specs.FirstFault.{IsFirstFault}

-- the octets begin with those of some value
pub record Begins {V : Type 0} (InRange : V → Type 0) (octets_of : V → List ℕ) (x : List ℕ) : Type 0 where
  pub found : V
  pub in_range : InRange found
  pub later : List ℕ
  pub joined : x ≡ octets_of found ++ later

-- exactly the values in range stand, each spelled by so many octets
pub record IsShaped {V : Type 0} (m : Meaning (Unit {0}) V) (InRange : V → Type 0) (octets_of : V → List ℕ) (size : ℕ) : Type 0 where
  pub laws : Laws m
  pub sound : m.sound
  pub valid : m.valid tt
  pub whole : m.whole ≡ true
  pub depth : m.depth ≡ 0
  pub alike : (v w : V) → m.alike v w → v ≡ w
  pub admits : (v : V) → m.admits tt v ↔ InRange v
  pub stands : (v : V) (b : List Bool) → m.stands tt v b ↔ (InRange v × (b ≡ bits (octets_of v)))
  pub sized : (v : V) → InRange v → length (octets_of v) ≡ size
  pub each : (v : V) → InRange v → IsOctets (octets_of v)

-- the rows judge what is behind `skip` octets of x; a row's place counts from `start` octets before x
pub record IsJudged {V : Type 0} (m : Meaning (Unit {0}) V) (InRange : V → Type 0) (octets_of : V → List ℕ) (rows : (start skip : ℕ) → List ℕ → List Row) : Type 0 where
  pub refuses : (start skip : ℕ) (x : List ℕ) → IsOctets x → (f : Fault) → m.refuses tt (bits (drop skip x)) f ↔ IsFirstFault (start + skip) (rows start skip x) f
  pub passes : (start skip : ℕ) (x : List ℕ) → IsOctets x → (first_failing (rows start skip x) ≡ None) ↔ Begins InRange octets_of (drop skip x)
  pub places : (start skip : ℕ) (x : List ℕ) (r : RefusalView) → first_failing (rows start skip x) ≡ Some r → start + skip ≤ r.at

pub record IsLayout {V : Type 0} (m : Meaning (Unit {0}) V) (InRange : V → Type 0) (octets_of : V → List ℕ) (size : ℕ) (rows : (start skip : ℕ) → List ℕ → List Row) : Type 0 where
  pub shape : IsShaped m InRange octets_of size
  pub refusals : IsJudged m InRange octets_of rows

-- octets whose bits begin with those of others
pub front_octets : (x v : List ℕ) (later : List Bool) → IsOctets x → IsOctets v → bits x ≡ bits v ++ later → (x ≡ v ++ drop (length v) x) × (later ≡ bits (drop (length v) x))
front_octets x v later in_x in_v h =
    let n = length v in
    let fits : n ≤ length x = omega (arith, ap length h, length-append (bits v) later, length-bits x, length-bits v) in
    let cut : x ≡ take n x ++ drop n x = sym (take-append-drop n x) in
    let sizes : length (bits (take n x)) ≡ length (bits v) = omega (arith, length-bits (take n x), length-bits v, length-take n x) in
    let parts = append-parts (bits (take n x)) (bits v) (bits (drop n x)) later (sym (bits-append (take n x) (drop n x)) ∙ ap bits (sym cut) ∙ h) sizes in
    let front = bits_same (take n x) v (IsOctets-take n x in_x) in_v parts.0 in
    (cut ∙ ap (λ l. l ++ drop n x) front, sym parts.1)

-- what is written of a value are its octets
pub spelling-layout : {V : Type 0} {m : Meaning (Unit {0}) V} {InRange : V → Type 0} {octets_of : V → List ℕ} {size : ℕ} → IsShaped m InRange octets_of size
    → (v : V) → InRange v → m.spelling tt v ≡ bits (octets_of v)
spelling-layout {m = m} S v h = ((S.stands v (m.spelling tt v)).0 (S.laws.spelling_stands S.sound tt S.valid v ((S.admits v).1 h))).1
