-- Octets and rows of one of two tails.
use Rattle.std.proofs.Common.{◌≡◌, ℕ, ◌≤◌, ◌↔◌, Bool, true, false, List, if◌then◌else◌, Some, None}
use Rattle.narc_bits.specs.Octets.{IsOctets}
use Rattle.narc_bits.specs.Bits.{bits}
use Rattle.narc_format.specs.declared.fault.Fault.{Fault}
use Rattle.narc_format.specs.Meaning.{Meaning}
use Rattle.narc_compose.specs.declared.either.Either.{Either}
use Rattle.narc_compose.specs.declared.either.Either.TheVariants.{Left, Right}
use Rattle.narc_compose.specs.Union.{Side, Sides, united}
use Rattle.narc_format.specs.Rows.{Row, RefusalView, first_failing}
use Rattle.narc_layout.specs.FirstFault.{IsFirstFault}
use Rattle.narc_layout.proofs.ReadLayout.{Spelled, IsTailRead}

-- a value of the member that is picked
pub left_side : {A B V W : Type 0} (P : A → V → Type 0) (Q : B → W → Type 0) (a : A) (z : B) (t : Bool) → t ≡ true → (v : V) → P a v → Sides P Q (if t then Left a else Right z) (Left v)
left_side P Q a z true e v p = p
left_side P Q a z false e v p = cc

pub right_side : {A B V W : Type 0} (P : A → V → Type 0) (Q : B → W → Type 0) (a : A) (z : B) (t : Bool) → t ≡ false → (w : W) → Q z w → Sides P Q (if t then Left a else Right z) (Right w)
right_side P Q a z true e w q = cc
right_side P Q a z false e w q = q

-- the rows of the member that is picked
abbrev pub member_rows : {CA CB : Type 0} → (CA → (start : ℕ) → List ℕ → List Row) → (CB → (start : ℕ) → List ℕ → List Row) → Either CA CB → (start : ℕ) → List ℕ → List Row
member_rows rows_a rows_b (Left a) start x = rows_a a start x
member_rows rows_a rows_b (Right z) start x = rows_b z start x

module _ {C CA CB V W : Type 0} {A : Meaning CA V} {B : Meaning CB W} {IsA : CA → V → List ℕ → Type 0} {IsB : CB → W → List ℕ → Type 0}
    {rows_a : CA → (start : ℕ) → List ℕ → List Row} {rows_b : CB → (start : ℕ) → List ℕ → List Row}
    (pick : C → Either CA CB) (valid : C → Type 0) (RA : IsTailRead A IsA rows_a) (RB : IsTailRead B IsB rows_b) where
  abbrev IsMember : Either CA CB → Either V W → List ℕ → Type 0
  IsMember p v o = Sides (λ a x. IsA a x o) (λ z y. IsB z y o) p v

  stands_at : (p : Either CA CB) (v : Either V W) (b : List Bool) → Sides (λ a x. A.stands a x b) (λ z y. B.stands z y b) p v ↔ Spelled (IsMember p v) b
  stands_at (Left a) (Left v) b = RA.stands a v b
  stands_at (Right z) (Right w) b = RB.stands z w b
  stands_at (Left a) (Right w) b = (λ h. absurd h, λ s. absurd s.is)
  stands_at (Right z) (Left v) b = (λ h. absurd h, λ s. absurd s.is)

  refuses_at : (p : Either CA CB) (start : ℕ) (x : List ℕ) → IsOctets x → (f : Fault) → Side (λ a. A.refuses a (bits x) f) (λ z. B.refuses z (bits x) f) p ↔ IsFirstFault start (member_rows rows_a rows_b p start x) f
  refuses_at (Left a) start x each f = RA.refuses a start x each f
  refuses_at (Right z) start x each f = RB.refuses z start x each f

  passes_at : (p : Either CA CB) (start : ℕ) (x : List ℕ) → IsOctets x → (first_failing (member_rows rows_a rows_b p start x) ≡ None) ↔ ((v : Either V W) × IsMember p v x)
  passes_at (Left a) start x each = (
    λ h. let q = (RA.passes a start x each).0 h in (Left q.0, q.1),
    λ q. (RA.passes a start x each).1 (left q.0 q.1),
  ) where
    left : (v : Either V W) → IsMember (Left a) v x → ((w : V) × IsA a w x)
    left (Left w) h = (w, h)
    left (Right w) h = absurd h
  passes_at (Right z) start x each = (
    λ h. let q = (RB.passes z start x each).0 h in (Right q.0, q.1),
    λ q. (RB.passes z start x each).1 (right q.0 q.1),
  ) where
    right : (v : Either V W) → IsMember (Right z) v x → ((w : W) × IsB z w x)
    right (Left w) h = absurd h
    right (Right w) h = (w, h)

  places_at : (p : Either CA CB) (start : ℕ) (x : List ℕ) (r : RefusalView) → first_failing (member_rows rows_a rows_b p start x) ≡ Some r → start ≤ r.at
  places_at (Left a) start x = RA.places a start x
  places_at (Right z) start x = RB.places z start x

  pub united_read : IsTailRead (united pick valid A B) (λ c v o. IsMember (pick c) v o) (λ c start x. member_rows rows_a rows_b (pick c) start x)
  unfolding united
  united_read = record {
    stands = λ c. stands_at (pick c);
    refuses = λ c. refuses_at (pick c);
    passes = λ c. passes_at (pick c);
    places = λ c. places_at (pick c);
  }
