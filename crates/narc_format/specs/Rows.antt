-- The rows of a table of refusals: the first that fails names the field and the place.
use Rattle.std.specs.Prelude.{ℕ, Bool, not, List, [], ◌∷◌, nat_eq, Option, Some, None, if◌then◌else◌}

-- a field by its number, and the place of an octet of the frame
pub record RefusalView : Type 0 where
  pub field : ℕ
  pub at : ℕ

-- a row of the table: it refuses the frame where it fails
pub record Row : Type 0 where
  pub refusal : RefusalView
  pub fails : Bool

abbrev pub row : (field at : ℕ) → Bool → Row
row field at fails = record { refusal = record { field = field; at = at }; fails = fails }

abbrev pub first_failing : List Row → Option RefusalView
first_failing [] = None
first_failing (r ∷ rows) = let later = first_failing rows in if r.fails then Some r.refusal else later

-- is not this number
abbrev pub differs : ℕ → ℕ → Bool
differs n m = not (nat_eq n m)
