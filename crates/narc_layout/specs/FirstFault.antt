-- The fault of a format whose refusals are rows of a frame.
use Rattle.std.specs.Prelude.{◌≡◌, ℕ, ◌+◌, ◌*◌, List, Some}
use Rattle.narc_format.specs.declared.fault.Fault.{Fault}
use Rattle.narc_format.specs.Rows.{Row, first_failing}

-- the first row that fails has the fault's field, at an octet of the format that begins at this octet of the frame
pub record IsFirstFault (start : ℕ) (rows : List Row) (f : Fault) : Type 0 where
  pub octet : ℕ
  pub first : first_failing rows ≡ Some (record { field = f.field; at = start + octet })
  pub place : f.at ≡ 8 * octet
