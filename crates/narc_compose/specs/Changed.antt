-- A refusal whose fault is told otherwise.
use Rattle.std.specs.Prelude.{◌≡◌}
use Rattle.narc_format.specs.declared.fault.Fault.{Fault}

-- some fault of the part, told by this change
pub record Changed (change : Fault → Fault) (refuses : Fault → Type 0) (f : Fault) : Type 0 where
  pub inner : Fault
  pub refused : refuses inner
  pub is : f ≡ change inner
