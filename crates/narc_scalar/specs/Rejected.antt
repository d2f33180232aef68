-- A format of whose values some are rejected once they are read.
use Rattle.std.specs.Prelude.{◌≡◌, ◌⊎◌, List, Bool, ◌++◌}
use Rattle.narc_format.specs.declared.fault.Fault.{Fault}
use Rattle.narc_format.specs.Faults.{unnamed_fault}
use Rattle.narc_format.specs.Meaning.{Meaning}

-- a front of the bits stands for a value that is rejected
pub record HasRejected {V : Type 0} (stands : V → List Bool → Type 0) (IsRejected : V → Type 0) (b : List Bool) : Type 0 where
  pub found : V
  pub used : List Bool
  pub later : List Bool
  pub joined : b ≡ used ++ later
  pub stood : stands found used
  pub rejected : IsRejected found

-- the format refuses the bits with this fault, or it reads a value that is rejected
abbrev pub Rejects : {V : Type 0} → Meaning (Unit {0}) V → (V → Type 0) → List Bool → Fault → Type 0
Rejects F IsRejected b f = F.refuses tt b f ⊎ (HasRejected (F.stands tt) IsRejected b × (f ≡ unnamed_fault))
