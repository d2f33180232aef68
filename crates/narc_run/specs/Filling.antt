-- What was taken from a source into a buffer.
use Rattle.std.specs.Prelude.{ℕ, ◌<◌, ◌≤◌, List, length, take, Option}
use Rattle.narc_world.specs.Outside.{TakesFront, IsEmptyWhereTold}
use Rattle.narc_run.specs.declared.input.Filled.{Filled}
use Rattle.narc_run.specs.declared.input.Filled.TheVariants.{Whole, Full, Failed}

-- all of the input, as much as there is room for, or what came before a fault
abbrev pub IsFilled : Filled → (buffer : List ℕ) → (before after : Option (List ℕ)) → Type 0
IsFilled (Whole n) buffer before after = (n < length buffer) × TakesFront (take n buffer) before after × IsEmptyWhereTold after
IsFilled Full buffer before after = TakesFront buffer before after
IsFilled (Failed n) buffer before after = (n ≤ length buffer) × TakesFront (take n buffer) before after

abbrev pub FaultOf : Filled → Type 0 → Type 0
FaultOf (Failed n) P = P
FaultOf (Whole n) P = Unit {0}
FaultOf Full P = Unit {0}
