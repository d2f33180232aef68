-- A format whose unnamed faults get a field.
use Rattle.std.specs.Prelude.{ℕ, ◌≤◌}
use Rattle.narc_format.specs.declared.field.TheConstants.{LAST}
use Rattle.narc_format.specs.Faults.{named_by}
use Rattle.narc_format.specs.Meaning.{Meaning}
use Rattle.narc_compose.specs.Changed.{Changed}

-- the part is sound, and the number is that of a field
pub record NamedSound (part : Type 0) (field : ℕ) : Type 0 where
  pub part_sound : part
  pub some : 1 ≤ field
  pub known : field ≤ LAST

-- F, with this field for its unnamed faults
unfoldable pub named : {C V : Type 0} → (field : ℕ) → Meaning C V → Meaning C V
named field F = record F { refuses = λ c b f. Changed (named_by field) (F.refuses c b) f; sound = NamedSound F.sound field }
