-- The laws of a format whose unnamed faults get a field.
use Rattle.std.specs.Prelude.{ℕ}
use Rattle.std.proofs.Common.{arith}
use Rattle.narc_format.specs.Faults.{named_by}
use Rattle.narc_format.specs.Meaning.{Meaning}
use Rattle.narc_format.specs.Laws.{Laws, TailLaws}
use Rattle.narc_format.specs.Widths.{IsWide}
use Rattle.narc_format.specs.Holes.{IsHoled}
use Rattle.narc_format.proofs.Widths.{wide-sized}
use Rattle.narc_compose.specs.Named.{named}
use Rattle.narc_compose.specs.ChangedLaws.{changed_laws, changed_tail_laws}

pub named_laws : {C V : Type 0} (field : ℕ) (F : Meaning C V) → Laws F → Laws (named field F)
unfolding named
named_laws field F L = changed_laws (named_by field) (λ f. omega arith) F (λ s. s.part_sound) L

pub named_tail_laws : {C V : Type 0} (field : ℕ) (F : Meaning C V) → TailLaws F → TailLaws (named field F)
unfolding named
named_tail_laws field F L = changed_tail_laws (named_by field) (λ f. omega arith) F (λ s. s.part_sound) L

pub named_is_wide : {C V : Type 0} (field width : ℕ) (F : Meaning C V) → Laws F → IsWide F width → IsWide (named field F) width
unfolding named
named_is_wide field width F L W = wide-sized (named_laws field F L) (λ s. W.sized s.part_sound)

pub named_is_holed : {C V : Type 0} (field hole : ℕ) (F : Meaning C V) → IsHoled F hole → IsHoled (named field F) hole
unfolding named
named_is_holed field hole F H = record { inside = λ s. H.inside s.part_sound; free = λ s. H.free s.part_sound }
