use Rattle.std.proofs.Common.{◌≡◌, ap, ◌∙◌, arith, drop, length}
use Rattle.std.specs.Prelude.{slice_range}
use Rattle.std.proofs.lemmas.List.{take_at}
use Rattle.narc_world.specs.Intake.{Intake}
use Rattle.narc_world.proofs.Intakes.{slice_range-behind}
use Rattle.narc_world.proofs.input_buffer.InputBuffer.edit.Goals as goal

pub returns-clause-hand : goal.returns-clause-hand
returns-clause-hand g c =
    let items = c.self.inside.buffer.items in
    let new = c.edit_part.new.buffer in
    let from = c.self.inside.from in
    let to = c.self.inside.to in
    let size : length new ≡ c.self.inside.buffer.len = omega (arith, c.edit_part.ensures.len, c.deref_mut.ensures.len) in
    let same : drop c.self.inside.end new ≡ drop c.self.inside.end items = c.edit_part.ensures.rest ∙ ap (drop c.self.inside.end) c.deref_mut.ensures.value in
    ap (λ l. slice_range l from to) (take_at new (drop (length new) items) c.self.inside.buffer.len size)
    ∙ slice_range-behind items new c.self.inside.end from to c.self.invariant.behind same
    ∙ ap (λ (i : Intake). i.hand) c.self.view_is
