use Rattle.std.proofs.Common.{ap, ◌∙◌, drop}
use Rattle.narc_world.specs.Intake.{Intake}
use Rattle.narc_world.proofs.Intakes.{slice_range-later}
use Rattle.narc_world.proofs.input_buffer.InputBuffer.pass.Goals as goal

pub returns-clause-hand : goal.returns-clause-hand
returns-clause-hand c =
    slice_range-later c.self.inside.buffer.items c.self.inside.from c.args.count c.self.inside.to
    ∙ ap (λ (i : Intake). drop c.args.count i.hand) c.self.view_is
