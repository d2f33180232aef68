use Rattle.std.proofs.Common.{sym, ◌∙◌}
use Rattle.narc_format.proofs.Takes.{took-takes, refused-takes, refused-lacks}
use Rattle.narc_scalar.specs.Constant.{constant}
use Rattle.narc_scalar.specs.ConstantLaws.{few_bits, other_number, same_number}
use Rattle.narc_scalar.proofs.constant.ConstFormat.read.Goals as goal

pub returns-then-number : goal.returns-then-number
unfolding constant
returns-then-number g c =
    let taken = c.in-Ok.ensures.taken in
    took-takes (constant g.row.N g.row.V) tt tt g.row.N _ _ _ _ _ c.requires.sound.some taken c.in-Ok.ensures.cost (same_number g.row.N g.row.V _ taken.enough (sym taken.is ∙ c.if-number.true))

pub returns-else-number : goal.returns-else-number
unfolding constant
returns-else-number g c =
    let taken = c.in-Ok.ensures.taken in
    refused-takes (constant g.row.N g.row.V) tt _ _ _ _ _ _ _ taken c.in-Ok.ensures.cost (other_number g.row.N g.row.V _ c.requires.sound.fits (λ e. c.if-number.false (taken.is ∙ e)), c.unnamed.ensures)

pub returns-in-Err : goal.returns-in-Err
unfolding constant
returns-in-Err g c =
    let taken = c.in-Err.ensures.taken in
    refused-lacks (constant g.row.N g.row.V) tt _ _ _ _ _ _ taken c.in-Err.ensures.cost (few_bits g.row.N g.row.V _ taken.few, c.unnamed-in-Err.ensures)
