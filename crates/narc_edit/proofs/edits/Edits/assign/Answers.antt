-- A name that no row of the table has.
use Rattle.std.proofs.Common.{refl}
use Rattle.narc_edit.proofs.Assigning.{other_name}
use Rattle.narc_edit.proofs.edits.Edits.assign.Goals as goal

pub returns-in_default : goal.returns-in_default
returns-in_default c =
    let n = c.in_default in
    other_name _ _ _ _ _ n.not-text (
    other_name _ _ _ _ _ n.not-text-2 (
    other_name _ _ _ _ _ n.not-text-3 (
    other_name _ _ _ _ _ n.not-text-4 (
    other_name _ _ _ _ _ n.not-text-5 (
    other_name _ _ _ _ _ n.not-text-6 (
    other_name _ _ _ _ _ n.not-text-7 (
    other_name _ _ _ _ _ n.not-text-8 (
    other_name _ _ _ _ _ n.not-text-9 (
    other_name _ _ _ _ _ n.not-text-10 (
    other_name _ _ _ _ _ n.not-text-11 (
    other_name _ _ _ _ _ n.not-text-12 (
    other_name _ _ _ _ _ n.not-text-13 (
    other_name _ _ _ _ _ n.not-text-14 (
    other_name _ _ _ _ _ n.not-text-15 (
    other_name _ _ _ _ _ n.not-text-16 (
    other_name _ _ _ _ _ n.not-text-17 (
    other_name _ _ _ _ _ n.not-text-18 (
    other_name _ _ _ _ _ n.not-text-19 (
    other_name _ _ _ _ _ n.not-text-20 (
    other_name _ _ _ _ _ n.not-text-21 (
    other_name _ _ _ _ _ n.not-text-22 (
    other_name _ _ _ _ _ n.not-text-23 (
    refl)))))))))))))))))))))))
