use Rattle.std.proofs.Common.{[], ◌∷◌, ◌++◌}
use Rattle.narc_build.proofs.BuiltLines.{no_header}
use Rattle.narc_build.proofs.build_line.build_header.Goals as goal

pub returns-in_err-unit-clause-built : goal.returns-in_err-unit-clause-built
returns-in_err-unit-clause-built c =
    no_header (c.args.line.now ++ 10 ∷ []) c.args.writer.now c.from_residual.result c.from_residual.ensures.0
    (λ unit snap few e. c.in_err-unit.ensures (record { unit = unit; snap = snap }) few e)
