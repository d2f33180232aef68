use Rattle.std.proofs.Common.{[], ◌∷◌, ◌++◌, sym, ◌∙◌}
use Rattle.narc_build.proofs.BuiltLines.{end_told}
use Rattle.narc_reading.proofs.LineWords.{end_line-injective}
use Rattle.narc_build.proofs.build_line.is_end.Goals as goal

pub returns-in-Ok : goal.returns-in-Ok
returns-in-Ok c =
    let packets = c.in-Ok.end.packets in
    let read = c.in-Ok.ensures in
    end_told (c.args.line.now ++ 10 ∷ []) packets c.args.records read.1 (λ same. end_line-injective packets c.args.records read.0 c.requires (sym read.1 ∙ same))

pub returns-in-Err : goal.returns-in-Err
returns-in-Err c = λ e. c.in-Err.ensures (record { packets = c.args.records }) c.requires e
