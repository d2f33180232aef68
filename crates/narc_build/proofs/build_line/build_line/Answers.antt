use Rattle.std.proofs.Common.{[], ◌∷◌, ap, arith, length, length-append}
use Rattle.narc_reading.specs.Reading.{entry_view}
use Rattle.narc_build.proofs.TextFacts.{text_facts}
use Rattle.narc_build.proofs.build_line.build_line.Goals as goal

pub frame-requires-clause-few : goal.frame-requires-clause-few
frame-requires-clause-few c = text_facts.frame_fits (entry_view c.in-Ok.field-0) (c.in-Ok.ensures.read).0

pub frame-requires-clause-room : goal.frame-requires-clause-room
frame-requires-clause-room c =
    let read = c.in-Ok.ensures.read in
    omega (arith, c.requires.room, text_facts.record_fits (entry_view c.in-Ok.field-0) read.0, ap length read.1, length-append c.args.line.now (10 ∷ []))
