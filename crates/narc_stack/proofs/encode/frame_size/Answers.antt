use Rattle.std.proofs.Common.{arith}
use Rattle.narc_stack.proofs.Encoded.{encoded_admits, spelling_size, spelling_small, encoded_small}
use Rattle.narc_stack.proofs.FrameSound.{frame_part_sound}
use Rattle.narc_stack.proofs.encode.frame_size.Goals as goal

pub size-requires-clause-sound : goal.size-requires-clause-sound
size-requires-clause-sound c = frame_part_sound

pub size-requires-clause-admitted : goal.size-requires-clause-admitted
size-requires-clause-admitted c = encoded_admits c.args.packet.now c.requires.well_formed c.requires.spelled

pub size-requires-clause-small : goal.size-requires-clause-small
size-requires-clause-small c = spelling_small c.args.packet.now c.requires.well_formed c.requires.spelled

pub returns-clause-size : goal.returns-clause-size
returns-clause-size c = omega (arith, c.size.ensures, spelling_size c.args.packet.now c.requires.well_formed c.requires.spelled)

pub returns-clause-bound : goal.returns-clause-bound
returns-clause-bound c =
    let p = c.args.packet.now in
    omega (arith, c.size.ensures, spelling_size p c.requires.well_formed c.requires.spelled, encoded_small p c.requires.well_formed c.requires.spelled)
