use Rattle.std.proofs.Common.{ap, ◌∙◌, arith}
use Rattle.narc_bits.specs.Bits.{bits, overlay}
use Rattle.narc_bits.proofs.Octets.{IsOctets-from_index}
use Rattle.narc_stack.specs.FramePart.{frame_part}
use Rattle.narc_stack.proofs.FrameSound.{frame_part_sound}
use Rattle.narc_stack.proofs.Encoded.{encoded_admits, spelling_size, encoded_front}
use Rattle.narc_stack.proofs.encode.write_frame.Goals as goal

pub write-requires-clause-sound : goal.write-requires-clause-sound
write-requires-clause-sound c = frame_part_sound

pub write-requires-clause-admitted : goal.write-requires-clause-admitted
write-requires-clause-admitted c = encoded_admits c.args.packet.now c.requires.well_formed c.requires.spelled

pub write-requires-clause-small : goal.write-requires-clause-small
write-requires-clause-small c = c.requires.small

pub write-requires-clause-enough : goal.write-requires-clause-enough
write-requires-clause-enough c =
    omega (arith, c.new-writer.ensures, spelling_size c.args.packet.now c.requires.well_formed c.requires.spelled, c.requires.enough)

pub write-requires-clause-aligned : goal.write-requires-clause-aligned
write-requires-clause-aligned c = omega (arith, c.new-writer.ensures)

pub returns : goal.returns
returns c =
    let p = c.args.packet.now in
    let old = c.args.room.now in
    let new = c.write.new.room in
    encoded_front p c.requires.well_formed c.requires.spelled old new c.known_octets.ensures (IsOctets-from_index new (λ i. omega (arith, c.type_inv.room i))) c.requires.enough
    (c.write.ensures.put ∙ ap (λ k. overlay (bits old) k (frame_part.spelling tt p)) c.new-writer.ensures)
