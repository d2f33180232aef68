use Rattle.std.proofs.Common.{arith}
use Rattle.narc_bits.proofs.Octets.{IsOctets-from_index}
use Rattle.narc_stack.proofs.FrameSound.{frame_part_sound}
use Rattle.narc_packet.specs.PacketView.{view}
use Rattle.narc_stack.proofs.FrameRelation.{frame_stands}
use Rattle.narc_stack.proofs.WellFormed.{well_formed_of}
use Rattle.narc_stack.proofs.FrameAnswers.{only_packet, only_refusal, stood_whole, refused_whole, cost_took, cost_refused}
use Rattle.narc_stack.proofs.decode.decode_frame.Goals as goal

pub read-requires-clause-sound : goal.read-requires-clause-sound
read-requires-clause-sound g c = frame_part_sound

pub returns-in-Ok-clause-only : goal.returns-in-Ok-clause-only
returns-in-Ok-clause-only g c =
    let b = c.args.bytes.now in
    only_packet b (IsOctets-from_index b (λ i. omega (arith, c.type_inv.bytes i))) c.in-Ok.packet
    (stood_whole b _ _ _ _ c.new-cursor.ensures c.in-Ok.packet c.in-Ok.ensures)

pub returns-in-Ok-clause-answer : goal.returns-in-Ok-clause-answer
returns-in-Ok-clause-answer g c = (returns-in-Ok-clause-only g c).right

pub returns-in-Ok-clause-well_formed : goal.returns-in-Ok-clause-well_formed
returns-in-Ok-clause-well_formed g c =
    let b = c.args.bytes.now in
    let p = c.in-Ok.packet in
    let frame = (frame_stands p b (IsOctets-from_index b (λ i. omega (arith, c.type_inv.bytes i)))).0 (stood_whole b _ _ _ _ c.new-cursor.ensures p c.in-Ok.ensures) in
    well_formed_of (view p) b frame.0 c.requires.small

pub returns-in-Ok-clause-spelled : goal.returns-in-Ok-clause-spelled
returns-in-Ok-clause-spelled g c =
    let b = c.args.bytes.now in
    let p = c.in-Ok.packet in
    let frame = (frame_stands p b (IsOctets-from_index b (λ i. omega (arith, c.type_inv.bytes i)))).0 (stood_whole b _ _ _ _ c.new-cursor.ensures p c.in-Ok.ensures) in
    frame.1

pub returns-in-Ok-clause-cost : goal.returns-in-Ok-clause-cost
returns-in-Ok-clause-cost g c = cost_took c.args.bytes.now _ _ _ _ c.new-cursor.ensures c.in-Ok.packet c.in-Ok.ensures

pub returns-in-Err-clause-only : goal.returns-in-Err-clause-only
returns-in-Err-clause-only g c =
    let b = c.args.bytes.now in
    only_refusal b (IsOctets-from_index b (λ i. omega (arith, c.type_inv.bytes i))) c.in-Err.fault
    (refused_whole b _ _ _ _ c.new-cursor.ensures c.in-Err.fault c.in-Err.ensures)

pub returns-in-Err-clause-answer : goal.returns-in-Err-clause-answer
returns-in-Err-clause-answer g c = (returns-in-Err-clause-only g c).right

pub returns-in-Err-clause-cost : goal.returns-in-Err-clause-cost
returns-in-Err-clause-cost g c = cost_refused c.args.bytes.now _ _ _ _ c.new-cursor.ensures c.in-Err.fault c.in-Err.ensures
