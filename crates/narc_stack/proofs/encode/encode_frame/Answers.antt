use Rattle.std.proofs.Common.{refl, arith}
use Rattle.narc_packet.specs.Canonical.{canonical_frame}
use Rattle.narc_packet.specs.PacketView.{view}
use Rattle.narc_stack.proofs.Rooms.{taken, left, as_long}
use Rattle.narc_stack.proofs.encode.encode_frame.Goals as goal

pub returns-then-room-size-clause-fits : goal.returns-then-room-size-clause-fits
returns-then-room-size-clause-fits c = (λ h. let none : ⊥ = cc in absurd none, λ h. absurd (omega (arith, c.frame_size-size.ensures.size, c.if-room-size.true)))

pub returns-clause-fits : goal.returns-clause-fits
returns-clause-fits c = (λ h. omega (arith, c.frame_size-size.ensures.size, c.if-room-size.false), λ h. refl)

pub returns-clause-size : goal.returns-clause-size
returns-clause-size c = c.frame_size-size.ensures.size

pub returns-clause-written : goal.returns-clause-written
returns-clause-written c =
    taken c.args.room.now c.write_frame.new.room (canonical_frame (view c.args.packet.now)) c.frame_size-size.result c.frame_size-size.ensures.size c.write_frame.ensures

pub returns-clause-rest : goal.returns-clause-rest
returns-clause-rest c =
    left c.args.room.now c.write_frame.new.room (canonical_frame (view c.args.packet.now)) c.frame_size-size.result c.frame_size-size.ensures.size c.write_frame.ensures

pub returns-clause-short : goal.returns-clause-short
returns-clause-short c = tt

pub returns-clause-len : goal.returns-clause-len
returns-clause-len c =
    as_long c.args.room.now c.write_frame.new.room (canonical_frame (view c.args.packet.now)) c.frame_size-size.result c.frame_size-size.ensures.size c.write_frame.ensures (omega (arith, c.if-room-size.false))
