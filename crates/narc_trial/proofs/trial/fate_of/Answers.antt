use Rattle.std.proofs.Common.{refl, sym, subst, arith}
use Rattle.narc_packet.specs.Frame.{IsFrame}
use Rattle.narc_packet.specs.PacketView.{PacketView}
use Rattle.narc_trial.proofs.trial.fate_of.Goals as goal

pub returns-in-Err-clause-cost : goal.returns-in-Err-clause-cost
returns-in-Err-clause-cost g c = omega (arith, c.decode_frame.ensures.cost)

-- the frame that was decoded is one of the packet, where both are the same
pub returns-then-same-clause-fate : goal.returns-then-same-clause-fate
returns-then-same-clause-fate g c = subst (λ (p : PacketView). IsFrame p c.args.octets.now) (sym (c.if-same.ensures.0 refl)) c.in-Ok.ensures.answer
