use Rattle.std.proofs.Common.{rules}
use Rattle.narc_stack.proofs.as_packet.AsPacketChooseUnitTuple2HeaderBody.strip.Goals as goal

pub returns : goal.returns
returns c = search rules
