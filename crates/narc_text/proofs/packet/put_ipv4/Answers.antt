use Rattle.std.proofs.Common.{arith}
use Rattle.std.proofs.lemmas.Grind.{common_steps}
use Rattle.narc_text.proofs.packet.put_ipv4.Goals as goal

pub returns : goal.returns
returns c = grind (arith, common_steps)
