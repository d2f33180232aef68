use Rattle.std.proofs.Common.{refl}
use Rattle.narc_transport.proofs.as_udp.AsUdpChooseTuple2EndsUsizeRawUdp.strip.Goals as goal

pub returns : goal.returns
returns c = refl
