use Rattle.std.proofs.Common.{rules}
use Rattle.narc_transport.proofs.as_udp.AsUdpChooseTuple2EndsUsizeRawUdp.choose.Goals as goal

pub returns : goal.returns
returns c = search rules
