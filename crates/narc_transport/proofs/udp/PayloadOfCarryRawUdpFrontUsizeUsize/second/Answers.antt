use Rattle.std.proofs.Common.{rules}
use Rattle.narc_transport.proofs.udp.PayloadOfCarryRawUdpFrontUsizeUsize.second.Goals as goal

pub returns : goal.returns
returns c = search rules
