use Rattle.std.proofs.Common.{rules}
use Rattle.narc_transport.proofs.as_tcp.AsTcpChooseTuple2EndsUsizeRawTcp.choose.Goals as goal

pub returns : goal.returns
returns c = search rules
