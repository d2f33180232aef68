use Rattle.std.proofs.Common.{rules}
use Rattle.narc_packet.proofs.option_type.TcpOptionType.of.Goals as goal

pub returns-in-5-eq8 : goal.returns-in-5-eq8
returns-in-5-eq8 c = search rules
