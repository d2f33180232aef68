use Rattle.std.proofs.Common.{rules}
use Rattle.narc_packet.proofs.field.known_name.Goals as goal

pub returns-in-22-clause-value : goal.returns-in-22-clause-value
returns-in-22-clause-value c = search rules
