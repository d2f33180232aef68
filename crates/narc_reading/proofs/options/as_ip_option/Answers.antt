use Rattle.std.proofs.Common.{rules}
use Rattle.narc_reading.proofs.options.as_ip_option.Goals as goal

pub returns-in-Nop : goal.returns-in-Nop
returns-in-Nop c = search rules
