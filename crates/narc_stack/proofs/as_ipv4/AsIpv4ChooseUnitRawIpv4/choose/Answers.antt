use Rattle.std.proofs.Common.{rules}
use Rattle.narc_stack.proofs.as_ipv4.AsIpv4ChooseUnitRawIpv4.choose.Goals as goal

pub returns : goal.returns
returns c = search rules
