use Rattle.std.proofs.Common.{rules}
use Rattle.narc_stack.proofs.ipv4.ContentOfCarryIpHeaderUsizeTuple2ContentContextUsize.second.Goals as goal

pub returns : goal.returns
returns c = search rules
