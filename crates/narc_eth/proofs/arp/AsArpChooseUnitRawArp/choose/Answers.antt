use Rattle.std.proofs.Common.{rules}
use Rattle.narc_eth.proofs.arp.AsArpChooseUnitRawArp.choose.Goals as goal

pub returns : goal.returns
returns c = search rules
