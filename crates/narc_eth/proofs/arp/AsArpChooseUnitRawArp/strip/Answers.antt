use Rattle.std.proofs.Common.{refl}
use Rattle.narc_eth.proofs.arp.AsArpChooseUnitRawArp.strip.Goals as goal

pub returns : goal.returns
returns c = refl
