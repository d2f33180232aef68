use Rattle.std.proofs.Common.{refl}
use Rattle.narc_ipv4.proofs.header.IsVersionTest.holds.Goals as goal

pub returns : goal.returns
returns c = refl
