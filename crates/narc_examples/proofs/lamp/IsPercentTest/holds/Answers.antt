use Rattle.std.proofs.Common.{refl}
use Rattle.narc_examples.proofs.lamp.IsPercentTest.holds.Goals as goal

pub returns : goal.returns
returns c = refl
