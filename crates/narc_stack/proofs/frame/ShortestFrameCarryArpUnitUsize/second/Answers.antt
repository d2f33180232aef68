use Rattle.std.proofs.Common.{refl}
use Rattle.narc_stack.proofs.frame.ShortestFrameCarryArpUnitUsize.second.Goals as goal

pub returns : goal.returns
returns c = refl
