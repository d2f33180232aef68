use Rattle.std.proofs.Common.{refl}
use Rattle.narc_rules.proofs.sized.NumberFirstCarryU64UnitUsize.second.Goals as goal

pub returns : goal.returns
returns c = refl
