use Rattle.std.proofs.Common.{refl}
use Rattle.narc_format.proofs.fault.Fault.later_by.Goals as goal

pub returns : goal.returns
returns c = refl
