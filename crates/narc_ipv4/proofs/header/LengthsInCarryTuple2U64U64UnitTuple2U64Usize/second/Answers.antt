use Rattle.std.proofs.Common.{refl}
use Rattle.narc_ipv4.proofs.header.LengthsInCarryTuple2U64U64UnitTuple2U64Usize.second.Goals as goal

pub returns : goal.returns
returns c = refl
