use Rattle.std.proofs.Common.{refl}
use Rattle.narc_ipv4.proofs.as_header.AsHeaderChooseUsizeRawHeader.strip.Goals as goal

pub returns : goal.returns
returns c = refl
