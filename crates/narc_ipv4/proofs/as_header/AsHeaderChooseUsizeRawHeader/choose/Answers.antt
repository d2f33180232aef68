use Rattle.std.proofs.Common.{rules}
use Rattle.narc_ipv4.proofs.as_header.AsHeaderChooseUsizeRawHeader.choose.Goals as goal

pub returns : goal.returns
returns c = search rules
