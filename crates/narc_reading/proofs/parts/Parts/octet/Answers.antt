use Rattle.std.proofs.Common.{rules}
use Rattle.narc_reading.proofs.parts.Parts.octet.Goals as goal

pub returns : goal.returns
returns c = search rules
