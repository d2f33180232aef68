use Rattle.std.proofs.Common.{rules}
use Rattle.narc_reading.proofs.lines.read_unit.Goals as goal

pub returns-then-is_word : goal.returns-then-is_word
returns-then-is_word c = search rules
