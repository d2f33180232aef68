use Rattle.std.proofs.Common.{rules}
use Rattle.narc_text.proofs.words.put_flags.Goals as goal

pub returns-clause-value : goal.returns-clause-value
returns-clause-value c = search rules
