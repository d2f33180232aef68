use Rattle.std.proofs.Common.{arith}
use Rattle.std.proofs.lemmas.List.{get_or-replicate}
use Rattle.narc_run.proofs.counts.Counts.new.Goals as goal

pub returns : goal.returns
returns c = record { tally = c.new.ensures; refused = λ field within. get_or-replicate 256 field 0 0 (omega arith) }
