use Rattle.std.proofs.Common.{arith}
use Rattle.narc_examples.proofs.readings.write_log.Goals as goal

pub returns-clause-bits : goal.returns-clause-bits
returns-clause-bits c = omega (arith, c.place.ensures, c.write.ensures.moved, c.new-writer.ensures)
