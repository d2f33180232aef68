use Rattle.std.proofs.Common.{rules, arith}
use Rattle.std.proofs.lemmas.Grind.{common_steps}
use Rattle.narc_world.proofs.MemoryPull.{copies_front}
use Rattle.narc_world.proofs.memory_source.MemorySourceSource.pull.Goals as goal

-- src/memory_source.rt:77:5
pub returns-clause-octets : goal.returns-clause-octets
returns-clause-octets c =
    (grind (arith, common_steps), grind (arith, common_steps), search (rules, copies_front, common_steps))
