use Rattle.narc_format.proofs.Tails.{decided, reads_exactly, read_back}
use Rattle.narc_format.proofs.laws.tail_is_exact.Goals as goal

pub returns-clause-decided : goal.returns-clause-decided
returns-clause-decided g c = decided g.F.Tail.meaning g.met.F.Tail.laws c.requires.sound

pub returns-clause-reads : goal.returns-clause-reads
returns-clause-reads g c = reads_exactly g.F.Tail.meaning g.met.F.Tail.laws c.requires.sound

pub returns-clause-back : goal.returns-clause-back
returns-clause-back g c = read_back g.F.Tail.meaning g.met.F.Tail.laws c.requires.sound
