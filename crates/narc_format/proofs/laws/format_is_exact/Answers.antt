use Rattle.narc_format.proofs.Formats.{front_free, decided, reads_exactly, read_back}
use Rattle.narc_format.proofs.laws.format_is_exact.Goals as goal

pub returns-clause-front_free : goal.returns-clause-front_free
returns-clause-front_free g c = front_free g.F.Format.meaning g.met.F.Format.laws c.requires.sound

pub returns-clause-decided : goal.returns-clause-decided
returns-clause-decided g c = decided g.F.Format.meaning g.met.F.Format.laws c.requires.sound

pub returns-clause-reads : goal.returns-clause-reads
returns-clause-reads g c = reads_exactly g.F.Format.meaning g.met.F.Format.laws c.requires.sound

pub returns-clause-back : goal.returns-clause-back
returns-clause-back g c = read_back g.F.Format.meaning g.met.F.Format.laws c.requires.sound
