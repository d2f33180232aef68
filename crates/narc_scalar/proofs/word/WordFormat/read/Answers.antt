use Rattle.narc_format.proofs.Takes.{refused-lacks}
use Rattle.narc_scalar.specs.Word.{word}
use Rattle.narc_scalar.proofs.Words.{word_took}
use Rattle.narc_scalar.proofs.word.WordFormat.read.Goals as goal

pub returns-in-Ok : goal.returns-in-Ok
unfolding word
returns-in-Ok g c = word_took g.row.N _ _ _ _ _ c.requires.sound.0 c.in-Ok.ensures.taken c.in-Ok.ensures.cost

pub returns-in-Err : goal.returns-in-Err
unfolding word
returns-in-Err g c = refused-lacks (word g.row.N) tt _ _ _ _ _ _ c.in-Err.ensures.taken c.in-Err.ensures.cost (c.in-Err.ensures.taken.few, c.unnamed.ensures)
