use Rattle.std.proofs.Common.{sym}
use Rattle.narc_bits.proofs.Numbers.{length-bits_of_number}
use Rattle.narc_scalar.specs.Word.{word}
use Rattle.narc_scalar.proofs.word.WordFormat.size.Goals as goal

pub returns : goal.returns
unfolding word
returns g c = sym (length-bits_of_number g.row.N c.args._value.now)
