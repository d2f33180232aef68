use Rattle.std.proofs.Common.{◌+◌, ap, sym, ◌∙◌, arith}
use Rattle.narc_bits.proofs.Numbers.{length-bits_of_number}
use Rattle.narc_scalar.specs.Word.{word}
use Rattle.narc_scalar.proofs.word.WordFormat.write.Goals as goal

pub put-requires-clause-enough : goal.put-requires-clause-enough
unfolding word
put-requires-clause-enough g c = omega (arith, c.requires.enough, length-bits_of_number g.row.N c.args.value.now)

pub returns-clause-moved : goal.returns-clause-moved
unfolding word
returns-clause-moved g c = c.put.ensures.moved ∙ ap (λ k. c.args.writer.now + k) (sym (length-bits_of_number g.row.N c.args.value.now))

pub returns-clause-put : goal.returns-clause-put
unfolding word
returns-clause-put g c = c.put.ensures.put
