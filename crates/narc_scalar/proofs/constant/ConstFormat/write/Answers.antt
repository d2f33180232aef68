use Rattle.std.proofs.Common.{◌+◌, ap, sym, ◌∙◌, arith}
use Rattle.narc_bits.proofs.Numbers.{length-bits_of_number}
use Rattle.narc_scalar.specs.Constant.{constant}
use Rattle.narc_scalar.proofs.constant.ConstFormat.write.Goals as goal

pub put-requires-clause-enough : goal.put-requires-clause-enough
unfolding constant
put-requires-clause-enough g c = omega (arith, c.requires.enough, length-bits_of_number g.row.N g.row.V)

pub returns-clause-moved : goal.returns-clause-moved
unfolding constant
returns-clause-moved g c = c.put.ensures.moved ∙ ap (λ k. c.args.writer.now + k) (sym (length-bits_of_number g.row.N g.row.V))
