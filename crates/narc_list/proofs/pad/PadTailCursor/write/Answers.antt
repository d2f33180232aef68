use Rattle.std.proofs.Common.{ℕ, replicate, arith}
use Rattle.std.proofs.Math.ListN.{length-replicate}
use Rattle.narc_bits.proofs.Numbers.{length-bits}
use Rattle.narc_list.specs.Pad.{padding}
use Rattle.narc_list.proofs.pad.PadTailCursor.write.Goals as goal

pub put_zeros-requires-clause-enough : goal.put_zeros-requires-clause-enough
unfolding padding
put_zeros-requires-clause-enough c = omega (arith, c.requires.enough, length-bits (replicate c.args.ctx 0), length-replicate {A = ℕ} c.args.ctx 0)

pub returns-clause-moved : goal.returns-clause-moved
unfolding padding
returns-clause-moved c = omega (arith, c.put_zeros.ensures.moved, length-bits (replicate c.args.ctx 0), length-replicate {A = ℕ} c.args.ctx 0)
