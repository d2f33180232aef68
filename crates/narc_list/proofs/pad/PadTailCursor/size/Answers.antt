use Rattle.std.proofs.Common.{ℕ, replicate, arith}
use Rattle.std.proofs.Math.ListN.{length-replicate}
use Rattle.narc_bits.proofs.Numbers.{length-bits}
use Rattle.narc_list.specs.Pad.{padding}
use Rattle.narc_list.proofs.pad.PadTailCursor.size.Goals as goal

pub overflow_mul-result : goal.overflow_mul-result
unfolding padding
overflow_mul-result c = omega (arith, c.requires.small, length-bits (replicate c.args.ctx 0), length-replicate {A = ℕ} c.args.ctx 0)

pub returns : goal.returns
unfolding padding
returns c = omega (arith, length-bits (replicate c.args.ctx 0), length-replicate {A = ℕ} c.args.ctx 0)
