use Rattle.std.proofs.Common.{arith}
use Rattle.narc_bits.proofs.Numbers.{length-bits}
use Rattle.narc_list.specs.Bytes.{all_octets}
use Rattle.narc_list.proofs.bytes.BytesTailCursor.size.Goals as goal

pub overflow_mul-result : goal.overflow_mul-result
unfolding all_octets
overflow_mul-result c = omega (arith, c.requires.small, length-bits c.args.value.now.now)

pub returns : goal.returns
unfolding all_octets
returns c = omega (arith, length-bits c.args.value.now.now)
