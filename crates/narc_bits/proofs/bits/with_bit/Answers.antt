use Rattle.std.proofs.Common.{arith}
use Rattle.narc_bits.proofs.WithBit.{unchanged, room, added, there, taken}
use Rattle.narc_bits.proofs.bits.with_bit.Goals as goal

pub overflow_add-result : goal.overflow_add-result
overflow_add-result c = omega (arith, room c.args.octet c.args.index c.args.bit c.requires (omega arith) c.if-bit-is_set.false c.if-bit.true)

pub overflow_sub-result : goal.overflow_sub-result
overflow_sub-result c = there c.args.octet c.args.index c.args.bit c.requires (omega arith) c.if-bit-is_set.false c.if-bit.false

pub returns-then-bit-is_set : goal.returns-then-bit-is_set
returns-then-bit-is_set c = unchanged c.args.octet c.args.index c.args.bit c.requires (omega arith) c.if-bit-is_set.true

pub returns-then-bit : goal.returns-then-bit
returns-then-bit c = added c.args.octet c.args.index c.args.bit c.requires (omega arith) c.if-bit-is_set.false c.if-bit.true

pub returns-else-bit : goal.returns-else-bit
returns-else-bit c = taken c.args.octet c.args.index c.args.bit c.requires (omega arith) c.if-bit-is_set.false c.if-bit.false
