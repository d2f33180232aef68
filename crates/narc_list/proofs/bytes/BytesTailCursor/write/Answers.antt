use Rattle.std.proofs.Common.{arith}
use Rattle.narc_bits.proofs.Numbers.{length-bits}
use Rattle.narc_list.specs.Bytes.{all_octets}
use Rattle.narc_list.proofs.bytes.BytesTailCursor.write.Goals as goal

pub put_slice-requires-clause-enough : goal.put_slice-requires-clause-enough
unfolding all_octets
put_slice-requires-clause-enough c = omega (arith, c.requires.enough, length-bits c.args.value.now.now)

pub returns-clause-moved : goal.returns-clause-moved
unfolding all_octets
returns-clause-moved c = omega (arith, c.put_slice.ensures.moved, length-bits c.args.value.now.now)

pub returns-clause-put : goal.returns-clause-put
unfolding all_octets
returns-clause-put c = c.put_slice.ensures.put
