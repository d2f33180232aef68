use Rattle.std.proofs.Common.{arith}
use Rattle.narc_bits.proofs.Numbers.{length-bits}
use Rattle.narc_scalar.specs.Octets.{fixed_octets}
use Rattle.narc_scalar.proofs.octets.Octets4Format.size.Goals as goal

pub returns : goal.returns
unfolding fixed_octets
returns g c = omega (arith, length-bits c.args._value.now, c.requires.admitted.0)
