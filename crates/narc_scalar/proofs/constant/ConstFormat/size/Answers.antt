use Rattle.std.proofs.Common.{sym}
use Rattle.narc_bits.proofs.Numbers.{length-bits_of_number}
use Rattle.narc_scalar.specs.Constant.{constant}
use Rattle.narc_scalar.proofs.constant.ConstFormat.size.Goals as goal

pub returns : goal.returns
unfolding constant
returns g c = sym (length-bits_of_number g.row.N g.row.V)
