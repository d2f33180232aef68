use Rattle.std.proofs.Common.{◌∙◌, ap}
use Rattle.narc_bits.specs.Bits.{bits, overlay}
use Rattle.narc_scalar.specs.Flag.{flag}
use Rattle.narc_scalar.proofs.Flags.{bit_of_flag}
use Rattle.narc_scalar.proofs.flag.FlagFormat.write.Goals as goal

pub returns-clause-put : goal.returns-clause-put
unfolding flag
returns-clause-put g c = c.put.ensures.put ∙ ap (overlay (bits c.args.room.now) c.args.writer.now) (bit_of_flag c.args.value.now)
