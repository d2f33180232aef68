use Rattle.narc_bits.proofs.Middles.{masked}
use Rattle.narc_bits.proofs.bits.with_middle.Goals as goal

pub returns : goal.returns
returns c = masked c.args.old c.args.behind c.args.count c.args.number c.requires.within c.requires.small
