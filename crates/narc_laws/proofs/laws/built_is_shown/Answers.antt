use Rattle.narc_laws.proofs.BuiltShown.{built_is_shown}
use Rattle.narc_laws.proofs.laws.built_is_shown.Goals as goal

pub returns : goal.returns
returns c = built_is_shown
