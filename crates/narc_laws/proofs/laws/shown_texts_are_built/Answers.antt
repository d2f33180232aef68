use Rattle.narc_laws.proofs.BuiltTexts.{built_where_shown}
use Rattle.narc_laws.proofs.laws.shown_texts_are_built.Goals as goal

pub returns : goal.returns
returns c = built_where_shown
