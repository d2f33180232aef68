use Rattle.narc_examples.proofs.lite.read_lite.Goals as goal

pub returns : goal.returns
returns c = c.read_all.ensures
