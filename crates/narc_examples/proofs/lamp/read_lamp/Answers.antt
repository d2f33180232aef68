use Rattle.narc_examples.proofs.lamp.read_lamp.Goals as goal

pub returns : goal.returns
returns c = c.read_front.ensures
