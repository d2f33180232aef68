use Rattle.narc_examples.proofs.readings.read_log.Goals as goal

pub returns : goal.returns
returns c = c.read_front.ensures
