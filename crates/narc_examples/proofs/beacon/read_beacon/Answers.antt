use Rattle.narc_examples.proofs.beacon.read_beacon.Goals as goal

pub returns : goal.returns
returns c = c.read_front.ensures
