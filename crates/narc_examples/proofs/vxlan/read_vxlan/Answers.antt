use Rattle.narc_examples.proofs.vxlan.read_vxlan.Goals as goal

pub returns : goal.returns
returns c = c.read_front.ensures
