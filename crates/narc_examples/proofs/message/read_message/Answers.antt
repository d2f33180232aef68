use Rattle.narc_examples.proofs.message.read_message.Goals as goal

pub returns : goal.returns
returns c = c.read_all.ensures
