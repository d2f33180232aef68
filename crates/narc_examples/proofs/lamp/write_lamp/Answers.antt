use Rattle.narc_examples.proofs.lamp.write_lamp.Goals as goal

pub returns-clause-put : goal.returns-clause-put
returns-clause-put c = cc (c.write.ensures.put, c.new-writer.ensures)
