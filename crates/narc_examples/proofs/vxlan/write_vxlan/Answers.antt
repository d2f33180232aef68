use Rattle.narc_examples.proofs.vxlan.write_vxlan.Goals as goal

pub returns-clause-put : goal.returns-clause-put
returns-clause-put c = cc (c.write.ensures.put, c.new-writer.ensures)
