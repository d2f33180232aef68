use Rattle.narc_bits.proofs.writer.Writer.patch16.Goals as goal

pub returns-clause-put : goal.returns-clause-put
returns-clause-put c = c.put_number.ensures.put
