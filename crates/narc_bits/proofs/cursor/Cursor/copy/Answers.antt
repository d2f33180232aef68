use Rattle.narc_bits.proofs.cursor.Cursor.copy.Goals as goal

pub returns : goal.returns
returns c = c.self.view_is
