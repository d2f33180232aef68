use Rattle.narc_packet.proofs.blocks.SackBlock.to_be_bytes.Goals as goal

pub returns : goal.returns
returns c = c.two_numbers.ensures
