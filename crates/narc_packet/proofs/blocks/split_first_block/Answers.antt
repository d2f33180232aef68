use Rattle.narc_packet.proofs.SpelledBlocks.{sack_blocks_in-first}
use Rattle.narc_packet.proofs.blocks.split_first_block.Goals as goal

pub returns-clause-first : goal.returns-clause-first
returns-clause-first c =
    sack_blocks_in-first c.args.spelled.now c.from_be_bytes.result c.from_be_bytes-2.result c.in-len8-up.len_at_least c.from_be_bytes.ensures c.from_be_bytes-2.ensures
