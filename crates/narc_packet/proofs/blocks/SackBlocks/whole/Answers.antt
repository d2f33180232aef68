use Rattle.narc_packet.proofs.SpelledBlocks.{blocks_whole}
use Rattle.narc_packet.proofs.blocks.SackBlocks.whole.Goals as goal

pub returns : goal.returns
returns c = blocks_whole c.args.self.now.spelled.now c.known_octets.ensures
