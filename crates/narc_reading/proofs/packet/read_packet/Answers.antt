use Rattle.narc_reading.proofs.PacketWords.{line-read}
use Rattle.narc_reading.proofs.PacketsApart.{line-only}
use Rattle.narc_reading.proofs.packet.read_packet.Goals as goal

pub returns-clause-read : goal.returns-clause-read
returns-clause-read c = line-read c.args.line.now c.of-words.result c.read_words.result c.of-words.ensures c.read_words.ensures.read

pub returns-clause-only : goal.returns-clause-only
returns-clause-only c = line-only c.args.line.now c.read_words.result (line-read c.args.line.now c.of-words.result c.read_words.result c.of-words.ensures c.read_words.ensures.read)
