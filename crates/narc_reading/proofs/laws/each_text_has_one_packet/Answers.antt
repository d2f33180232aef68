use Rattle.narc_reading.proofs.PacketsApart.{text-injective}
use Rattle.narc_reading.proofs.laws.each_text_has_one_packet.Goals as goal

pub returns : goal.returns
returns c = text-injective
