use Rattle.narc_c.proofs.Places.{packet_lies}
use Rattle.narc_c.proofs.read.decode_with.Goals as goal

pub returns-in-Ok-clause-lies : goal.returns-in-Ok-clause-lies
returns-in-Ok-clause-lies g c = packet_lies c.in-Ok.packet c.args.frame.now c.in-Ok.ensures.answer c.in-Ok.ensures.spelled
