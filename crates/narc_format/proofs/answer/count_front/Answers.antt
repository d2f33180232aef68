use Rattle.narc_format.proofs.Fronts.{front_read}
use Rattle.narc_format.proofs.answer.count_front.Goals as goal

pub returns-in-Ok : goal.returns-in-Ok
returns-in-Ok g c = front_read g.F.Format.meaning c.args.ctx c.format_is_exact.ensures.reads c.in-Ok.ensures c.requires.start c.place.result c.place.ensures.value
