use Rattle.std.proofs.Common.{subst}
use Rattle.narc_bits.specs.Scan.{Scan, bits_left}
use Rattle.narc_format.specs.Answer.{IsAllAnswer}
use Rattle.narc_format.proofs.answer.read_all.Goals as goal

pub returns : goal.returns
returns g c = subst (λ (s : Scan). IsAllAnswer g.F.Tail.meaning c.args.ctx (bits_left s) c.all_of.result) c.new.ensures c.all_of.ensures
