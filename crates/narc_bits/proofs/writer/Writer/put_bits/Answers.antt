use Rattle.std.proofs.Common.{◌+◌, ap}
use Rattle.narc_bits.proofs.writer.Writer.put_bits.Goals as goal

pub returns-clause-moved : goal.returns-clause-moved
returns-clause-moved c = ap (λ place. place + c.args.count) c.self.view_is
