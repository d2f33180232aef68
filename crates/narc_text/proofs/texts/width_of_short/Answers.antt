use Rattle.std.proofs.Common.{◌/◌, arith}
use Rattle.itoa.proofs.Decimal.{length_one, length_four}
use Rattle.narc_text.proofs.texts.width_of_short.Goals as goal

pub returns-else-number-lt10000-clause-value : goal.returns-else-number-lt10000-clause-value
returns-else-number-lt10000-clause-value c =
    let n = c.args.number in
    omega (arith, length_four n c.if-number-lt10000.false (omega arith), length_one (n / 10000) (omega arith))
