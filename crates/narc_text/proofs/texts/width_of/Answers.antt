use Rattle.std.proofs.Common.{arith}
use Rattle.std.proofs.lemmas.Fmt.{length-decimal-le}
use Rattle.itoa.proofs.Decimal.{length_four}
use Rattle.narc_text.proofs.texts.width_of.Goals as goal

pub loop-rest-preserved : goal.loop-rest-preserved
loop-rest-preserved c =
    let rest = c.loop-rest.rest in
    let step = length_four rest c.loop-rest-test.true c.loop-rest.auto.rest-fits.fits in
    let most = length-decimal-le 20 c.args.number (omega arith) (omega (arith, c.ranges.number.fits)) c.ranges.number.fits in
    record {
      whole = omega (arith, c.loop-rest.invariant.whole, step);
      few = omega (arith, c.loop-rest.invariant.whole, step, most);
    }

pub returns-clause-bound : goal.returns-clause-bound
returns-clause-bound c =
    let most = length-decimal-le 20 c.args.number (omega arith) (omega (arith, c.ranges.number.fits)) c.ranges.number.fits in
    omega (arith, c.loop-rest.invariant.whole, c.width_of_four.ensures.value, most)
