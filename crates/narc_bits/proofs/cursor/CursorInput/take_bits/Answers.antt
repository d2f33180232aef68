use Rattle.std.proofs.Common.{take, ap, ◌∙◌, arith, refl}
use Rattle.narc_bits.specs.Bits.{number_of_bits}
use Rattle.narc_bits.specs.Scan.{Scan, bits_left, advance}
use Rattle.narc_bits.proofs.Scans.{length-bits_left}
use Rattle.narc_bits.proofs.cursor.CursorInput.take_bits.Goals as goal

pub returns-then-left-count-clause-taken : goal.returns-then-left-count-clause-taken
returns-then-left-count-clause-taken g c = record {
  few = omega (arith, length-bits_left c.args.self.now, c.left.ensures.value, c.if-left-count.true);
  stays = refl;
}

pub returns-clause-taken : goal.returns-clause-taken
returns-clause-taken g c = record {
  enough = omega (arith, length-bits_left c.args.self.now, c.left.ensures.value, c.if-left-count.false);
  is = c.number_in-number.ensures ∙ ap (λ (s : Scan). number_of_bits (take c.args.count (bits_left s))) c.self.view_is;
  moved = ap (λ (s : Scan). advance s c.args.count) c.self.view_is;
}
