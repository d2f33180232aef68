use Rattle.std.proofs.Common.{◌≡◌, ◌*◌, ◌/◌, length, ap, ◌∙◌, arith}
use Rattle.narc_bits.specs.Scan.{bits_left, advance}
use Rattle.narc_bits.proofs.Scans.{length-bits_left}
use Rattle.narc_list.specs.Pad.{padding}
use Rattle.narc_list.proofs.pad.PadTailCursor.read.Goals as goal

pub slice-requires-clause-enough : goal.slice-requires-clause-enough
slice-requires-clause-enough g c = omega (arith, length-bits_left c.args.cursor.now, c.left-count.ensures.value)

pub returns : goal.returns
unfolding padding
returns g c =
    let old = c.args.cursor.now in
    let size : 8 * (c.left-count.result / 8) ≡ length (bits_left old) = omega (arith, c.requires.aligned, length-bits_left old, c.left-count.ensures.value) in
    record {
      stood = omega (arith, size);
      moved = c.slice.ensures.moved ∙ ap (advance old) size;
      cost = omega (arith, c.slice.ensures.cost, size);
    }
