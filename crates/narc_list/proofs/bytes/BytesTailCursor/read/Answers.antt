use Rattle.std.proofs.Common.{◌≡◌, ◌*◌, ◌/◌, length, take, ap, sym, ◌∙◌, arith}
use Rattle.std.proofs.lemmas.List.{take_all}
use Rattle.narc_bits.specs.Scan.{bits_left, advance}
use Rattle.narc_bits.proofs.Scans.{length-bits_left}
use Rattle.narc_list.specs.Bytes.{all_octets}
use Rattle.narc_list.proofs.bytes.BytesTailCursor.read.Goals as goal

pub slice-requires-clause-enough : goal.slice-requires-clause-enough
slice-requires-clause-enough g c = omega (arith, length-bits_left c.args.cursor.now, c.left-count.ensures.value)

pub returns : goal.returns
unfolding all_octets
returns g c =
    let old = c.args.cursor.now in
    let count = c.left-count.result / 8 in
    let size : 8 * count ≡ length (bits_left old) = omega (arith, c.requires.aligned, length-bits_left old, c.left-count.ensures.value) in
    let all : take (8 * count) (bits_left old) ≡ bits_left old = take_all (8 * count) (bits_left old) (omega (arith, size)) in
    record {
      stood = (c.slice.ensures.each, sym all ∙ sym c.slice.ensures.value);
      moved = c.slice.ensures.moved ∙ ap (advance old) size;
      cost = omega (arith, c.slice.ensures.cost, size);
    }
