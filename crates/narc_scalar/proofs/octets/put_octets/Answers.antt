use Rattle.std.proofs.Common.{◌≡◌, ◌+◌, ◌*◌, ◌≤◌, length, take, get_or, ap, sym, ◌∙◌, arith, length-take}
use Rattle.narc_bits.specs.Bits.{bits, bits_of_number, overlay}
use Rattle.narc_bits.proofs.Lists.{overlay-nil, overlay-overlay}
use Rattle.narc_bits.proofs.Numbers.{length-bits}
use Rattle.narc_bits.proofs.Spelled.{bits-more}
use Rattle.narc_scalar.proofs.octets.put_octets.Goals as goal

pub loop-octet-init : goal.loop-octet-init
unfolding bits
loop-octet-init c = record {
  len = omega arith;
  place = omega arith;
  put = sym (overlay-nil (bits c.args.room.now) c.args.writer.now);
}

pub loop-octet-preserved : goal.loop-octet-preserved
loop-octet-preserved c =
    let octets = c.args.octets.now in
    let i = c.loop-octet.octet-index in
    let old = bits c.args.room.now in
    let p = c.args.writer.now in
    let before = bits (take i octets) in
    let octet = bits_of_number 8 (get_or octets i 0) in
    let size : length before ≡ 8 * i = omega (arith, length-bits (take i octets), length-take i octets, c.loop-octet-test.true) in
    let place : c.loop-octet.writer ≡ p + length before = omega (arith, c.loop-octet.invariant.place, size) in
    let within : p + length before ≤ length old = omega (arith, size, c.loop-octet-test.true, c.requires.enough, length-bits octets, length-bits c.args.room.now) in
    record {
      len = omega (arith, c.put.ensures.len, c.loop-octet.invariant.len);
      place = omega (arith, c.put.ensures.moved, c.loop-octet.invariant.place);
      put = c.put.ensures.put
          ∙ ap (λ l. overlay l c.loop-octet.writer octet) c.loop-octet.invariant.put
          ∙ ap (λ q. overlay (overlay old p before) q octet) place
          ∙ overlay-overlay old p before octet within
          ∙ ap (overlay old p) (sym (bits-more octets i c.loop-octet-test.true));
    }

pub put-requires-clause-enough : goal.put-requires-clause-enough
put-requires-clause-enough c = omega (arith, c.requires.enough, length-bits c.args.octets.now, c.loop-octet.invariant.place, c.loop-octet.invariant.len, c.loop-octet-test.true)

pub returns-clause-moved : goal.returns-clause-moved
returns-clause-moved c = omega (arith, c.loop-octet.invariant.place, length-bits c.args.octets.now, c.loop-octet-test.false)
