use Rattle.std.proofs.Common.{◌≡◌, ◌+◌, ◌*◌, ◌<◌, ◌/◌, ◌%◌, false, get_or, ap, sym, ◌∙◌, arith}
use Rattle.narc_bits.specs.Bits.{bits}
use Rattle.narc_bits.proofs.Numbers.{get_or-bits, get_or-bits_of_number}
use Rattle.narc_bits.proofs.bits.bit_at.Goals as goal

pub returns : goal.returns
returns c =
    let b = c.args.bytes.now in
    let p = c.args.place in
    let at : 8 * (p / 8) + p % 8 ≡ p = omega arith in
    let k : p % 8 < 8 = omega arith in
    sym (ap (λ q. get_or (bits b) q false) (sym at) ∙ get_or-bits b (p / 8) (p % 8) (omega arith) k ∙ get_or-bits_of_number 8 (get_or b (p / 8) 0) (p % 8) k)
