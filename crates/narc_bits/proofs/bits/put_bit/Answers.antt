use Rattle.std.proofs.Common.{◌≡◌, ◌+◌, ◌*◌, ◌/◌, ◌%◌, set, ap, ◌∙◌, arith}
use Rattle.narc_bits.specs.Bits.{bits}
use Rattle.narc_bits.proofs.Numbers.{set-bits}
use Rattle.narc_bits.proofs.bits.put_bit.Goals as goal

pub returns-clause-set : goal.returns-clause-set
returns-clause-set c =
    let b = c.args.room.now in
    let p = c.args.place in
    let at : 8 * (p / 8) + p % 8 ≡ p = omega arith in
    set-bits b (p / 8) (p % 8) c.with_bit.result c.args.bit (omega arith) (omega arith) c.with_bit.ensures
    ∙ ap (λ q. set (bits b) q c.args.bit) at
