use Rattle.std.proofs.Common.{◌*◌, take, drop, sym, ap, ◌∙◌, arith}
use Rattle.narc_bits.specs.Bits.{bits, number_of_bits}
use Rattle.narc_bits.proofs.Words.{number-joined}
use Rattle.narc_bits.proofs.bits.few_octets_at.Goals as goal

pub returns-in-3 : goal.returns-in-3
returns-in-3 c =
    number-joined c.args.bytes.now c.args.at 2 1 c.two_octets_at-in-3.result c.octet_at-in-3.result (omega arith) c.two_octets_at-in-3.ensures.value c.octet_at-in-3.ensures.value
    ∙ ap (λ n. number_of_bits (take (8 * n) (drop (8 * c.args.at) (bits c.args.bytes.now)))) (sym c.in-3.is)
