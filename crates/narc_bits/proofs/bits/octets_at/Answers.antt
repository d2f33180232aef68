use Rattle.std.proofs.Common.{ℕ, ◌≡◌, ◌+◌, ◌*◌, ◌-◌, ◌<◌, ◌%◌, ◌^◌, take, drop, ap, ◌∙◌, arith, length-take}
use Rattle.std.proofs.Math.Nat.{mod-eq_of_lt}
use Rattle.narc_bits.specs.Bits.{bits, number_of_bits}
use Rattle.narc_bits.proofs.Numbers.{number_of_bits_below}
use Rattle.narc_bits.proofs.Words.{number-joined}
use Rattle.narc_bits.proofs.bits.octets_at.Goals as goal

module _ (c : goal.After-few_octets_at-2) where
  abbrev rest : ℕ
  rest = c.args.size - 4

  abbrev spelled : ℕ
  spelled = number_of_bits (take (8 * c.args.size) (drop (8 * c.args.at) (bits c.args.bytes.now)))

  both : c.four_octets_at.result * 2 ^ (8 * rest) + c.few_octets_at-2.result ≡ spelled
  both =
      let size : 4 + rest ≡ c.args.size = omega arith in
      number-joined c.args.bytes.now c.args.at 4 rest c.four_octets_at.result c.few_octets_at-2.result (omega arith) c.four_octets_at.ensures.value c.few_octets_at-2.ensures
      ∙ ap (λ n. number_of_bits (take (8 * n) (drop (8 * c.args.at) (bits c.args.bytes.now)))) size

  below : spelled < 2 ^ 64
  below = number_of_bits_below (take (8 * c.args.size) (drop (8 * c.args.at) (bits c.args.bytes.now))) 64 (omega (arith, length-take (8 * c.args.size) (drop (8 * c.args.at) (bits c.args.bytes.now))))

  shifted : c.four_octets_at.result * 2 ^ (8 * rest) % 2 ^ 64 ≡ c.four_octets_at.result * 2 ^ (8 * rest)
  shifted = mod-eq_of_lt (omega (arith, both, below))

pub overflow_add-result : goal.overflow_add-result
overflow_add-result c = omega (arith, both c, below c, shifted c)

pub returns : goal.returns
returns c = ap (λ n. n + c.few_octets_at-2.result) (shifted c) ∙ both c
