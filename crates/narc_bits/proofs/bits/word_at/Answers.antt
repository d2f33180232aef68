use Rattle.std.proofs.Common.{◌≡◌, ◌+◌, ◌*◌, ◌-◌, ◌<◌, ℕ, [], ◌∷◌, take, drop, get_or, ap, ◌∙◌, arith}
use Rattle.std.specs.Int.{w32, swap_bytes}
use Rattle.std.specs.Simd.Lanes.{number_l, digits_l}
use Rattle.narc_bits.proofs.Words.{octets-four}
use Rattle.narc_bits.proofs.bits.word_at.Goals as goal

-- the lanes' word has its first octet lowest; turned round, it has it highest
turned : (a b c d : ℕ) → a < 256 → b < 256 → c < 256 → d < 256 → swap_bytes w32 (get_or (digits_l 4294967296 1 (number_l 256 (a ∷ b ∷ c ∷ d ∷ []))) 0 0) ≡ 16777216 * a + 65536 * b + 256 * c + d
turned a b c d ha hb hc hd = omega (arith, ha, hb, hc, hd)

pub returns : goal.returns
returns c =
    let l = c.args.bytes.now in
    let at = c.args.at in
    let each : (i : ℕ) → get_or l i 0 < 256 = λ i. omega (arith, c.type_inv.bytes i) in
    let size : at + 4 - at ≡ 4 = omega arith in
    let start : get_or l (at + 0) 0 ≡ get_or l at 0 = ap (λ i. get_or l i 0) (omega arith) in
    c.swap_bytes.ensures
    ∙ ap (λ n. swap_bytes w32 (get_or (digits_l 4294967296 1 (number_l 256 (take 4 (take n (drop at l))))) 0 0)) size
    ∙ ap (λ s. swap_bytes w32 (get_or (digits_l 4294967296 1 (number_l 256 (take 4 s))) 0 0)) (octets-four l at each c.requires)
    ∙ turned (get_or l (at + 0) 0) (get_or l (at + 1) 0) (get_or l (at + 2) 0) (get_or l (at + 3) 0) (each (at + 0)) (each (at + 1)) (each (at + 2)) (each (at + 3))
    ∙ ap (λ a. 16777216 * a + 65536 * get_or l (at + 1) 0 + 256 * get_or l (at + 2) 0 + get_or l (at + 3) 0) start
