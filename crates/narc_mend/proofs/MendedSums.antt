-- A mended checksum makes good again what it made good.
use Rattle.std.proofs.Common.{◌≡◌, ℕ, zero, suc, ◌+◌, ◌-◌, ◌%◌, ◌<◌, ◌≤◌, length, refl, sym, subst, arith}
use Rattle.narc_bits.specs.Octets.{number_at}
use Rattle.narc_bits.specs.InternetSum.{total, IsGoodTotal}
use Rattle.narc_bits.proofs.Sums.{good_total, good_multiple}
use Rattle.narc_bits.proofs.SumWords.{around, total-at, total-with_word}
use Rattle.narc_mend.specs.declared.mend.Zero.{Zero}
use Rattle.narc_mend.specs.declared.mend.Zero.TheVariants.{Plain, Udp}
use Rattle.narc_sum.specs.Checked.{never_zero}
use Rattle.narc_sum.specs.Seals.{never_zero_small}
use Rattle.narc_mend.specs.Mended.{as_written, mended, with_mended_sum, MendedSumsAreGood}
use Rattle.narc_mend.proofs.Differences.{around-same, number_at-same}

-- all ones are 0
full : (n : ℕ) → (never_zero n % 65535 ≡ n % 65535) × (n ≤ never_zero n)
unfolding never_zero
full zero = (refl, omega arith)
full (suc n) = (refl, omega arith)

written_mod : (zero_as : Zero) (n : ℕ) → (as_written zero_as n % 65535 ≡ n % 65535) × (n ≤ as_written zero_as n)
written_mod Plain n = (refl, omega arith)
written_mod Udp n = full n

written_small : (zero_as : Zero) (n : ℕ) → n < 65536 → as_written zero_as n < 65536
written_small Plain n h = h
written_small Udp n h = never_zero_small n h

pub mended_small : (sum old new : ℕ) (zero_as : Zero) → mended sum old new zero_as < 65536
mended_small sum old new zero_as = written_small zero_as ((sum + old + (65535 - new)) % 65535) (omega arith)

-- others is the total of all but the word, and rest that of all but the checksum once the word is another
pub mended_good : (sum old new others rest : ℕ) (zero_as : Zero) → new < 65536 → sum + rest ≡ new + others → 0 < mended sum old new zero_as + rest → IsGoodTotal (old + others) → IsGoodTotal (mended sum old new zero_as + rest)
mended_good sum old new others rest zero_as small joined some good =
    let r = (sum + old + (65535 - new)) % 65535 in
    let w = mended sum old new zero_as in
    let before : (old + others) % 65535 ≡ 0 = good_multiple (old + others) good in
    let same : w % 65535 ≡ r % 65535 = (written_mod zero_as r).0 in
    good_total (w + rest) some (omega (arith, before, same, small, joined))

pub mended_sums_are_good : MendedSumsAreGood
mended_sums_are_good old new hole at zero_as d w small some good =
    let sum = number_at old hole 2 in
    let before = number_at old at 2 in
    let after = number_at new at 2 in
    let put = mended sum before after zero_as in
    let there : hole + 2 ≤ length new = omega (arith, d.size, w.hole_inside) in
    let inside : at + 2 ≤ length new = omega (arith, d.size, w.inside) in
    let whole : total (with_mended_sum old new hole at zero_as) ≡ put + around new hole = total-with_word new hole w.hole_even there put (mended_small sum before after zero_as) in
    let joined : sum + around new hole ≡ after + around old at =
    omega (arith, total-at new hole w.hole_even there, number_at-same old new hole at d w, total-at new at w.even inside, around-same old new at d) in
    let good_before : IsGoodTotal (before + around old at) = subst IsGoodTotal (total-at old at w.even w.inside) good in
    subst IsGoodTotal (sym whole) (mended_good sum before after (around old at) (around new hole) zero_as small joined (omega (arith, some, whole)) good_before)
