-- What the reading of a word did.
use Rattle.std.proofs.Common.{◌≡◌, ℕ, ◌+◌, ◌^◌, ◌<◌, ◌≤◌, take, sym, subst}
use Rattle.narc_bits.specs.Bits.{bits_of_number}
use Rattle.narc_bits.specs.Scan.{Scan, bits_left, TakesBits}
use Rattle.narc_bits.proofs.Numbers.{take-spelled, number_of_bits-take_lt}
use Rattle.narc_format.specs.Reading.{Took}
use Rattle.narc_format.proofs.Takes.{took-takes}
use Rattle.narc_scalar.specs.Word.{word}

pub word_took : (n : ℕ) (old new : Scan) (before after v : ℕ) → 1 ≤ n → TakesBits n old new v → after ≡ before + 1 → Took (word n) tt old new before after v
unfolding word
word_took n old new before after v some h e =
    took-takes (word n) tt v n old new before after v some h e
    (subst (λ k. (k < 2 ^ n) × (take n (bits_left old) ≡ bits_of_number n k)) (sym h.is) (number_of_bits-take_lt n (bits_left old) h.enough, take-spelled n (bits_left old) h.enough))
