-- What the reading of octets did.
use Rattle.std.proofs.Common.{◌≡◌, ℕ, ◌+◌, ◌*◌, ◌≤◌, ap, sym, ◌∙◌, arith, take}
use Rattle.narc_bits.specs.Bits.{bits, bits_of_number}
use Rattle.narc_bits.specs.Octets.{big_endian}
use Rattle.narc_bits.specs.Scan.{Scan, bits_left, TakesBits}
use Rattle.narc_bits.proofs.Numbers.{take-spelled}
use Rattle.narc_bits.proofs.Octets.{IsOctets-big_endian}
use Rattle.narc_bits.proofs.Spelled.{bits-big_endian, length-big_endian}
use Rattle.narc_format.specs.Reading.{Took}
use Rattle.narc_format.proofs.Takes.{took-takes}
use Rattle.narc_scalar.specs.Octets.{fixed_octets}

-- the octets of the number that was taken
pub fixed_octets_took : (k : ℕ) (old new : Scan) (before after number : ℕ) → 1 ≤ k → TakesBits (8 * k) old new number → after ≡ before + 1
    → Took (fixed_octets k) tt old new before after (big_endian k number)
unfolding fixed_octets
fixed_octets_took k old new before after number some h e =
    let front = take (8 * k) (bits_left old) in
    let spelled : front ≡ bits (big_endian k number) = take-spelled (8 * k) (bits_left old) h.enough ∙ ap (bits_of_number (8 * k)) (sym h.is) ∙ sym (bits-big_endian k number) in
    took-takes (fixed_octets k) tt (big_endian k number) (8 * k) old new before after number (omega arith) h e
    (record { size = length-big_endian k number; each = IsOctets-big_endian k number; is = spelled })
