-- The bit of a flag as a number.
use Rattle.std.proofs.Common.{◌≡◌, Bool, true, false, eqb, List, [], ◌∷◌, length, refl, arith}
use Rattle.narc_bits.specs.Bits.{bits_of_number, number_of_bits}
use mir.Val.{bool_byte}

-- one bit is whether its number is 1
pub one_bit : (b : List Bool) → length b ≡ 1 → b ≡ eqb (number_of_bits b) 1 ∷ []
unfolding number_of_bits
one_bit [] h = absurd (omega arith)
one_bit (true ∷ []) h = refl
one_bit (false ∷ []) h = refl
one_bit (v ∷ w ∷ b) h = absurd (omega arith)

pub bit_of_flag : (v : Bool) → bits_of_number 1 (bool_byte v) ≡ v ∷ []
unfolding bits_of_number
bit_of_flag true = refl
bit_of_flag false = refl
