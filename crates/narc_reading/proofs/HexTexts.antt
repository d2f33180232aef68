-- Octets as a word of hexadecimal digits.
use Rattle.std.proofs.Common.{◌≡◌, ◌≢◌, ℕ, ◌*◌, ◌<◌, Bool, false, IsTrue, List, [], ◌∷◌, codes, length, ap, ◌∙◌, arith}
use Rattle.hex.specs.Hex.{encode_lower, lower_digits}
use Rattle.hex.proofs.HexLemmas.{length-encode_with}
use Rattle.narc_packet.specs.TextWords.{hex_word}

-- what a test that failed says
pub refused : {P : Type 0} (r : Bool) → r ≡ false → (P → IsTrue r) → P → ⊥
refused r e tells p = cc (tells p)

-- a word that is not `-` has two digits for each octet
pub record IsDigitsOf (word octets : List ℕ) : Type 0 where
  pub some : 0 < length octets
  pub digits : word ≡ encode_lower octets
  pub size : length word ≡ 2 * length octets

pub IsDigitsOf-hex_word : (word octets : List ℕ) → word ≢ codes "-" → word ≡ hex_word octets → IsDigitsOf word octets
IsDigitsOf-hex_word word [] other is = absurd (other is)
IsDigitsOf-hex_word word (o ∷ octets) other is = record {
  some = omega arith;
  digits = is;
  size = ap length is ∙ length-encode_with lower_digits (o ∷ octets);
}
