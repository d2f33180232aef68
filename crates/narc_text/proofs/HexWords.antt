-- Hexadecimal words.
use Rattle.std.proofs.Common.{◌≡◌, ℕ, ◌*◌, ◌<◌, ◌/◌, ◌%◌, zero, suc, Bool, false, ◌==◌, ◌∙◌, List, [], ◌∷◌, ◌++◌, length, take, refl, ap, arith}
use Rattle.std.specs.Prelude.{slice_index}
use Rattle.hex.specs.Hex.{encode_with, encode_lower, lower_digits}
use Rattle.narc_packet.specs.TextWords.{hex_word}

pub encode_lower-append : (a b : List ℕ) → encode_lower (a ++ b) ≡ encode_lower a ++ encode_lower b
unfolding encode_with
encode_lower-append [] b = refl
encode_lower-append (o ∷ a) b =
    ap (λ l. slice_index lower_digits (o / 16) ∷ slice_index lower_digits (o % 16) ∷ l) (encode_lower-append a b)

pub encode_lower-nil : encode_lower [] ≡ []
unfolding encode_with
encode_lower-nil = refl

pub hex_word-some : (l : List ℕ) → 0 < length l → hex_word l ≡ encode_lower l
hex_word-some [] h = absurd (omega arith)
hex_word-some (o ∷ l) h = refl

pub hex_word-split : (l front rest : List ℕ) → 0 < length l → l ≡ front ++ rest → hex_word l ≡ encode_lower front ++ encode_lower rest
hex_word-split l front rest h e = hex_word-some l h ∙ ap encode_lower e ∙ encode_lower-append front rest

-- what a test for emptiness says
pub is_some : (n : ℕ) (b : Bool) → b ≡ (n == 0) → b ≡ false → 0 < n
is_some zero b e f = cc
is_some (suc n) b e f = omega arith

-- the digits of a front
pub take-encode_lower : (k : ℕ) (l : List ℕ) → take (2 * k) (encode_lower l) ≡ encode_lower (take k l)
unfolding encode_with
take-encode_lower zero l = refl
take-encode_lower (suc k) [] = ap (λ n. take n []) {y = suc (suc (2 * k))} (omega arith)
take-encode_lower (suc k) (o ∷ l) =
    ap (λ n. take n (encode_lower (o ∷ l))) {y = suc (suc (2 * k))} (omega arith)
    ∙ ap (λ t. slice_index lower_digits (o / 16) ∷ slice_index lower_digits (o % 16) ∷ t) (take-encode_lower k l)
