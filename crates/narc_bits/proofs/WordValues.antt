-- The octets of words, and of a number of two words, of which one is another.
use Rattle.std.proofs.Common.{◌≡◌, ℕ, ◌+◌, ◌*◌, ◌/◌, ◌%◌, ◌<◌, [], ◌∷◌, ◌++◌, take, drop, ap, ◌∙◌, arith}
use Rattle.narc_bits.specs.Octets.{big_endian}

-- the octets of a word
pub word_octets : (high low : ℕ) → high < 256 → low < 256 → big_endian 2 (256 * high + low) ≡ high ∷ low ∷ []
word_octets high low h l =
    let first : (256 * high + low) / 256 % 256 ≡ high = omega (arith, h, l) in
    let second : (256 * high + low) % 256 ≡ low = omega (arith, h, l) in
    ap (λ n. n ∷ ((256 * high + low) % 256) ∷ []) first ∙ ap (λ n. high ∷ n ∷ []) second

-- its first word is another
pub long_high : (n high : ℕ) → big_endian 2 high ++ drop 2 (big_endian 4 n) ≡ big_endian 4 (high * 65536 + n % 65536)
long_high n high =
    let m = high * 65536 + n % 65536 in
    let a : high / 256 % 256 ≡ m / 16777216 % 256 = omega arith in
    let b : high % 256 ≡ m / 65536 % 256 = omega arith in
    let c : n / 256 % 256 ≡ m / 256 % 256 = omega arith in
    let d : n % 256 ≡ m % 256 = omega arith in
    ap (λ x. x ∷ (high % 256) ∷ (n / 256 % 256) ∷ (n % 256) ∷ []) a
    ∙ ap (λ x. (m / 16777216 % 256) ∷ x ∷ (n / 256 % 256) ∷ (n % 256) ∷ []) b
    ∙ ap (λ x. (m / 16777216 % 256) ∷ (m / 65536 % 256) ∷ x ∷ (n % 256) ∷ []) c
    ∙ ap (λ x. (m / 16777216 % 256) ∷ (m / 65536 % 256) ∷ (m / 256 % 256) ∷ x ∷ []) d

-- its second word is another
pub long_low : (n low : ℕ) → low < 65536 → take 2 (big_endian 4 n) ++ big_endian 2 low ≡ big_endian 4 (n / 65536 * 65536 + low)
long_low n low h =
    let m = n / 65536 * 65536 + low in
    let a : n / 16777216 % 256 ≡ m / 16777216 % 256 = omega (arith, h) in
    let b : n / 65536 % 256 ≡ m / 65536 % 256 = omega (arith, h) in
    let c : low / 256 % 256 ≡ m / 256 % 256 = omega (arith, h) in
    let d : low % 256 ≡ m % 256 = omega (arith, h) in
    ap (λ x. x ∷ (n / 65536 % 256) ∷ (low / 256 % 256) ∷ (low % 256) ∷ []) a
    ∙ ap (λ x. (m / 16777216 % 256) ∷ x ∷ (low / 256 % 256) ∷ (low % 256) ∷ []) b
    ∙ ap (λ x. (m / 16777216 % 256) ∷ (m / 65536 % 256) ∷ x ∷ (low % 256) ∷ []) c
    ∙ ap (λ x. (m / 16777216 % 256) ∷ (m / 65536 % 256) ∷ (m / 256 % 256) ∷ x ∷ []) d
