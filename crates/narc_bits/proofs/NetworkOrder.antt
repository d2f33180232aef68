-- Numbers in network order, and the bits of their octets.
use Rattle.std.proofs.Common.{◌≡◌, ℕ, suc, ◌+◌, ◌*◌, ◌^◌, ◌<◌, ◌≤◌, List, [], ◌∷◌, ◌++◌, length, refl, sym, ap, ◌∙◌, arith, lit<}
use Rattle.std.specs.List.{fold}
use Rattle.std.proofs.Math.Pow.{pow-add}
use Rattle.std.proofs.Math.Nat.{mul-le-mul_right}
use Rattle.narc_bits.specs.Octets.{IsOctets, big_endian, number_of}
use Rattle.narc_bits.specs.Bits.{bits, bits_of_number, number_of_bits}
use Rattle.narc_bits.proofs.Numbers.{bits_of_number-append, number_of_bits-bits_of_number_lt}
use Rattle.narc_bits.proofs.Octets.{IsOctets-big_endian}
use Rattle.narc_bits.proofs.Spelled.{bits_same, bits-big_endian, length-big_endian}

pow-octet : (n : ℕ) → 2 ^ (8 * suc n) ≡ 256 * 2 ^ (8 * n)
pow-octet n = let size : 8 * suc n ≡ 8 + 8 * n = omega arith in ap (λ m. 2 ^ m) size ∙ pow-add 2 8 (8 * n)

number-from : (a : ℕ) (l : List ℕ) → fold (λ n o. 256 * n + o) a l ≡ a * 2 ^ (8 * length l) + number_of l
number-from a [] = omega arith
number-from a (o ∷ l) = omega (arith, number-from (256 * a + o) l, number-from (256 * 0 + o) l, ap (λ p. a * p) (pow-octet (length l)))

-- the first octet is the highest
pub number_of-cons : (o : ℕ) (l : List ℕ) → number_of (o ∷ l) ≡ o * 2 ^ (8 * length l) + number_of l
number_of-cons o l = omega (arith, number-from (256 * 0 + o) l)

pub number_of_lt : (l : List ℕ) → IsOctets l → number_of l < 2 ^ (8 * length l)
number_of_lt [] h = lit< tt
number_of_lt (o ∷ l) h =
    let most : suc o * 2 ^ (8 * length l) ≤ 256 * 2 ^ (8 * length l) = mul-le-mul_right (2 ^ (8 * length l)) (omega (arith, h.0)) in
    omega (arith, most, number_of-cons o l, number_of_lt l h.1, pow-octet (length l))

-- octets spell their number
pub bits-number_of : (l : List ℕ) → IsOctets l → bits l ≡ bits_of_number (8 * length l) (number_of l)
unfolding bits bits_of_number
bits-number_of [] h = refl
bits-number_of (o ∷ l) h =
    let m = 8 * length l in
    let size : 8 + m ≡ 8 * length (o ∷ l) = omega arith in
    ap (λ x. bits_of_number 8 o ++ x) (bits-number_of l h.1)
    ∙ sym (bits_of_number-append 8 m o (number_of l) (number_of_lt l h.1))
    ∙ ap (bits_of_number (8 + m)) (sym (number_of-cons o l))
    ∙ ap (λ n. bits_of_number n (number_of (o ∷ l))) size

-- octets with the bits of a number are that number
pub number_of-spelled : (l : List ℕ) (k v : ℕ) → IsOctets l → length l ≡ k → v < 2 ^ (8 * k) → bits l ≡ bits_of_number (8 * k) v → number_of l ≡ v
number_of-spelled l k v h size small e =
    let n = number_of l in
    let below : n < 2 ^ (8 * k) = omega (arith, number_of_lt l h, ap (λ j. 2 ^ (8 * j)) size) in
    let spelled : bits_of_number (8 * k) n ≡ bits l = ap (λ j. bits_of_number (8 * j) n) (sym size) ∙ sym (bits-number_of l h) in
    sym (number_of_bits-bits_of_number_lt (8 * k) n below) ∙ ap number_of_bits (spelled ∙ e) ∙ number_of_bits-bits_of_number_lt (8 * k) v small

pub number_of-big_endian : (k v : ℕ) → v < 2 ^ (8 * k) → number_of (big_endian k v) ≡ v
number_of-big_endian k v small = number_of-spelled (big_endian k v) k v (IsOctets-big_endian k v) (length-big_endian k v) small (bits-big_endian k v)

-- octets are those of their number
pub big_endian-number_of : (l : List ℕ) → IsOctets l → big_endian (length l) (number_of l) ≡ l
big_endian-number_of l h = bits_same (big_endian (length l) (number_of l)) l (IsOctets-big_endian (length l) (number_of l)) h (bits-big_endian (length l) (number_of l) ∙ sym (bits-number_of l h))
