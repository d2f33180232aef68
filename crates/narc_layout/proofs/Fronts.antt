-- The k octets that are behind some octets of x.
use Rattle.std.proofs.Common.{◌≡◌, ℕ, ◌+◌, ◌*◌, ◌^◌, ◌<◌, ◌≤◌, ◌↔◌, true, false, List, ◌++◌, length, take, drop, sym, ap, ◌∙◌, arith, length-append, length-take, length-drop}
use Rattle.std.proofs.lemmas.Bool.{lt-ltb, le-ltb, ltb-true, ltb-false}
use Rattle.narc_bits.specs.Octets.{IsOctets, big_endian, number_of, is_shorter}
use Rattle.narc_bits.specs.Bits.{bits, bits_of_number}
use Rattle.narc_bits.proofs.Numbers.{length-bits}
use Rattle.narc_bits.proofs.Octets.{IsOctets-take, IsOctets-drop, IsOctets-big_endian}
use Rattle.narc_bits.proofs.Spelled.{bits_same, bits-big_endian}
use Rattle.narc_bits.proofs.NetworkOrder.{number_of_lt, bits-number_of}

-- too few octets
pub few : (k skip : ℕ) (x : List ℕ) → 1 ≤ k → (length (bits (drop skip x)) < 8 * k) ↔ (is_shorter x (skip + k) ≡ true)
few k skip x some = (
  λ h. lt-ltb (length x) (skip + k) (omega (arith, h, length-bits (drop skip x), length-drop skip x)),
  λ h. omega (arith, ltb-true (length x) (skip + k) h, length-bits (drop skip x), length-drop skip x),
)

pub enough : (k skip : ℕ) (x : List ℕ) → is_shorter x (skip + k) ≡ false → k ≤ length (drop skip x)
enough k skip x h = omega (arith, ltb-false (length x) (skip + k) h, length-drop skip x)

pub long : (k skip : ℕ) (x l later : List ℕ) → 1 ≤ k → length l ≡ k → drop skip x ≡ l ++ later → is_shorter x (skip + k) ≡ false
long k skip x l later some size joined = le-ltb (length x) (skip + k) (omega (arith, some, size, ap length joined, length-append l later, length-drop skip x))

-- what is behind `skip` octets is cut behind k more
pub cut : (k skip : ℕ) (x : List ℕ) → is_shorter x (skip + k) ≡ false → length (take k (drop skip x)) ≡ k
cut k skip x h = omega (arith, enough k skip x h, length-take k (drop skip x))

spells : (k skip : ℕ) (x : List ℕ) → IsOctets x → is_shorter x (skip + k) ≡ false → bits (take k (drop skip x)) ≡ bits (big_endian k (number_of (take k (drop skip x))))
spells k skip x each h =
    let front = take k (drop skip x) in
    bits-number_of front (IsOctets-take k (drop skip x) (IsOctets-drop skip x each)) ∙ ap (λ j. bits_of_number (8 * j) (number_of front)) (cut k skip x h) ∙ sym (bits-big_endian k (number_of front))

pub is_number : (k skip : ℕ) (x : List ℕ) → IsOctets x → is_shorter x (skip + k) ≡ false → take k (drop skip x) ≡ big_endian k (number_of (take k (drop skip x)))
is_number k skip x each h =
    let front = take k (drop skip x) in
    bits_same front (big_endian k (number_of front)) (IsOctets-take k (drop skip x) (IsOctets-drop skip x each)) (IsOctets-big_endian k (number_of front)) (spells k skip x each h)

pub below : (k skip : ℕ) (x : List ℕ) → IsOctets x → is_shorter x (skip + k) ≡ false → number_of (take k (drop skip x)) < 2 ^ (8 * k)
below k skip x each h =
    let front = take k (drop skip x) in
    omega (arith, number_of_lt front (IsOctets-take k (drop skip x) (IsOctets-drop skip x each)), ap (λ j. 2 ^ (8 * j)) (cut k skip x h))
