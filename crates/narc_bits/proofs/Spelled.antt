-- Octets and their bits.
use Rattle.std.proofs.Common.{◌≡◌, ℕ, suc, zero, ◌+◌, ◌*◌, ◌<◌, ◌≤◌, ◌^◌, ◌/◌, ◌%◌, append-nil, Bool, List, [], ◌∷◌, ◌++◌, length, take, drop, get_or, refl, sym, ap, ◌∙◌, arith, length-append, length-drop, length-take, take-append-drop}
use borrow.Rule.Slice.PartMut.{put_mid}
use Rattle.std.proofs.lemmas.List.{drop-drop, take_more, nil_from_length}
use Rattle.std.proofs.Math.Nat.{mod-lt, div-add-mod', pow-succ'}
use Rattle.std.proofs.Math.Pow.{pow_pos, pow-add}
use Rattle.std.specs.Int.{byte_at}
use Rattle.narc_bits.specs.Bits.{bits_of_number, bits, number_of_bits, overlay, octets_of_bits}
use Rattle.narc_bits.specs.Octets.{IsOctets, big_endian}
use Rattle.narc_bits.proofs.Lists.{append-parts}
use Rattle.narc_bits.proofs.Numbers.{bits_of_number-low, bits_of_number-append, length-bits_of_number, length-bits, bits-append, number_of_bits_below, bits_of_number-number_of_bits, number_of_bits-bits_of_number_lt}
use Rattle.narc_bits.proofs.Scans.{bits-take, bits-drop}

-- octets with the same bits are the same
pub bits_same : (a b : List ℕ) → IsOctets a → IsOctets b → bits a ≡ bits b → a ≡ b
unfolding bits
bits_same [] [] p q h = refl
bits_same [] (y ∷ b) p q h = absurd (omega (arith, ap length h, length-append (bits_of_number 8 y) (bits b), length-bits_of_number 8 y))
bits_same (x ∷ a) [] p q h = absurd (omega (arith, ap length h, length-append (bits_of_number 8 x) (bits a), length-bits_of_number 8 x))
bits_same (x ∷ a) (y ∷ b) p q h =
    let parts = append-parts (bits_of_number 8 x) (bits_of_number 8 y) (bits a) (bits b) h (length-bits_of_number 8 x ∙ sym (length-bits_of_number 8 y)) in
    let heads : x ≡ y = sym (number_of_bits-bits_of_number_lt 8 x p.0) ∙ ap number_of_bits parts.0 ∙ number_of_bits-bits_of_number_lt 8 y q.0 in
    let tails = bits_same a b p.1 q.1 parts.1 in
    ap (λ n. n ∷ a) heads ∙ ap (λ l. y ∷ l) tails

pub bits-octets_of_bits : (n : ℕ) (b : List Bool) → length b ≡ 8 * n → bits (octets_of_bits n b) ≡ b
unfolding bits octets_of_bits
bits-octets_of_bits zero b h = sym (nil_from_length b (omega arith))
bits-octets_of_bits (suc n) b h =
    let size : length (take 8 b) ≡ 8 = omega (arith, length-take 8 b) in
    ap (λ l. l ++ bits (octets_of_bits n (drop 8 b))) (ap (λ k. bits_of_number k (number_of_bits (take 8 b))) (sym size) ∙ bits_of_number-number_of_bits (take 8 b))
    ∙ ap (λ l. take 8 b ++ l) (bits-octets_of_bits n (drop 8 b) (omega (arith, length-drop 8 b)))
    ∙ take-append-drop 8 b

below : (bs : List Bool) → length bs ≤ 8 → number_of_bits bs < 256
below bs h = number_of_bits_below bs 8 h

pub IsOctets-octets_of_bits : (n : ℕ) (b : List Bool) → IsOctets (octets_of_bits n b)
unfolding octets_of_bits
IsOctets-octets_of_bits zero b = tt
IsOctets-octets_of_bits (suc n) b = (below (take 8 b) (omega (arith, length-take 8 b)), IsOctets-octets_of_bits n (drop 8 b))

pub bits-overlay : (l : List ℕ) (p : ℕ) (s : List ℕ) → p + length s ≤ length l → bits (overlay l p s) ≡ overlay (bits l) (8 * p) (bits s)
unfolding overlay
bits-overlay l p s h =
    let size : 8 * (p + length s) ≡ 8 * p + length (bits s) = omega (arith, length-bits s) in
    bits-append (take p l) (s ++ drop (p + length s) l)
    ∙ ap (λ k. k ++ bits (s ++ drop (p + length s) l)) (bits-take l p (omega arith))
    ∙ ap (λ k. take (8 * p) (bits l) ++ k) (bits-append s (drop (p + length s) l) ∙ ap (λ k. bits s ++ k) (bits-drop l (p + length s) h ∙ ap (λ n. drop n (bits l)) size))

pub length-octets_of_bits : (n : ℕ) (b : List Bool) → length (octets_of_bits n b) ≡ n
unfolding octets_of_bits
length-octets_of_bits zero b = refl
length-octets_of_bits (suc n) b = ap suc (length-octets_of_bits n (drop 8 b))

pow-256 : (k : ℕ) → 256 ^ k ≡ 2 ^ (8 * k)
pow-256 zero = refl
pow-256 (suc k) =
    let size : 8 + 8 * k ≡ 8 * suc k = omega arith in
    pow-succ' 256 k ∙ ap (λ n. 256 * n) (pow-256 k) ∙ sym (pow-add 2 8 (8 * k)) ∙ ap (λ n. 2 ^ n) size

byte_at-shift : (k n : ℕ) → byte_at k n ≡ n / 2 ^ (8 * k) % 256
byte_at-shift zero n = let e : n ≡ n / 1 = omega arith in ap (λ m. m % 256) e
byte_at-shift (suc k) n = ap (λ m. n / m % 256) (pow-256 (suc k))

-- the octets of a number spell it
pub bits-big_endian : (k n : ℕ) → bits (big_endian k n) ≡ bits_of_number (8 * k) n
unfolding bits bits_of_number
bits-big_endian zero n = refl
bits-big_endian (suc k) n =
    let m = 8 * k in
    let low : n % 2 ^ m < 2 ^ m = mod-lt n (pow_pos m) in
    let split : n ≡ n / 2 ^ m * 2 ^ m + n % 2 ^ m = sym (div-add-mod' n (2 ^ m)) in
    let size : 8 + m ≡ 8 * suc k = omega arith in
    let top : n / 2 ^ m ≡ n / 2 ^ m / 256 * 2 ^ 8 + n / 2 ^ m % 256 = sym (div-add-mod' (n / 2 ^ m) 256) in
    let tail : bits_of_number m n ≡ bits_of_number m (n % 2 ^ m) = ap (bits_of_number m) split ∙ bits_of_number-low m (n / 2 ^ m) (n % 2 ^ m) in
    let head : bits_of_number 8 (n / 2 ^ m) ≡ bits_of_number 8 (n / 2 ^ m % 256) = ap (bits_of_number 8) top ∙ bits_of_number-low 8 (n / 2 ^ m / 256) (n / 2 ^ m % 256) in
    ap (λ l. bits_of_number 8 (byte_at k n) ++ l) (bits-big_endian k n ∙ tail)
    ∙ ap (λ o. bits_of_number 8 o ++ bits_of_number m (n % 2 ^ m)) (byte_at-shift k n)
    ∙ ap (λ l. l ++ bits_of_number m (n % 2 ^ m)) (sym head)
    ∙ sym (bits_of_number-append 8 m (n / 2 ^ m) (n % 2 ^ m) low)
    ∙ ap (bits_of_number (8 + m)) (sym split)
    ∙ ap (λ j. bits_of_number j n) size

pub length-big_endian : (k n : ℕ) → length (big_endian k n) ≡ k
length-big_endian zero n = refl
length-big_endian (suc k) n = ap suc (length-big_endian k n)

-- one octet more
pub bits-more : (v : List ℕ) (i : ℕ) → i < length v → bits (take (i + 1) v) ≡ bits (take i v) ++ bits_of_number 8 (get_or v i 0)
unfolding bits
bits-more v i h = ap bits (take_more v i 0 h) ∙ bits-append (take i v) (get_or v i 0 ∷ []) ∙ ap (λ l. bits (take i v) ++ l) (append-nil (bits_of_number 8 (get_or v i 0)))

-- octets written into a part of a room
pub bits-put_mid : (l s : List ℕ) (at k place : ℕ) → length s ≡ k → 8 * at ≡ place → at + length s ≤ length l → bits (put_mid at k l s) ≡ overlay (bits l) place (bits s)
unfolding overlay
bits-put_mid l s at k place size start room =
    ap (λ n. bits (put_mid at n l s)) (sym size)
    ∙ ap (λ r. bits (take at l ++ (s ++ r))) (drop-drop (length s) at l)
    ∙ bits-overlay l at s room ∙ ap (λ p. overlay (bits l) p (bits s)) start
