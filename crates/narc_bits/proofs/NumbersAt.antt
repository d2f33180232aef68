-- The number in some octets of a list.
use Rattle.std.proofs.Common.{◌≡◌, ℕ, ◌+◌, ◌*◌, ◌-◌, ◌<◌, ◌≤◌, ◌^◌, List, ◌++◌, length, take, drop, sym, ap, ◌∙◌, arith, length-drop, length-take}
use Rattle.std.proofs.Math.Pow.{pow_mono}
use Rattle.std.proofs.lemmas.List.{take-append-le, drop-append-le}
use Rattle.narc_bits.specs.Octets.{IsOctets, number_of, number_at}
use Rattle.narc_bits.proofs.Lists.{drop-append-add}
use Rattle.narc_bits.proofs.NetworkOrder.{number_of_lt}
use Rattle.narc_bits.proofs.Octets.{IsOctets-take, IsOctets-drop}

-- by the octets that it is the number of
pub number_at-take : (l : List ℕ) (at count : ℕ) → number_at l at count ≡ number_of (take count (drop at l))
number_at-take l at count = let size : (at + count) - at ≡ count = omega arith in ap (λ n. number_of (take n (drop at l))) size

-- a number of two octets
pub number_at_small : (l : List ℕ) (k : ℕ) → IsOctets l → number_at l k 2 < 65536
number_at_small l k each =
    let two = take ((k + 2) - k) (drop k l) in
    let most : 2 ^ (8 * length two) ≤ 65536 = pow_mono {i = 8 * length two} {j = 16} (omega (arith, length-take ((k + 2) - k) (drop k l))) in
    omega (arith, most, number_of_lt two (IsOctets-take ((k + 2) - k) (drop k l) (IsOctets-drop k l each)))

-- a number in a front
pub number-front : (front back : List ℕ) (k count : ℕ) → k + count ≤ length front → number_at (front ++ back) k count ≡ number_at front k count
number-front front back k count inside =
    ap (λ l. number_of (take ((k + count) - k) l)) (drop-append-le k front back (omega arith))
    ∙ ap number_of (take-append-le ((k + count) - k) (drop k front) back (omega (arith, length-drop k front, inside)))

-- a number behind a front
pub number-behind : (front l : List ℕ) (n k count : ℕ) → length front ≡ n → number_at (front ++ l) (n + k) count ≡ number_at l k count
number-behind front l n k count size =
    number_at-take (front ++ l) (n + k) count
    ∙ ap (λ m. number_of (take count (drop (m + k) (front ++ l)))) (sym size)
    ∙ ap (λ r. number_of (take count r)) (drop-append-add front l k)
    ∙ sym (number_at-take l k count)

-- a number in a part between others
pub number-between : (front part back : List ℕ) (n : ℕ) → length front ≡ n → (k count : ℕ) → k + count ≤ length part → number_at (front ++ (part ++ back)) (n + k) count ≡ number_at part k count
number-between front part back n size k count inside = number-behind front (part ++ back) n k count size ∙ number-front part back k count inside
