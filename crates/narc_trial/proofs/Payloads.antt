-- Octets that count up.
use Rattle.std.proofs.Common.{◌≡◌, ℕ, ◌+◌, ◌%◌, ◌<◌, List, [], ◌∷◌, map, length, lit<}
use Rattle.std.proofs.Math.Nat.{mod-lt}
use Rattle.std.specs.List.{range_with_len}
use Rattle.std.proofs.lemmas.List.FromFn.{length-map-range_with_len}
use Rattle.narc_bits.specs.Octets.{IsOctets}
use Rattle.narc_trial.specs.Made.{counting}

IsOctets-map : (f : ℕ → ℕ) → ((j : ℕ) → f j < 256) → (l : List ℕ) → IsOctets (map f l)
IsOctets-map f below [] = tt
IsOctets-map f below (j ∷ l) = (below j, IsOctets-map f below l)

pub IsOctets-counting : (count number : ℕ) → IsOctets (counting count number)
IsOctets-counting count number = IsOctets-map (λ j. (number + j) % 256) (λ j. mod-lt (number + j) (lit< tt)) (range_with_len 0 count)

pub length-counting : (count number : ℕ) → length (counting count number) ≡ count
length-counting count number = length-map-range_with_len (λ j. (number + j) % 256) 0 count
