-- Lists of bits, most significant first.
use Rattle.std.specs.Prelude.{ℕ, zero, suc, ◌+◌, ◌/◌, ◌%◌, ◌^◌, Bool, List, [], ◌∷◌, ◌++◌, length, take, drop, nat_eq, if◌then◌else◌}

abbrev pub is_odd : ℕ → Bool
is_odd n = nat_eq (n % 2) 1

-- the low k bits of n
unfoldable pub bits_of_number : ℕ → ℕ → List Bool
bits_of_number zero n = []
bits_of_number (suc k) n = is_odd (n / 2 ^ k) ∷ bits_of_number k n

-- the number that the bits spell
unfoldable pub number_of_bits : List Bool → ℕ
number_of_bits [] = 0
number_of_bits (b ∷ l) = (if b then 2 ^ length l else 0) + number_of_bits l

-- the bits of the octets, in order
unfoldable pub bits : List ℕ → List Bool
bits [] = []
bits (octet ∷ l) = bits_of_number 8 octet ++ bits l

-- the first n octets that the bits spell
unfoldable pub octets_of_bits : ℕ → List Bool → List ℕ
octets_of_bits zero l = []
octets_of_bits (suc n) l = number_of_bits (take 8 l) ∷ octets_of_bits n (drop 8 l)

-- l, in which the items from a place on are replaced by those of s
unfoldable pub overlay : {X : Type 0} → List X → ℕ → List X → List X
overlay l place s = take place l ++ (s ++ drop (place + length s) l)
