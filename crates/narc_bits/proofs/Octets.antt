-- Lists whose items are octets.
use Rattle.std.proofs.Common.{ℕ, zero, suc, ◌<◌, List, [], ◌∷◌, ◌++◌, take, drop, get_or, lit<}
use Rattle.std.proofs.Math.Nat.{mod-lt}
use Rattle.narc_bits.specs.Octets.{IsOctets, big_endian}

-- by index, as the check knows a slice of the program
pub IsOctets-from_index : (l : List ℕ) → ((i : ℕ) → get_or l i 0 < 256) → IsOctets l
IsOctets-from_index [] each = tt
IsOctets-from_index (o ∷ l) each = (each 0, IsOctets-from_index l (λ i. each (suc i)))

pub IsOctets-get_or : (l : List ℕ) (i : ℕ) → IsOctets l → get_or l i 0 < 256
IsOctets-get_or [] i each = lit< tt
IsOctets-get_or (o ∷ l) zero each = each.0
IsOctets-get_or (o ∷ l) (suc i) each = IsOctets-get_or l i each.1

pub IsOctets-append : (l m : List ℕ) → IsOctets l → IsOctets m → IsOctets (l ++ m)
IsOctets-append [] m p q = q
IsOctets-append (o ∷ l) m p q = (p.0, IsOctets-append l m p.1 q)

-- of joined lists, each part
pub IsOctets-front : (l m : List ℕ) → IsOctets (l ++ m) → IsOctets l
IsOctets-front [] m p = tt
IsOctets-front (o ∷ l) m p = (p.0, IsOctets-front l m p.1)

pub IsOctets-back : (l m : List ℕ) → IsOctets (l ++ m) → IsOctets m
IsOctets-back [] m p = p
IsOctets-back (o ∷ l) m p = IsOctets-back l m p.1

pub IsOctets-take : (n : ℕ) (l : List ℕ) → IsOctets l → IsOctets (take n l)
IsOctets-take zero l p = tt
IsOctets-take (suc n) [] p = tt
IsOctets-take (suc n) (o ∷ l) p = (p.0, IsOctets-take n l p.1)

pub IsOctets-drop : (n : ℕ) (l : List ℕ) → IsOctets l → IsOctets (drop n l)
IsOctets-drop zero l p = p
IsOctets-drop (suc n) [] p = tt
IsOctets-drop (suc n) (o ∷ l) p = IsOctets-drop n l p.1

pub IsOctets-big_endian : (k n : ℕ) → IsOctets (big_endian k n)
IsOctets-big_endian zero n = tt
IsOctets-big_endian (suc zero) n = (mod-lt n (lit< tt), tt)
IsOctets-big_endian (suc (suc k)) n = (mod-lt _ (lit< tt), IsOctets-big_endian (suc k) n)
