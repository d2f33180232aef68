-- Hexadecimal digits that are read.
use Rattle.std.specs.Prelude.{ℕ, ◌+◌, ◌*◌, ◌%◌, List, [], ◌∷◌, nat_lt, if◌then◌else◌}

-- the number of a digit 0 to 9 or a to f, and of any other octet some number below 16
abbrev pub digit_number : ℕ → ℕ
digit_number octet = (octet + (if nat_lt 57 octet then 9 else 0)) % 16

-- octets of two numbers each, which are below 16
abbrev pub octets_of : List ℕ → List ℕ
octets_of [] = []
octets_of (high ∷ []) = []
octets_of (high ∷ low ∷ numbers) = ((high * 16 % 256 + low) % 256) ∷ octets_of numbers
