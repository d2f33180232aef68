-- Parts of octets, between separators.
use Rattle.std.specs.Prelude.{ℕ, ◌==◌, List, [], Option, None, Some}
use Rattle.std.specs.Borrow.{Bor}
use Rattle.std.specs.List.{slice_split}
use Rattle.narc_reading.specs.declared.parts.Separator.{Separator}
use Rattle.narc_reading.specs.declared.parts.Separator.TheVariants.{Space, Comma, Slash, Point, Colon}

abbrev pub octet_of : Separator → ℕ
octet_of Space = 32
octet_of Comma = 44
octet_of Slash = 47
octet_of Point = 46
octet_of Colon = 58

-- the parts of octets between separators
abbrev pub parts_of : (separator : ℕ) → List ℕ → List (List ℕ)
parts_of separator octets = slice_split (λ octet. octet == separator) octets

-- the parts that are left, none behind the last
abbrev pub parts_left : (separator : ℕ) → (rest : Option (Bor (List ℕ))) → List (List ℕ)
parts_left separator None = []
parts_left separator (Some rest) = parts_of separator rest.now
