-- Short texts in a table.
use Rattle.std.specs.Prelude.{◌≡◌, ℕ, ◌≤◌, List, length, take, decimal, slice_index_or}

-- the number's text in four octets, of which the last is the text's length
pub record IsText (number : ℕ) (octets : List ℕ) : Type 0 where
  pub size : length octets ≡ 4
  pub few : slice_index_or octets 3 0 ≤ 3
  pub is : take (slice_index_or octets 3 0) octets ≡ decimal number
