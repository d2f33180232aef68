-- Lines of text. Each ends with a line feed.
use Rattle.std.specs.Prelude.{◌≡◌, ◌≢◌, ℕ, ◌<◌, ◌≤◌, List, [], ◌∷◌, ◌++◌, length, take, Option, MatchOption}
use Rattle.std.specs.List.{AllByRecursion}

-- no octet is a line feed
abbrev pub HasNoFeed : List ℕ → Type 0
HasNoFeed l = AllByRecursion (λ o. o ≢ 10) l

-- the octets are a line with its line feed
pub record IsLine (octets : List ℕ) : Type 0 where
  pub line : List ℕ
  pub none : HasNoFeed line
  pub is : octets ≡ line ++ 10 ∷ []

-- the octets begin with a line of so many octets, its line feed among them
pub record BeginsLine (octets : List ℕ) (count : ℕ) : Type 0 where
  pub line : IsLine (take count octets)
  pub within : count ≤ length octets

-- the octets are the front of a line that has no end yet; with its line feed a line has at most so many
pub record IsOpen (longest : ℕ) (octets : List ℕ) : Type 0 where
  pub none : HasNoFeed octets
  pub fits : length octets < longest

-- the octets begin with more than a line may have
pub record IsEndless (longest : ℕ) (octets : List ℕ) : Type 0 where
  pub none : HasNoFeed (take longest octets)
  pub long : longest ≤ length octets

-- how many octets the first line has
abbrev pub IsFirstLine : List ℕ → Option ℕ → Type 0
IsFirstLine octets found = MatchOption found (HasNoFeed octets) (λ count. BeginsLine octets count)
