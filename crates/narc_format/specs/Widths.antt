-- Formats whose spellings all have one width.
use Rattle.std.specs.Prelude.{ℕ, ◌≡◌, ◌<◌, Bool, List, length}
use Rattle.narc_format.specs.Meaning.{Meaning}
use Rattle.narc_format.specs.Laws.{Fits, IsRefused}

-- each spelling has this many bits, and fewer bits are refused
pub record IsWide {C V : Type 0} (m : Meaning C V) (width : ℕ) : Type 0 where
  pub sized : m.sound → (c : C) (v : V) (b : List Bool) → m.stands c v b → length b ≡ width
  pub refused : m.sound → (c : C) → m.valid c → (b : List Bool) → Fits m.aligned b → length b < width → IsRefused (m.refuses c b)
