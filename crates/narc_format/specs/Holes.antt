-- Formats in which 16 bits are free.
use Rattle.std.specs.Prelude.{ℕ, ◌≡◌, ◌+◌, ◌*◌, ◌≤◌, Bool, List, length}
use Rattle.narc_bits.specs.Bits.{overlay}
use Rattle.narc_format.specs.Meaning.{Meaning}

-- any 16 bits at this octet keep the value, and they lie inside the spelling
pub record IsHoled {C V : Type 0} (m : Meaning C V) (hole : ℕ) : Type 0 where
  pub inside : m.sound → (c : C) (v : V) (b : List Bool) → m.stands c v b → 8 * hole + 16 ≤ length b
  pub free : m.sound → (c : C) (v : V) (b word : List Bool) → m.stands c v b → length word ≡ 16
      → m.stands c v (overlay b (8 * hole) word)
