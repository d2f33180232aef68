-- What a reading did, from one scan of a cursor to the next and from one count of steps to the next.
use Rattle.std.specs.Prelude.{◌≡◌, ℕ, ◌+◌, ◌*◌, ◌≤◌, Bool, List, ◌++◌, length}
use Rattle.narc_bits.specs.Scan.{Scan, bits_left, advance}
use Rattle.narc_format.specs.declared.fault.Fault.{Fault}
use Rattle.narc_format.specs.Meaning.{Meaning}

-- a front of the bits left stands for the value, and the cursor has moved past just that front
pub record Took {C V : Type 0} (m : Meaning C V) (c : C) (old new : Scan) (before after : ℕ) (v : V) : Type 0 where
  pub used : List Bool
  pub later : List Bool
  pub joined : bits_left old ≡ used ++ later
  pub stood : m.stands c v used
  pub moved : new ≡ advance old (length used)
  pub cost : 2 * after ≤ 2 * before + (2 + m.depth) * length used

-- all the bits left stand for the value, and the cursor is at its end
pub record TookAll {C V : Type 0} (m : Meaning C V) (c : C) (old new : Scan) (before after : ℕ) (v : V) : Type 0 where
  pub stood : m.stands c v (bits_left old)
  pub moved : new ≡ advance old (length (bits_left old))
  pub cost : 2 * after ≤ 2 * before + (2 + m.depth) * length (bits_left old)

-- the bits left are refused; the octets are as before, and nothing is said of the place
pub record Refused {C V : Type 0} (m : Meaning C V) (c : C) (old new : Scan) (before after : ℕ) (f : Fault) : Type 0 where
  pub fault : m.refuses c (bits_left old) f
  pub octets : new.octets ≡ old.octets
  pub cost : 2 * after ≤ 2 * before + (2 + m.depth) * length (bits_left old) + 2
