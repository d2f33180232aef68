-- The bits of a lamp's state.
use Rattle.std.specs.Prelude.{◌≡◌, ℕ, ◌≤◌, Bool, List, ◌∷◌, ◌++◌}
use Rattle.narc_rules.specs.Bits.{bits_of_number}
use Rattle.narc_examples.specs.declared.lamp.Colour.{Colour}
use Rattle.narc_examples.specs.declared.lamp.Colour.TheVariants.{Red, Green}

abbrev pub colour_number : Colour → ℕ
colour_number Red = 1
colour_number Green = 2

-- version, state, colour and brightness, most significant bit first
pub record IsLamp (lit : Bool) (colour : Colour) (brightness : ℕ) (b : List Bool) : Type 0 where
  pub percent : brightness ≤ 100
  pub spelled : b ≡ bits_of_number 4 2 ++ (lit ∷ bits_of_number 3 (colour_number colour) ++ bits_of_number 8 brightness)
