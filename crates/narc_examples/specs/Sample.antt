-- What was measured, and the kind and the member of the union that it is.
use Rattle.std.specs.Prelude.{ℕ, List}
use Rattle.narc_rules.specs.Either.{Either}
use Rattle.narc_rules.specs.Either.TheVariants.{Left, Right}
use Rattle.narc_examples.specs.declared.message.Kind.{Kind}
use Rattle.narc_examples.specs.declared.message.Kind.TheVariants as kind
use Rattle.narc_examples.specs.declared.message.Sample.{Sample}
use Rattle.narc_examples.specs.declared.message.Sample.TheVariants.{Temperature, Place}

-- the member says what was measured
abbrev pub sample_of : Either ℕ (List ℕ) → Sample
sample_of (Left temperature) = Temperature temperature
sample_of (Right place) = Place place

-- the kind goes with the member
abbrev pub raw_sample : Sample → Kind × Either ℕ (List ℕ)
raw_sample (Temperature temperature) = (kind.Temperature, Left temperature)
raw_sample (Place place) = (kind.Place, Right place)
