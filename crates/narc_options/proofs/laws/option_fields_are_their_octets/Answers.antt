use Rattle.narc_options.proofs.OptionOctets.{option_octets}
use Rattle.narc_options.proofs.laws.option_fields_are_their_octets.Goals as goal

pub returns : goal.returns
returns c = option_octets
