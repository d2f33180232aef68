use Rattle.narc_options.proofs.OptionSound.{option_sound}
use Rattle.narc_options.proofs.laws.option_fields_are_sound.Goals as goal

pub returns : goal.returns
returns c = option_sound
