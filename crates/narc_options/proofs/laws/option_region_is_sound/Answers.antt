use Rattle.narc_options.proofs.AreaSound.{region_sound}
use Rattle.narc_options.proofs.laws.option_region_is_sound.Goals as goal

pub returns : goal.returns
returns c = region_sound
