use Rattle.narc_options.proofs.AreaSound.{area_sound}
use Rattle.narc_options.proofs.laws.option_area_is_sound.Goals as goal

pub returns : goal.returns
returns c = area_sound
