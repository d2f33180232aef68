use Rattle.narc_options.proofs.AreaRead.{its_area}
use Rattle.narc_options.proofs.laws.option_area_is_its_octets.Goals as goal

pub returns : goal.returns
returns c = its_area
