use Rattle.narc_patch.proofs.OtherOctets.{other_octets_stay}
use Rattle.narc_patch.proofs.laws.other_octets_stay.Goals as goal

pub returns : goal.returns
returns c = other_octets_stay
