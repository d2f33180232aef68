use Rattle.narc_list.specs.Region.{region}
use Rattle.narc_list.proofs.region.RegionFormat.write.Goals as goal

pub returns-clause-put : goal.returns-clause-put
unfolding region
returns-clause-put g c = c.write.ensures.put
