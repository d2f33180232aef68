use Rattle.narc_rules_tests.proofs.Lists.{area_admitted}
use Rattle.narc_rules_tests.proofs.tests.lists.an_area_ends_at_an_octet_0.Goals as goal

pub write-requires-clause-admitted : goal.write-requires-clause-admitted
write-requires-clause-admitted g c = area_admitted c.as_slice-3.result c.as_slice-3.ensures
