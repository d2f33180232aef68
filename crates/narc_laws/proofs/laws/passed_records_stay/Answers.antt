use Rattle.narc_laws.proofs.PassedRecords.{records_pass}
use Rattle.narc_laws.proofs.laws.passed_records_stay.Goals as goal

pub returns : goal.returns
returns c = records_pass
