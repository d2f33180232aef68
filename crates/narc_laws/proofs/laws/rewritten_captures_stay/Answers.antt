use Rattle.narc_laws.proofs.Rewritten.{unedited, rewritten_stays}
use Rattle.narc_laws.proofs.laws.rewritten_captures_stay.Goals as goal

pub returns-clause-packets : goal.returns-clause-packets
returns-clause-packets c = unedited

pub returns-clause-captures : goal.returns-clause-captures
returns-clause-captures c = rewritten_stays
