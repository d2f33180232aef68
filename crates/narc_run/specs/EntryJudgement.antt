-- What contracts see of the judgement of a record: its answer without the packet.
use Rattle.std.specs.Prelude.{◌≡◌, Option, Some, None, Result}
use Rattle.narc_format.specs.Rows.{RefusalView}
use Rattle.narc_packet.specs.Answer.{Answer}
use Rattle.narc_stack.specs.declared.refusal.Refusal.{Refusal}
use Rattle.narc_stack.specs.Judgement.{judgement_of, judgement_view}
use Rattle.narc_pcap.specs.Capture.{Entry}
use Rattle.narc_run.specs.Findings.{IsEntryAnswer}

abbrev pub entry_judgement : Option Answer → Option (Result (Unit {0}) RefusalView)
entry_judgement None = None
entry_judgement (Some answer) = Some (judgement_of answer)

abbrev pub entry_judged : Option (Result (Unit {0}) Refusal) → Option (Result (Unit {0}) RefusalView)
entry_judged None = None
entry_judged (Some judged) = Some (judgement_view judged)

-- the judgement of an answer for a record
pub record IsEntryJudgement (e : Entry) (judged : Option (Result (Unit {0}) Refusal)) : Type 0 where
  pub answer : Option Answer
  pub right : IsEntryAnswer e answer
  pub same : entry_judgement answer ≡ entry_judged judged
