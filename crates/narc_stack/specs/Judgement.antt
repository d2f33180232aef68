-- What contracts see of a judgement: an answer without its packet.
use Rattle.std.specs.Prelude.{◌≡◌, ℕ, List, Result, Ok, Err}
use Rattle.narc_format.specs.Rows.{RefusalView}
use Rattle.narc_packet.specs.Answer.{Answer, IsOnlyAnswer}
use Rattle.narc_stack.specs.declared.refusal.Refusal.{Refusal}

abbrev pub judgement_of : Answer → Result (Unit {0}) RefusalView
judgement_of (Ok p) = Ok tt
judgement_of (Err r) = Err r

abbrev pub judgement_view : Result (Unit {0}) Refusal → Result (Unit {0}) RefusalView
judgement_view (Ok done) = Ok tt
judgement_view (Err r) = Err (record { field = r.field; at = r.at })

-- the judgement of the only right answer for these octets
pub record IsOnlyJudgement (octets : List ℕ) (judgement : Result (Unit {0}) Refusal) : Type 0 where
  pub answer : Answer
  pub only : IsOnlyAnswer octets answer
  pub same : judgement_of answer ≡ judgement_view judgement
