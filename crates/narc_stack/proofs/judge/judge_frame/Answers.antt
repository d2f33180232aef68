use Rattle.std.proofs.Common.{ap}
use Rattle.narc_stack.specs.AnswerView.{answer_view}
use Rattle.narc_stack.specs.Judgement.{judgement_of}
use Rattle.narc_stack.proofs.judge.judge_frame.Goals as goal

pub returns-in-Ok-clause-only : goal.returns-in-Ok-clause-only
returns-in-Ok-clause-only g c = record {
  answer = answer_view c.decode_frame.result;
  only = c.decode_frame.ensures.only;
  same = ap (λ r. judgement_of (answer_view r)) c.in-Ok.is;
}

pub returns-in-Err-clause-only : goal.returns-in-Err-clause-only
returns-in-Err-clause-only g c = record {
  answer = answer_view c.decode_frame.result;
  only = c.decode_frame.ensures.only;
  same = ap (λ r. judgement_of (answer_view r)) c.in-Err.is;
}

pub returns-in-Ok-clause-cost : goal.returns-in-Ok-clause-cost
returns-in-Ok-clause-cost g c = c.decode_frame.ensures.cost

pub returns-in-Err-clause-cost : goal.returns-in-Err-clause-cost
returns-in-Err-clause-cost g c = c.decode_frame.ensures.cost
