use Rattle.std.proofs.Common.{sym, subst}
use Rattle.std.specs.Prelude.{MatchResult}
use Rattle.narc_stack.specs.AnswerView.{answer_view}
use Rattle.narc_run.specs.Verdict.{answer_verdict}
use Rattle.narc_run.specs.FrameAnswer.{IsAnswered, IsCut}
use Rattle.narc_run.proofs.FrameAnswers.{IsAnswered-whole, IsCut-front, MatchResult-failed}
use Rattle.narc_run.proofs.frame.answer_frame.Goals.{in-Ok, in-Err}
use Rattle.narc_run.proofs.frame.answer_frame.Goals as goal

pub returns-in_err-put_answer-clause-told : goal.returns-in_err-put_answer-clause-told
returns-in_err-put_answer-clause-told g c =
    let octets = c.args.octets.now in
    let before = g.K.Sink.held c.args.sink.now in
    let after = g.K.Sink.held c.put_answer.new.sink in
    MatchResult-failed c.from_residual.result _ (IsCut octets before after) c.from_residual.ensures.0
    (IsCut-front octets c.requires (answer_view c.decode_frame-answer.result) before after c.decode_frame-answer.ensures.only c.in_err-put_answer.ensures.pushed)

pub returns-clause-told : goal.returns-clause-told
returns-clause-told g c =
    let octets = c.args.octets.now in
    let before = g.K.Sink.held c.args.sink.now in
    let after = g.K.Sink.held c.put_answer.new.sink in
    let told = IsAnswered-whole octets c.requires (answer_view c.decode_frame-answer.result) before after c.decode_frame-answer.ensures.only c.in_ok-put_answer.ensures.pushed in
    elim c.match-answer.branch [
      | in-Ok w ↦ subst (λ r. MatchResult r (λ outcome. IsAnswered octets outcome.status outcome.at before after) (λ _. IsCut octets before after)) (sym w.result-is)
          (subst (λ outcome. IsAnswered octets outcome.status outcome.at before after) (sym w.done.ensures)
          (subst (λ r. IsAnswered octets (answer_verdict (answer_view r)).status (answer_verdict (answer_view r)).at before after) w.in-Ok.is told))
      | in-Err w ↦ subst (λ r. MatchResult r (λ outcome. IsAnswered octets outcome.status outcome.at before after) (λ _. IsCut octets before after)) (sym w.result-is)
          (subst (λ outcome. IsAnswered octets outcome.status outcome.at before after) (sym w.refused.ensures)
          (subst (λ r. IsAnswered octets (answer_verdict (answer_view r)).status (answer_verdict (answer_view r)).at before after) w.in-Err.is told))
    ]
