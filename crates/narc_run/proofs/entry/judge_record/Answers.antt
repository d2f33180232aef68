use Rattle.std.proofs.Common.{Some, ap, subst}
use Rattle.narc_packet.specs.Answer.{IsOnlyAnswer}
use Rattle.narc_run.proofs.entry.judge_record.Goals as goal

pub returns-clause-judged : goal.returns-clause-judged
returns-clause-judged g c =
    let judged = c.judge_frame.ensures.only in
    let whole = c.in_ok-frame.ensures.whole in
    record {
      answer = Some judged.answer;
      right = (whole.0, subst (λ octets. IsOnlyAnswer octets judged.answer) whole.1 judged.only);
      same = ap Some judged.same;
    }
