use Rattle.std.proofs.Common.{rules}
use Rattle.narc_text.specs.CaptureText.{IsTextEntry, entry_words}
use Rattle.narc_reading.specs.Reading.{entry_view}
use Rattle.narc_reading.proofs.Refusals.{IsReadBy-refused, behind}
use Rattle.narc_reading.proofs.lines.read_record.Goals as goal

pub returns-in_err-sec-clause-read : goal.returns-in_err-sec-clause-read
returns-in_err-sec-clause-read c =
    IsReadBy-refused entry_view entry_words IsTextEntry _ _ c.from_residual-in_err-sec.ensures.0
    (λ r is e. c.in_err-sec.ensures r.sec _ is.sec (behind c.in_ok-expect.ensures.ok e))

pub returns-in_err-sub-clause-read : goal.returns-in_err-sub-clause-read
returns-in_err-sub-clause-read c =
    IsReadBy-refused entry_view entry_words IsTextEntry _ _ c.from_residual-in_err-sub.ensures.0
    (λ r is e. c.in_err-sub.ensures r.sub _ is.sub (behind c.in_ok-sec.ensures.1 (behind c.in_ok-expect.ensures.ok e)))

pub returns-clause-read : goal.returns-clause-read
returns-clause-read c = search rules
