use Rattle.std.proofs.Common.{◌<◌, ◌^◌, []}
use Rattle.narc_text.specs.CaptureText.{unit_word, capture_words}
use Rattle.narc_reading.specs.declared.lines.CaptureLine.{CaptureLine}
use Rattle.narc_reading.proofs.Refusals.{IsReadBy-refused, behind}
use Rattle.narc_reading.proofs.lines.CaptureLine.of.Goals as goal

pub returns-in_err-snap : goal.returns-in_err-snap
returns-in_err-snap c =
    IsReadBy-refused {T = CaptureLine} (λ head. head) (λ head. capture_words (unit_word head.unit) head.snap) (λ head. head.snap < 2 ^ 32) _ _ c.from_residual-in_err-snap.ensures.0
    (λ head is e. c.in_err-snap.ensures head.snap [] is (behind c.in_ok-unit.ensures.1 (behind c.in_ok-expect.ensures.ok e)))
