use Rattle.std.proofs.Common.{◌<◌, ◌^◌, refl}
use Rattle.narc_text.specs.CaptureText.{unit_word, capture_words, capture_line}
use Rattle.narc_reading.proofs.LineWords.{line-of, capture-parts}
use Rattle.narc_reading.specs.declared.lines.CaptureLine.{CaptureLine}
use Rattle.narc_reading.proofs.lines.CaptureLine.read.Goals as goal

pub returns : goal.returns
returns c =
    line-of {T = CaptureLine} (λ head. head) (λ head. capture_words (unit_word head.unit) head.snap) (λ head. capture_line (unit_word head.unit) head.snap) (λ head. head.snap < 2 ^ 32) c.args.line.now c.of-words.result c.of.result
    (λ head. refl) (λ head is. capture-parts head.unit head.snap is) c.of-words.ensures c.of.ensures
