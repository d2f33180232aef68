use Rattle.std.proofs.Common.{◌<◌, ◌^◌, refl}
use Rattle.narc_text.specs.CaptureText.{end_words, end_line}
use Rattle.narc_reading.proofs.LineWords.{line-of, end-parts}
use Rattle.narc_reading.specs.declared.lines.EndLine.{EndLine}
use Rattle.narc_reading.proofs.lines.EndLine.read.Goals as goal

pub returns : goal.returns
returns c =
    line-of {T = EndLine} (λ last. last) (λ last. end_words last.packets last.packets 0 0) (λ last. end_line last.packets last.packets 0 0) (λ last. last.packets < 10 ^ 19) c.args.line.now c.of-words.result c.of.result
    (λ last. refl) (λ last is. end-parts last.packets is) c.of-words.ensures c.of.ensures
