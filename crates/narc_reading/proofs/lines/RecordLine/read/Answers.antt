use Rattle.narc_text.specs.CaptureText.{IsTextEntry, entry_words, entry_line}
use Rattle.narc_reading.specs.Reading.{entry_view}
use Rattle.narc_reading.proofs.LineWords.{line-of, entry-parts, entry_line-words}
use Rattle.narc_reading.proofs.lines.RecordLine.read.Goals as goal

pub returns-clause-read : goal.returns-clause-read
returns-clause-read c =
    line-of entry_view entry_words entry_line IsTextEntry c.args.line.now c.of-words.result c.read_record.result entry_line-words entry-parts c.of-words.ensures c.read_record.ensures.read
