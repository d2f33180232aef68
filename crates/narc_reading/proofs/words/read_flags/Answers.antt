use Rattle.narc_reading.proofs.FlagWords.{flags-again}
use Rattle.narc_reading.proofs.words.read_flags.Goals as goal

pub returns : goal.returns
returns c =
    flags-again c.args.word.now c.in_ok-read_mark.field-0 c.in_ok-read_mark-2.field-0 c.in_ok-read_mark-3.field-0 c.in_ok-read_mark-4.field-0 c.in_ok-read_mark-5.field-0 c.in_ok-read_mark-6.field-0
    c.from.result c.from-2.result c.from-3.result c.from-4.result c.from-5.result c.from-6.result c.in-len6.len_at_least c.in-len6.len_below
    (record { bit = c.from.ensures; mark = c.in_ok-read_mark.ensures.1 })
    (record { bit = c.from-2.ensures; mark = c.in_ok-read_mark-2.ensures.1 })
    (record { bit = c.from-3.ensures; mark = c.in_ok-read_mark-3.ensures.1 })
    (record { bit = c.from-4.ensures; mark = c.in_ok-read_mark-4.ensures.1 })
    (record { bit = c.from-5.ensures; mark = c.in_ok-read_mark-5.ensures.1 })
    (record { bit = c.from-6.ensures; mark = c.in_ok-read_mark-6.ensures.1 })
