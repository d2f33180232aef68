use Rattle.std.proofs.Common.{◌∙◌}
use Rattle.narc_edit.proofs.Guesses.{number_of_reading}
use Rattle.narc_edit.proofs.values.number_below.Goals as goal

pub returns : goal.returns
returns c =
    c.ok.ensures.value
    ∙ number_of_reading c.args.word.now c.args.limit c.read_decimal.result c.requires (rw c.as_bytes.ensures.value at c.read_decimal.ensures)
