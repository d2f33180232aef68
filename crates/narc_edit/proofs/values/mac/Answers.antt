use Rattle.std.proofs.Common.{◌∙◌}
use Rattle.narc_edit.proofs.Guesses.{mac_of_reading}
use Rattle.narc_edit.proofs.values.mac.Goals as goal

pub returns : goal.returns
returns c = c.ok.ensures.value ∙ mac_of_reading c.args.word.now c.read_mac.result (rw c.as_bytes.ensures.value at c.read_mac.ensures)
