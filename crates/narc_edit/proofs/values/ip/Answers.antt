use Rattle.std.proofs.Common.{◌∙◌}
use Rattle.narc_edit.proofs.Guesses.{ip_of_reading}
use Rattle.narc_edit.proofs.values.ip.Goals as goal

pub returns : goal.returns
returns c = c.ok.ensures.value ∙ ip_of_reading c.args.word.now c.read_ip.result (rw c.as_bytes.ensures.value at c.read_ip.ensures)
