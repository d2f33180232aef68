use Rattle.std.proofs.Common.{Some, sym, ap, ◌∙◌}
use Rattle.narc_edit.proofs.Guesses.{flags_of_reading}
use Rattle.narc_edit.proofs.values.flags.Goals as goal

pub returns-in_err-flags : goal.returns-in_err-flags
returns-in_err-flags c =
    c.from_residual.ensures ∙ sym c.in_err-flags.was
    ∙ c.ok.ensures.value ∙ flags_of_reading c.args.word.now c.read_flags.result (rw c.as_bytes.ensures.value at c.read_flags.ensures)

pub returns : goal.returns
returns c =
    ap Some c.new.ensures ∙ sym c.in_ok-flags.was
    ∙ c.ok.ensures.value ∙ flags_of_reading c.args.word.now c.read_flags.result (rw c.as_bytes.ensures.value at c.read_flags.ensures)
