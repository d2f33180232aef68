use Rattle.std.proofs.Common.{◌≡◌, length, sym, ap, ◌∙◌, arith}
use Rattle.std.specs.Prelude.{option_map}
use Rattle.std.specs.List.{position_or_len}
use Rattle.std.proofs.lemmas.Str.Pattern.{split_once_first}
use Rattle.narc_edit.specs.Assignments.{is_equals_sign}
use Rattle.narc_edit.proofs.Assigning.{with_word-none}
use Rattle.narc_edit.proofs.edits.Edits.assign_word.Goals as goal

pub returns-in_err-name : goal.returns-in_err-name
returns-in_err-name c =
    let split = split_once_first 61 c.args.word.now c.split_once.result c.split_once.ensures.cases (omega arith) in
    let lacks : position_or_len is_equals_sign c.args.word.now ≡ length c.args.word.now = rw c.in_err-name.was at split in
    ap (option_map (λ (done : Unit {0}). c.args.self.now)) c.from_residual.ensures ∙ sym (with_word-none c.args.self.now c.args.word.now lacks)
