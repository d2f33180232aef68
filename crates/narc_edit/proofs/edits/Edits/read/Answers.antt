use Rattle.std.proofs.Common.{◌≡◌, Some, None, sym, ap, ◌∙◌}
use Rattle.std.specs.Prelude.{option_map}
use Rattle.narc_edit.specs.Assignments.{with_word}
use Rattle.narc_edit.proofs.Assigning.{edits_after-word, edits_after-none}
use Rattle.narc_edit.proofs.edits.Edits.read.Goals as goal

pub returns-in_err-assign_word : goal.returns-in_err-assign_word
returns-in_err-assign_word c =
    let none : with_word c.loop-i.edits c.word.result.now ≡ None =
    sym c.assign_word.ensures ∙ ap (option_map (λ (done : Unit {0}). c.assign_word.new.self)) c.in_err-assign_word.was in
    c.from_residual.ensures ∙ sym (edits_after-none c.loop-i.edits c.args.words.now c.loop-i.i c.word.result.now c.word.ensures.word none) ∙ c.loop-i.invariant

pub loop-i-preserved : goal.loop-i-preserved
loop-i-preserved c =
    let next : with_word c.loop-i.edits c.word.result.now ≡ Some c.assign_word.new.self =
    sym c.assign_word.ensures ∙ ap (option_map (λ (done : Unit {0}). c.assign_word.new.self)) c.in_ok-assign_word.was in
    edits_after-word c.loop-i.edits c.args.words.now c.loop-i.i c.word.result.now c.word.ensures.word c.assign_word.new.self next ∙ c.loop-i.invariant
