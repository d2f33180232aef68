use Rattle.std.proofs.Common.{◌≡◌, drop}
use Rattle.narc_edit.specs.Assignments.{edits_after, edits_of}
use Rattle.narc_edit.proofs.edits.Edits.read.Given as goal

abbrev pub invariant-loop-i : goal.invariant-loop-i
invariant-loop-i l = edits_after l.edits (drop l.i l.words) ≡ edits_of (drop l.fn.from l.words)
