use Rattle.std.proofs.Common.{◌≡◌, ◌+◌, ◌≤◌, decimal, length}
use Rattle.narc_text.proofs.texts.width_of.Given as goal

abbrev pub invariant-loop-rest : goal.invariant-loop-rest
invariant-loop-rest l = record {
  whole : length (decimal l.number) ≡ l.width + length (decimal l.rest);
  few : l.width ≤ 20;
}

abbrev pub decreases-loop-rest : goal.decreases-loop-rest
decreases-loop-rest l = l.rest
