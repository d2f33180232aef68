use Rattle.std.proofs.Common.{◌≡◌, ◌+◌, ◌*◌, ◌≤◌, ◌++◌, length}
use Rattle.narc_run.specs.Counting.{refusal_lines}
use Rattle.narc_run.proofs.check.put_refusals.Given as goal

abbrev pub invariant-loop-lesser : goal.invariant-loop-lesser
invariant-loop-lesser l = record {
  lines : l.page ≡ l.fn.page ++ refusal_lines l.refused l.lesser;
  few : length l.page ≤ length l.fn.page + 64 * l.lesser;
}
