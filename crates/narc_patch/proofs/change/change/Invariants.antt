use Rattle.std.proofs.Common.{◌≡◌, ◌+◌, ◌≤◌, length, drop, fold}
use Rattle.std.specs.List.{AllByRecursion}
use Rattle.narc_patch.specs.Change.{with_mended}
use Rattle.narc_patch.proofs.change.change.Given as goal

-- the checksums that are left are mended, and all of them can be
abbrev pub invariant-loop-sum : goal.invariant-loop-sum
invariant-loop-sum l = record {
  left : fold (with_mended l.before l.after) l.frame (drop l.sum-index l.sums) ≡ fold (with_mended l.before l.after) l.initial.frame l.sums;
  inside : AllByRecursion (λ sum. sum.at + 2 ≤ length l.frame) (drop l.sum-index l.sums);
}
