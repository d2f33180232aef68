use Rattle.std.proofs.Common.{◌≡◌, ◌-◌, ◌≤◌, length, take}
use Rattle.narc_world.specs.Outside.{TakesFront}
use Rattle.narc_run.proofs.input.fill.Given as goal

abbrev pub decreases-loop-count : goal.decreases-loop-count
decreases-loop-count g l = length l.initial.buffer - l.count

abbrev pub invariant-loop-count : goal.invariant-loop-count
invariant-loop-count g l = record {
  fits : l.count ≤ length l.buffer;
  size : length l.buffer ≡ length l.fn.buffer;
  took : TakesFront (take l.count l.buffer) (g.S.Source.left l.fn.source) (g.S.Source.left l.source);
  later : g.S.Source.faults l.fn.source ≤ g.S.Source.faults l.source;
}
