use Rattle.std.proofs.Common.{◌-◌, ◌≤◌}
use Rattle.narc_world.specs.declared.input_buffer.TheConstants.{INPUT_LIMIT}
use Rattle.narc_build.proofs.TextSoFar.{BuildsSoFar}
use Rattle.narc_build.proofs.capture.build.Given as goal

abbrev pub decreases-lines : goal.decreases-lines
decreases-lines g l = INPUT_LIMIT - l.lines.input.place

abbrev pub invariant-lines : goal.invariant-lines
invariant-lines g l = record {
  so_far : BuildsSoFar l.lines l.writer l.records (g.S.Source.left l.fn.source) (g.S.Source.left l.source) (g.K.Sink.held l.fn.sink) (g.K.Sink.held l.sink);
  source_later : g.S.Source.faults l.fn.source ≤ g.S.Source.faults l.source;
  sink_later : g.K.Sink.faults l.fn.sink ≤ g.K.Sink.faults l.sink;
}
