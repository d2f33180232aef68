use Rattle.std.proofs.Common.{◌≤◌, ◌++◌, length}
use Rattle.hex.specs.Hex.{encode_lower}
use Rattle.narc_text.specs.Printing.{Passes}
use Rattle.narc_text.proofs.Printings.{Splits}
use Rattle.narc_text.proofs.words.print_hex.Given as goal

abbrev pub decreases-loop-rest : goal.decreases-loop-rest
decreases-loop-rest g l = length l.rest

abbrev pub invariant-loop-rest : goal.invariant-loop-rest
invariant-loop-rest g l = record {
  done : Splits l.fn.octets l.rest;
  printed : Passes (l.fn.page ++ encode_lower done.front) l.page (g.K.Sink.held l.fn.sink) (g.K.Sink.held l.sink);
  later : g.K.Sink.faults l.fn.sink ≤ g.K.Sink.faults l.sink;
}
