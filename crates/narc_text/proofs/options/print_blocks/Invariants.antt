use Rattle.std.proofs.Common.{◌≤◌, ◌++◌}
use Rattle.narc_packet.specs.Options.{sack_blocks_in}
use Rattle.narc_packet.specs.TextWords.{block_word, blocks_word}
use Rattle.narc_text.specs.Printing.{Passes}
use Rattle.narc_text.proofs.OptionTexts.{Prints}
use Rattle.narc_text.proofs.options.print_blocks.Given as goal

abbrev pub invariant-loop-block : goal.invariant-loop-block
invariant-loop-block g l = record {
  so_far : Prints 47 block_word (blocks_word (sack_blocks_in l.fn.blocks.spelled.now)) l.block-iterator;
  printed : Passes (l.fn.page ++ so_far.done) l.page (g.K.Sink.held l.fn.sink) (g.K.Sink.held l.sink);
  later : g.K.Sink.faults l.fn.sink ≤ g.K.Sink.faults l.sink;
}
