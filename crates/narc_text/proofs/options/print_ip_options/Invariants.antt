use Rattle.std.proofs.Common.{◌≤◌, ◌++◌}
use Rattle.narc_packet.specs.Options.{ip_options_in}
use Rattle.narc_packet.specs.TextWords.{ip_option_word, ip_options_word}
use Rattle.narc_text.specs.Printing.{Passes}
use Rattle.narc_text.proofs.OptionTexts.{Prints}
use Rattle.narc_text.proofs.options.print_ip_options.Given as goal

abbrev pub invariant-loop-option : goal.invariant-loop-option
invariant-loop-option g l = record {
  so_far : Prints 44 ip_option_word (ip_options_word (ip_options_in l.fn.options.spelled.now)) l.option-iterator;
  printed : Passes (l.fn.page ++ so_far.done) l.page (g.K.Sink.held l.fn.sink) (g.K.Sink.held l.sink);
  later : g.K.Sink.faults l.fn.sink ≤ g.K.Sink.faults l.sink;
}
