use Rattle.std.proofs.Common.{codes}
use Rattle.narc_packet.specs.Options.{sack_blocks_in}
use Rattle.narc_packet.specs.TextWords.{blocks_word}
use Rattle.narc_text.proofs.Printings.{IsPrinted-then, IsPrinted-stopped}
use Rattle.narc_text.proofs.options.print_sack.Goals as goal

pub returns-in_err-print_word-clause-printed : goal.returns-in_err-print_word-clause-printed
returns-in_err-print_word-clause-printed g c =
    let answer = c.from_residual in
    IsPrinted-stopped (codes "sack:") (blocks_word (sack_blocks_in c.args.blocks.spelled.now)) c.args.page.now c.print_word.new.page
    (g.K.Sink.held c.args.sink.now) (g.K.Sink.held c.print_word.new.sink) answer.result answer.ensures.0 c.in_err-print_word.ensures.printed

pub returns-clause-printed : goal.returns-clause-printed
returns-clause-printed g c =
    IsPrinted-then (codes "sack:") (blocks_word (sack_blocks_in c.args.blocks.spelled.now)) c.args.page.now c.print_word.new.page c.print_blocks.new.page
    (g.K.Sink.held c.args.sink.now) (g.K.Sink.held c.print_word.new.sink) (g.K.Sink.held c.print_blocks.new.sink) c.print_blocks.result c.in_ok-print_word.ensures.printed c.print_blocks.ensures.printed
