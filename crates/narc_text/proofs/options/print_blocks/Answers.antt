use Rattle.std.proofs.Common.{◌≡◌, ◌++◌, ◌∷◌, codes, map, sym, ap, ◌∙◌, subst, arith}
use Rattle.narc_packet.specs.Options.{sack_blocks_in}
use Rattle.narc_packet.specs.TextWords.{block_word, blocks_word}
use Rattle.narc_text.specs.Printing.{IsPrinted}
use Rattle.narc_text.proofs.Printings.{IsPrinted-stopped}
use Rattle.narc_text.proofs.OptionTexts.{each_behind, join-first, Prints-next, Passes-next, IsPrinted-mark, IsPrinted-word}
use Rattle.narc_text.proofs.options.print_blocks.Goals as goal

pub loop-block-init : goal.loop-block-init
loop-block-init g c =
    let first = c.in-Some.first in
    let left = c.into_iter-block-iterator.result in
    let all = sack_blocks_in c.args.blocks.spelled.now in
    let cut : all ≡ first ∷ left = sym c.iter-blocks.ensures ∙ c.in-Some.ensures.steps ∙ ap (λ l. first ∷ l) (sym c.into_iter-block-iterator.ensures.into_iter_gives) in
    record {
      so_far = record { done = block_word first; split = join-first 47 block_word first left all cut };
      printed = c.in_ok-print_block.ensures.printed;
      later = omega (arith, c.in_ok-print_block.ensures.faults.later);
    }

pub loop-block-preserved : goal.loop-block-preserved
loop-block-preserved g c =
    let all = blocks_word (sack_blocks_in c.args.blocks.spelled.now) in
    let block = c.in-Some-block.block in
    let left = c.next-in-loop-block.new.self in
    let before = c.args.page.now in
    let now = c.loop-block.block-iterator in
    let cut = c.in-Some-block.ensures.steps in
    let so_far = c.loop-block.invariant in
    record {
      so_far = record {
        done = so_far.so_far.done ++ (codes "/" ++ block_word block);
        split = Prints-next 47 block_word block left all before now cut so_far.so_far;
      };
      printed = Passes-next 47 block_word block left all before now cut so_far.so_far c.loop-block.page (g.K.Sink.held c.args.sink.now) (g.K.Sink.held c.loop-block.sink) (g.K.Sink.held c.print_block-in-loop-block.new.sink)
          so_far.printed c.print_word.new.page c.print_block-in-loop-block.new.page (g.K.Sink.held c.print_word.new.sink) c.in_ok-print_word.ensures.printed c.in_ok-print_block-2.ensures.printed;
      later = omega (arith, so_far.later, c.in_ok-print_word.ensures.faults.later, c.in_ok-print_block-2.ensures.faults.later);
    }

pub returns-in_err-print_word-clause-printed : goal.returns-in_err-print_word-clause-printed
returns-in_err-print_word-clause-printed g c =
    let all = blocks_word (sack_blocks_in c.args.blocks.spelled.now) in
    let block = c.in-Some-block.block in
    let so_far = c.loop-block.invariant in
    let answer = c.from_residual-in_err-print_word in
    IsPrinted-mark 47 block_word block c.next-in-loop-block.new.self all c.args.page.now c.loop-block.block-iterator c.in-Some-block.ensures.steps so_far.so_far c.loop-block.page
    (g.K.Sink.held c.args.sink.now) (g.K.Sink.held c.loop-block.sink) (g.K.Sink.held c.print_word.new.sink) so_far.printed
    c.print_word.new.page answer.result answer.ensures.0 c.in_err-print_word.ensures.printed

pub returns-in_err-print_block-2-clause-printed : goal.returns-in_err-print_block-2-clause-printed
returns-in_err-print_block-2-clause-printed g c =
    let all = blocks_word (sack_blocks_in c.args.blocks.spelled.now) in
    let block = c.in-Some-block.block in
    let so_far = c.loop-block.invariant in
    let answer = c.from_residual-in_err-print_block-2 in
    IsPrinted-word 47 block_word block c.next-in-loop-block.new.self all c.args.page.now c.loop-block.block-iterator c.in-Some-block.ensures.steps so_far.so_far c.loop-block.page
    (g.K.Sink.held c.args.sink.now) (g.K.Sink.held c.loop-block.sink) (g.K.Sink.held c.print_block-in-loop-block.new.sink) so_far.printed
    c.print_word.new.page c.print_block-in-loop-block.new.page (g.K.Sink.held c.print_word.new.sink) answer.result c.in_ok-print_word.ensures.printed answer.ensures.0 c.in_err-print_block-2.ensures.printed

pub returns-in_err-print_block-clause-printed : goal.returns-in_err-print_block-clause-printed
returns-in_err-print_block-clause-printed g c =
    let first = c.in-Some.first in
    let left = c.next.new.self in
    let all = sack_blocks_in c.args.blocks.spelled.now in
    let cut : all ≡ first ∷ left = sym c.iter-blocks.ensures ∙ c.in-Some.ensures.steps in
    let answer = c.from_residual in
    let before = g.K.Sink.held c.args.sink.now in
    let held = g.K.Sink.held c.print_block.new.sink in
    subst (λ l. IsPrinted answer.result l c.args.page.now c.print_block.new.page before held) (sym (join-first 47 block_word first left all cut))
    (IsPrinted-stopped (block_word first) (each_behind 47 (map block_word left)) c.args.page.now c.print_block.new.page before held answer.result answer.ensures.0 c.in_err-print_block.ensures.printed)
