use Rattle.std.proofs.Common.{◌≡◌, ◌++◌, ◌∷◌, codes, sym, ap, ◌∙◌, arith}
use Rattle.narc_packet.specs.Options.{tcp_options_in}
use Rattle.narc_packet.specs.PacketView.{tcp_option_view}
use Rattle.narc_packet.specs.TextWords.{tcp_option_word, tcp_options_word}
use Rattle.narc_text.proofs.OptionTexts.{list_word-first, Prints-next, Passes-next, IsPrinted-mark, IsPrinted-word}
use Rattle.narc_text.proofs.options.print_tcp_options.Goals as goal

pub loop-option-init : goal.loop-option-init
loop-option-init g c =
    let first = tcp_option_view c.in-Some.first in
    let left = c.into_iter-option-iterator.result in
    let all = tcp_options_in c.args.options.now.spelled.now in
    let cut : all ≡ first ∷ left = sym c.iter-options.ensures ∙ c.in-Some.ensures.steps ∙ ap (λ l. first ∷ l) (sym c.into_iter-option-iterator.ensures.into_iter_gives) in
    record {
      so_far = record { done = tcp_option_word first; split = list_word-first tcp_option_word first left all cut };
      printed = c.in_ok-print_tcp_option.ensures.printed;
      later = omega (arith, c.in_ok-print_tcp_option.ensures.faults.later);
    }

pub loop-option-preserved : goal.loop-option-preserved
loop-option-preserved g c =
    let all = tcp_options_word (tcp_options_in c.args.options.now.spelled.now) in
    let option = tcp_option_view c.in-Some-option.option in
    let left = c.next-in-loop-option.new.self in
    let before = c.args.page.now in
    let now = c.loop-option.option-iterator in
    let cut = c.in-Some-option.ensures.steps in
    let so_far = c.loop-option.invariant in
    record {
      so_far = record {
        done = so_far.so_far.done ++ (codes "," ++ tcp_option_word option);
        split = Prints-next 44 tcp_option_word option left all before now cut so_far.so_far;
      };
      printed = Passes-next 44 tcp_option_word option left all before now cut so_far.so_far c.loop-option.page (g.K.Sink.held c.args.sink.now) (g.K.Sink.held c.loop-option.sink) (g.K.Sink.held c.print_tcp_option-in-loop-option.new.sink)
          so_far.printed c.print_word-in-loop-option.new.page c.print_tcp_option-in-loop-option.new.page (g.K.Sink.held c.print_word-in-loop-option.new.sink) c.in_ok-print_word.ensures.printed c.in_ok-print_tcp_option-2.ensures.printed;
      later = omega (arith, so_far.later, c.in_ok-print_word.ensures.faults.later, c.in_ok-print_tcp_option-2.ensures.faults.later);
    }

pub returns-in_err-print_word-clause-printed : goal.returns-in_err-print_word-clause-printed
returns-in_err-print_word-clause-printed g c =
    let all = tcp_options_word (tcp_options_in c.args.options.now.spelled.now) in
    let option = tcp_option_view c.in-Some-option.option in
    let so_far = c.loop-option.invariant in
    let answer = c.from_residual-in_err-print_word in
    IsPrinted-mark 44 tcp_option_word option c.next-in-loop-option.new.self all c.args.page.now c.loop-option.option-iterator c.in-Some-option.ensures.steps so_far.so_far c.loop-option.page
    (g.K.Sink.held c.args.sink.now) (g.K.Sink.held c.loop-option.sink) (g.K.Sink.held c.print_word-in-loop-option.new.sink) so_far.printed
    c.print_word-in-loop-option.new.page answer.result answer.ensures.0 c.in_err-print_word.ensures.printed

pub returns-in_err-print_tcp_option-2-clause-printed : goal.returns-in_err-print_tcp_option-2-clause-printed
returns-in_err-print_tcp_option-2-clause-printed g c =
    let all = tcp_options_word (tcp_options_in c.args.options.now.spelled.now) in
    let option = tcp_option_view c.in-Some-option.option in
    let so_far = c.loop-option.invariant in
    let answer = c.from_residual-in_err-print_tcp_option-2 in
    IsPrinted-word 44 tcp_option_word option c.next-in-loop-option.new.self all c.args.page.now c.loop-option.option-iterator c.in-Some-option.ensures.steps so_far.so_far c.loop-option.page
    (g.K.Sink.held c.args.sink.now) (g.K.Sink.held c.loop-option.sink) (g.K.Sink.held c.print_tcp_option-in-loop-option.new.sink) so_far.printed
    c.print_word-in-loop-option.new.page c.print_tcp_option-in-loop-option.new.page (g.K.Sink.held c.print_word-in-loop-option.new.sink) answer.result c.in_ok-print_word.ensures.printed answer.ensures.0 c.in_err-print_tcp_option-2.ensures.printed
