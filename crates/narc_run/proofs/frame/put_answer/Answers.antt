use Rattle.narc_stack.specs.AnswerView.{answer_view}
use Rattle.narc_text.proofs.Printings.{IsPushed-flushed, IsPushed-stopped}
use Rattle.narc_run.specs.Output.{answer_line}
use Rattle.narc_run.proofs.frame.put_answer.Goals as goal

pub returns-in_err-print_answer-clause-pushed : goal.returns-in_err-print_answer-clause-pushed
returns-in_err-print_answer-clause-pushed g c =
    IsPushed-stopped (answer_line (answer_view c.args.answer.now)) c.new-page.result (g.K.Sink.held c.args.sink.now) (g.K.Sink.held c.print_answer.new.sink)
    c.from_residual.result c.new-page.ensures c.from_residual.ensures.0 c.in_err-print_answer.ensures.printed

pub returns-clause-pushed : goal.returns-clause-pushed
returns-clause-pushed g c =
    IsPushed-flushed (answer_line (answer_view c.args.answer.now)) c.new-page.result c.print_answer.new.page c.flush.new.self
    (g.K.Sink.held c.args.sink.now) (g.K.Sink.held c.print_answer.new.sink) (g.K.Sink.held c.flush.new.sink) c.flush.result
    c.new-page.ensures c.in_ok-print_answer.ensures.printed c.flush.ensures.printed c.flush.ensures.empty
