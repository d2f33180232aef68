use Rattle.narc_text.proofs.Printings.{IsPushed-flushed, Passes-put}
use Rattle.narc_run.specs.Output.{trial_line}
use Rattle.narc_run.proofs.trial.tell_trial.Goals as goal

pub returns-clause-pushed : goal.returns-clause-pushed
returns-clause-pushed g c =
    let line = trial_line c.args.seed c.args.count c.args.counts.now in
    let held = g.K.Sink.held c.args.sink.now in
    IsPushed-flushed line c.new-page.result c.put_trial.new.page c.flush.new.self held held (g.K.Sink.held c.flush.new.sink) c.flush.result
    c.new-page.ensures (Passes-put line c.new-page.result c.put_trial.new.page held c.put_trial.ensures) c.flush.ensures.printed c.flush.ensures.empty
