use Rattle.narc_run.proofs.counted.run_counted.Goals as goal

pub returns : goal.returns
returns g c = (c.count_run-counted.result.steps, c.count_run-counted.ensures)
