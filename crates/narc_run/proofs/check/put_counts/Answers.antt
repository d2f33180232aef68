use Rattle.narc_run.proofs.Checks.{counts_parts}
use Rattle.narc_run.proofs.check.put_counts.Goals as goal

pub returns : goal.returns
returns c = counts_parts c.args.page.now _ _ _ _ _ _ _ _ c.put_line.ensures.value c.put_line-2.ensures.value c.put_refusals.ensures.value c.put_end.ensures
