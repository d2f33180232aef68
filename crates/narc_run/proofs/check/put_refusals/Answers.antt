use Rattle.std.proofs.Common.{◌++◌, sym, ap, ◌∙◌, append-nil, arith}
use Rattle.narc_run.proofs.Checks.{refusal_lines_none, refusal_lines_more}
use Rattle.narc_run.proofs.check.put_refusals.Goals as goal

pub loop-lesser-init : goal.loop-lesser-init
loop-lesser-init c =
    let page = c.args.page.now in
    record { lines = sym (ap (λ l. page ++ l) (refusal_lines_none c.args.refused.now) ∙ append-nil page); few = omega arith }

pub loop-lesser-preserved : goal.loop-lesser-preserved
loop-lesser-preserved c =
    let more = refusal_lines_more c.args.page.now c.args.refused.now c.loop-lesser.lesser in
    record { lines = cc; few = omega arith }
