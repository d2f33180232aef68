use Rattle.std.proofs.Common.{ap, ◌∙◌, length, fold, drop, ◌+◌}
use Rattle.narc_mend.specs.declared.mend.Zero.TheVariants.{Plain}
use Rattle.narc_patch.specs.declared.change.Checksum.{Checksum}
use Rattle.narc_patch.specs.Change.{with_mended}
use Rattle.narc_patch.proofs.Mending.{mended_next, inside_next}
use Rattle.narc_patch.proofs.change.change.Goals as goal

pub loop-sum-preserved : goal.loop-sum-preserved
loop-sum-preserved c =
    let i = c.loop-sum.sum-index in
    let sums = c.args.sums.now in
    let or : Checksum = record { at = 0; zero = Plain } in
    let mend = with_mended c.word_at-before.result c.word_at-after.result in
    let rest = drop (i + 1) sums in
    record {
      left = ap (λ l. fold mend l rest) c.mend.ensures ∙ mended_next sums i or c.loop-sum-test.true mend c.loop-sum.frame (fold mend c.put.new.frame sums) c.loop-sum.invariant.left;
      inside = inside_next sums i or c.loop-sum-test.true (length c.loop-sum.frame) (length c.mend.new.frame) c.mend.auto.frame c.loop-sum.invariant.inside;
    }
