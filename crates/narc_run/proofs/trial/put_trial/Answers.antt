use Rattle.std.proofs.Common.{◌≡◌, [], ◌∷◌, ◌++◌, ◌∙◌, codes, decimal}
use Rattle.narc_run.proofs.TrialTexts.{trial_line-parts}
use Rattle.narc_run.proofs.trial.put_trial.Goals as goal

pub returns : goal.returns
returns c =
    let page = c.args.page.now in
    let counts = c.args.counts.now in
    let parts : c.put.new.self ≡ ((((((page ++ codes "trial " ++ decimal c.args.seed) ++ codes " " ++ decimal c.args.count) ++ codes " octets " ++ decimal counts.octets)
    ++ codes " same " ++ decimal counts.same) ++ codes " other " ++ decimal counts.other) ++ codes " refused " ++ decimal counts.refused) ++ 10 ∷ [] = cc in
    parts ∙ trial_line-parts page c.args.seed c.args.count counts
