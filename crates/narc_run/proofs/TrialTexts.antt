-- The line of a trial, part by part.
use Rattle.std.proofs.Common.{◌≡◌, ℕ, List, [], ◌∷◌, ◌++◌, codes, decimal, append_assoc}
use Rattle.narc_trial.specs.declared.counts.TrialCounts.{TrialCounts}
use Rattle.narc_run.specs.Output.{trial_line}

pub trial_line-parts : (page : List ℕ) (seed count : ℕ) (counts : TrialCounts)
    → ((((((page ++ codes "trial " ++ decimal seed) ++ codes " " ++ decimal count) ++ codes " octets " ++ decimal counts.octets)
    ++ codes " same " ++ decimal counts.same) ++ codes " other " ++ decimal counts.other) ++ codes " refused " ++ decimal counts.refused) ++ 10 ∷ []
    ≡ page ++ trial_line seed count counts
trial_line-parts page seed count counts = simp append_assoc
