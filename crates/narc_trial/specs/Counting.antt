-- The counts of a trial.
use Rattle.std.specs.Prelude.{◌≡◌, ℕ, ◌+◌, ◌*◌, ◌≤◌, ◌^◌, List, length, map, sum_by, count_by}
use Rattle.narc_trial.specs.declared.counts.TrialCounts.{TrialCounts}
use Rattle.narc_trial.specs.declared.fate.Fate.{Fate}
use Rattle.narc_trial.specs.declared.fate.Fate.TheVariants.{Same, Other, Refused}
use Rattle.narc_trial.specs.Hurt.{made_size, hurt}
use Rattle.narc_trial.specs.Trying.{Tried, AreTried, numbers, is_same, is_other, is_refused}

abbrev pub counts_of : List Tried → TrialCounts
counts_of tried = record {
  octets = sum_by (λ t. made_size t.number) tried;
  same = count_by is_same tried;
  other = count_by is_other tried;
  refused = count_by is_refused tried;
}

-- the counts are those of so many packets
pub record IsTrial (seed count : ℕ) (counts : TrialCounts) : Type 0 where
  pub tried : List Tried
  pub are : AreTried seed count tried
  pub counted : counts ≡ counts_of tried

-- each count has room for one packet more
pub record HasRoom (counts : TrialCounts) : Type 0 where
  pub octets : counts.octets ≤ 2 ^ 60
  pub same : counts.same ≤ 2 ^ 60
  pub other : counts.other ≤ 2 ^ 60
  pub refused : counts.refused ≤ 2 ^ 60

-- the counts after a packet more, whose frame has so many octets
abbrev pub counts_after : TrialCounts → (size : ℕ) → Fate → TrialCounts
counts_after c size Same = record c { octets = c.octets + size; same = c.same + 1 }
counts_after c size Other = record c { octets = c.octets + size; other = c.other + 1 }
counts_after c size Refused = record c { octets = c.octets + size; refused = c.refused + 1 }

-- the most steps for these frames
abbrev pub hurt_cost : List ℕ → ℕ
hurt_cost numbers = sum_by (λ octets. 16 * length octets + 1) (map hurt numbers)
