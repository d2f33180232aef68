-- How the jobs end that read nothing, and that they keep what is promised of runs.
use Rattle.std.proofs.Common.{◌≡◌, ℕ, ◌+◌, ◌*◌, ◌≤◌, inl, inr, [], List, length, map, Option, Some, refl, ap, subst, arith}
use Rattle.std.specs.Prelude.{sum_by}
use Rattle.narc_world.specs.Outside.{Rose, Appends, CountsFaults}
use Rattle.narc_trial.specs.declared.counts.TrialCounts.{TrialCounts}
use Rattle.narc_trial.specs.Hurt.{hurt}
use Rattle.narc_trial.specs.Trying.{numbers}
use Rattle.narc_trial.specs.Counting.{IsTrial}
use Rattle.narc_run.specs.declared.outcome.Outcome.{Outcome}
use Rattle.narc_run.specs.Job.{UnreadJob, Unread, Trial, Version}
use Rattle.narc_run.specs.Findings.{Found, frames, frame_cost}
use Rattle.narc_run.specs.Output.{output, trial_line, version_line}
use Rattle.narc_run.specs.Verdict.{verdict_of}
use Rattle.narc_run.specs.Run.{WroteFront, IsRight}
use Rattle.narc_run.specs.StreamRun.{Takes, StreamRun, Judged, Stopped, run_of}
use Rattle.narc_run.specs.UnreadRun.{UnreadRun, IsToldOrCut}
use Rattle.narc_run.proofs.FrameAnswers.{no_findings}
use Rattle.narc_run.proofs.RightJobs.{without_memory}
use Rattle.narc_run.proofs.SteadyJobs.{IsSteady}
use Rattle.narc_run.proofs.StreamRuns.{right_stream}

-- a job that reads nothing wrote its line, or a front of it
pub record Writes (line : List ℕ) (before after : Option (List ℕ)) (sink_before sink_after : ℕ) (o : Outcome) : Type 0 where
  pub place : o.at ≡ 0
  pub faults : CountsFaults (λ rose. o.status ≡ 6 → rose) sink_before sink_after
  pub told : IsToldOrCut 0 o.status line before after

pub done_line : (line : List ℕ) (before after : Option (List ℕ)) (sink_before sink_after : ℕ) (o : Outcome) → o ≡ record { status = 0; at = 0 } → Appends line before after → sink_before ≤ sink_after
    → Writes line before after sink_before sink_after o
done_line line before after k0 k1 o e wrote later =
    let done : o.status ≡ 0 = ap (λ (o : Outcome). o.status) e in
    record {
      place = ap (λ (o : Outcome). o.at) e;
      faults = record { later = later; cause = λ h. absurd (omega (arith, h, done)) };
      told = inl (done, wrote);
    }

pub cut_line : (line : List ℕ) (before after : Option (List ℕ)) (sink_before sink_after : ℕ) (o : Outcome) → o ≡ record { status = 6; at = 0 } → WroteFront line before after → sink_before ≤ sink_after → Rose sink_before sink_after
    → Writes line before after sink_before sink_after o
cut_line line before after k0 k1 o e cut later rose = record {
  place = ap (λ (o : Outcome). o.at) e;
  faults = record { later = later; cause = λ h. rose };
  told = inr (ap (λ (o : Outcome). o.status) e, cut);
}

-- a trial ends by its line
pub trial-run : (seed count : ℕ) (counts : TrialCounts) (before after : Option (List ℕ)) (sink_before sink_after steps_before steps_after : ℕ) (o : Outcome) (NothingWritten : Type 0) → IsTrial seed count counts
    → steps_after ≤ steps_before + sum_by (λ octets. 16 * length octets + 1) (map hurt (numbers seed count)) → Writes (trial_line seed count counts) before after sink_before sink_after o
    → UnreadRun (Trial seed count) before after sink_before sink_after steps_before steps_after o NothingWritten
trial-run seed count counts before after k0 k1 s0 s1 o NothingWritten trial steps writes = record {
  place = writes.place;
  faults = writes.faults;
  steps = steps;
  ended = inl (record {
    found = record no_findings { tried = trial.tried };
    are = trial.are;
    holds = subst (λ (c : TrialCounts). IsToldOrCut 0 o.status (trial_line seed count c) before after) trial.counted writes.told;
  });
}

-- a trial has no memory
pub trial-lacks : (seed count : ℕ) (held : Option (List ℕ)) (sink steps : ℕ) (o : Outcome) (NothingWritten : Type 0) → NothingWritten → o ≡ record { status = 4; at = 0 }
    → UnreadRun (Trial seed count) held held sink sink steps steps o NothingWritten
trial-lacks seed count held sink steps o NothingWritten unwritten e =
    let told : o.status ≡ 4 = ap (λ (o : Outcome). o.status) e in
    record {
      place = ap (λ (o : Outcome). o.at) e;
      faults = record { later = omega arith; cause = λ h. absurd (omega (arith, h, told)) };
      steps = omega arith;
      ended = inr (λ same. cc, record { told = told; held = refl; same_steps = refl; unwritten = unwritten });
    }

-- the version ends by its line
pub version-run : (before after : Option (List ℕ)) (sink_before sink_after : ℕ) (o : Outcome) (NothingWritten : Type 0)
    → Writes version_line before after sink_before sink_after o → UnreadRun Version before after sink_before sink_after 0 0 o NothingWritten
version-run before after k0 k1 o NothingWritten writes = record {
  place = writes.place;
  faults = writes.faults;
  steps = omega arith;
  ended = inl (record { found = no_findings; are = tt; holds = writes.told });
}

-- the version takes no steps, whatever was counted before
pub version-later : (before after : Option (List ℕ)) (sink_before sink_after steps : ℕ) (o : Outcome) (NothingWritten : Type 0) → UnreadRun Version before after sink_before sink_after 0 0 o NothingWritten
    → UnreadRun Version before after sink_before sink_after steps steps o NothingWritten
version-later before after k0 k1 steps o NothingWritten run = record { place = run.place; faults = run.faults; steps = omega arith; ended = elim run.ended [ inl told ↦ inl told | inr lacks ↦ absurd (lacks.0 refl) ] }

done_at : (status at : ℕ) → status ≡ 0 → at ≡ 0 → verdict_of status at ≡ verdict_of 0 0
done_at status at p q = cc

steady : (u : UnreadJob) → IsSteady (Unread u)
steady u = record {
  few = λ s found. omega arith;
  two = λ s found h. omega (arith, h);
  decided = λ s found are no_. cc;
  stays = λ s more found fits are no_. cc;
}

module _ (u : UnreadJob) (before after : Option (List ℕ)) (steps steps_after : ℕ) (o : Outcome) (place : o.at ≡ 0) (cheap : steps_after ≤ steps + sum_by frame_cost (frames (Unread u) [])) where
  takes : Takes (Unread u) (Some []) (Some []) before after steps steps_after []
  takes = record { took = refl; fits = omega arith; reach = omega arith; steps = cheap }

  -- its line was written, or a front of it
  streams : Found (Unread u) [] (λ found. IsToldOrCut 0 o.status (output (Unread u) [] found) before after) → StreamRun (Unread u) (Some []) (Some []) before after steps steps_after o.status o.at
  streams found = elim found.holds [
    | inl all ↦ Judged (record {
      octets = [];
      takes = takes;
      within = λ h. omega arith;
      found = record { found = found.found; are = found.are; holds = (done_at o.status o.at all.0 place, inl refl, all.1) };
    })
    | inr cut ↦ Stopped (record {
      octets = [];
      takes = takes;
      told = cut.0;
      found = record { found = found.found; are = found.are; holds = inr (inl refl, cut.1) };
    })
  ]

-- all that is promised of the job, whatever source there is
pub right_unread : (u : UnreadJob) (left before after : Option (List ℕ)) (source sink_before sink_after steps_before steps_after : ℕ) (o : Outcome) (NothingRead NothingWritten : Type 0)
    → UnreadRun u before after sink_before sink_after steps_before steps_after o NothingWritten → NothingRead
    → IsRight (run_of (Some (Unread u)) left left before after source source sink_before sink_after steps_before steps_after o.status o.at) NothingRead NothingWritten
right_unread u left before after source sink_before sink_after steps_before steps_after o NothingRead NothingWritten run nothing = elim run.ended [
  | inl told ↦ right_stream (Unread u) (steady u) left left before after source source sink_before sink_after steps_before steps_after o (streams u before after steps_before steps_after o run.place run.steps told)
      (record {
        source_later = omega arith;
        sink_later = (run.faults).later;
        source = λ h. elim told.holds [ inl all ↦ absurd (omega (arith, h, all.0)) | inr cut ↦ absurd (omega (arith, h, cut.0)) ];
        sink = λ h. ((run.faults).cause h, run.place);
      }) NothingRead NothingWritten (λ none. (nothing, λ h. elim told.holds [ inl all ↦ omega (arith, h, all.0) | inr cut ↦ omega (arith, h, cut.0) ]))
  | inr lacks ↦ without_memory (Unread u) (λ same. let version : u ≡ Version = cc in lacks.0 version) left before after (lacks.1).held source sink_before sink_after (run.faults).later
      steps_before steps_after (omega (arith, (lacks.1).same_steps)) o (lacks.1).told run.place NothingRead NothingWritten nothing (lacks.1).unwritten
]
