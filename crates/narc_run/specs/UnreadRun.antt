-- How a run ends for a sink that reads nothing.
use Rattle.std.specs.Prelude.{◌≡◌, ◌≢◌, ℕ, ◌+◌, ◌≤◌, ◌⊎◌, List, [], sum_by, Option}
use Rattle.narc_world.specs.Outside.{Appends, CountsFaults}
use Rattle.narc_run.specs.declared.outcome.Outcome.{Outcome}
use Rattle.narc_run.specs.Job.{UnreadJob, Unread, Version}
use Rattle.narc_run.specs.Findings.{Found, frames, frame_cost}
use Rattle.narc_run.specs.Output.{output, usage_line}
use Rattle.narc_run.specs.Run.{WroteFront}

-- all was written, and this is the status, or the sink failed and a front was
abbrev pub IsToldOrCut : (well status : ℕ) → List ℕ → (held_before held_after : Option (List ℕ)) → Type 0
IsToldOrCut well status octets before after = ((status ≡ well) × Appends octets before after) ⊎ ((status ≡ 6) × WroteFront octets before after)

-- there was no memory, and sink and steps are as they were
pub record Lacks (held_before held_after : Option (List ℕ)) (steps_before steps_after status : ℕ) (NothingWritten : Type 0) : Type 0 where
  pub told : status ≡ 4
  pub held : held_after ≡ held_before
  pub same_steps : steps_after ≡ steps_before
  pub unwritten : NothingWritten

-- a job that reads nothing
pub record UnreadRun (u : UnreadJob) (held_before held_after : Option (List ℕ)) (sink_before sink_after steps_before steps_after : ℕ) (o : Outcome) (NothingWritten : Type 0) : Type 0 where
  pub place : o.at ≡ 0
  pub faults : CountsFaults (λ rose. o.status ≡ 6 → rose) sink_before sink_after
  pub steps : steps_after ≤ steps_before + sum_by frame_cost (frames (Unread u) [])
  pub ended : Found (Unread u) [] (λ found. IsToldOrCut 0 o.status (output (Unread u) [] found) held_before held_after)
      ⊎ ((u ≢ Version) × Lacks held_before held_after steps_before steps_after o.status NothingWritten)

-- words that are no job
pub record UsageRun (held_before held_after : Option (List ℕ)) (sink_before sink_after : ℕ) (o : Outcome) : Type 0 where
  pub place : o.at ≡ 0
  pub faults : CountsFaults (λ rose. o.status ≡ 6 → rose) sink_before sink_after
  pub told : IsToldOrCut 2 o.status usage_line held_before held_after
