-- How a job ends for its input and a sink: what its code keeps, from which all that is promised of a run follows. The job's input is what
-- the source tells; it is told, and nothing, for a job that reads nothing.
use Rattle.std.specs.Prelude.{◌≡◌, ℕ, ◌+◌, ◌≤◌, ◌⊎◌, List, [], ◌∷◌, ◌++◌, length, sum_by, IsTrue, IsFalse, Option, Result, Ok, Err}
use Rattle.narc_pcap.specs.declared.limit.TheConstants.{CAPTURE_LIMIT}
use Rattle.narc_world.specs.declared.error.Failed.{Failed}
use Rattle.narc_world.specs.Outside.{TakesFront, IsEmptyWhereTold, Appends}
use Rattle.narc_run.specs.declared.outcome.Outcome.{Outcome}
use Rattle.narc_run.specs.Job.{Job}
use Rattle.narc_run.specs.Findings.{Findings, Found, frames, frame_cost}
use Rattle.narc_run.specs.Output.{body, output}
use Rattle.narc_run.specs.Verdict.{Verdict, verdict, verdict_of, is_decided}
use Rattle.narc_run.specs.Run.{Run, WroteFront, most}

-- these octets were pushed and the outcome is this, or the sink failed and a front of them was pushed
abbrev pub IsShown : Result Outcome Failed → (octets : List ℕ) → Verdict → (held_before held_after : Option (List ℕ)) → Type 0
IsShown (Ok outcome) octets v before after = (verdict_of outcome.status outcome.at ≡ v) × Appends octets before after
IsShown (Err e) octets v before after = WroteFront octets before after

module _ (j : Job) (left_before left_after held_before held_after : Option (List ℕ)) (steps_before steps_after : ℕ) where
  -- octets were taken, and their frames cost no more steps than this
  pub record Takes (octets : List ℕ) : Type 0 where
    pub took : TakesFront octets left_before left_after
    pub fits : length octets ≤ CAPTURE_LIMIT
    pub reach : length octets ≤ most j + 1
    pub steps : steps_after ≤ steps_before + sum_by frame_cost (frames j octets)

  -- as many octets were taken as a capture may have, and one more
  pub record Overtakes (octets : List ℕ) : Type 0 where
    pub octet : ℕ
    pub took : TakesFront (octets ++ octet ∷ []) left_before left_after
    pub long : length octets ≡ CAPTURE_LIMIT
    pub limit : most j ≡ CAPTURE_LIMIT
    pub steps : steps_after ≤ steps_before + sum_by frame_cost (frames j octets)

  -- the input ended, or its octets decide
  abbrev pub IsSettled : (octets : List ℕ) → Findings → Type 0
  IsSettled octets found = IsEmptyWhereTold left_after ⊎ IsTrue (is_decided j octets found)

  module _ (status at : ℕ) where
    -- the input is settled, and all was written
    pub record Judges : Type 0 where
      pub octets : List ℕ
      pub takes : Takes octets
      pub within : status ≤ 1 → length octets ≤ most j
      pub found : Found j octets (λ found. (verdict_of status at ≡ verdict j octets found) × IsSettled octets found × Appends (output j octets found) held_before held_after)

    -- the source failed, and what is whole was written
    pub record Breaks : Type 0 where
      pub octets : List ℕ
      pub takes : Takes octets
      pub told : verdict_of status at ≡ verdict_of 5 (length octets)
      pub found : Found j octets (λ found. Appends (body j octets found) held_before held_after)

    -- the limit was passed, and what is whole within it was written
    pub record Overruns : Type 0 where
      pub octets : List ℕ
      pub takes : Overtakes octets
      pub told : verdict_of status at ≡ verdict_of 7 CAPTURE_LIMIT
      pub found : Found j octets (λ found. IsFalse (is_decided j octets found) × Appends (body j octets found) held_before held_after)

    -- the sink failed: a front was written of what is whole in the octets, or of their output
    pub record Stops : Type 0 where
      pub octets : List ℕ
      pub takes : Takes octets
      pub told : status ≡ 6
      pub found : Found j octets (λ found. WroteFront (body j octets found) held_before held_after ⊎ (IsSettled octets found × WroteFront (output j octets found) held_before held_after))

    -- the sink failed behind the limit
    pub record StopsBehind : Type 0 where
      pub octets : List ℕ
      pub takes : Overtakes octets
      pub told : status ≡ 6
      pub found : Found j octets (λ found. WroteFront (body j octets found) held_before held_after)

    pub data StreamRun : Type 0 where
      Judged : Judges → StreamRun
      Broken : Breaks → StreamRun
      Overrun : Overruns → StreamRun
      Stopped : Stops → StreamRun
      StoppedBehind : StopsBehind → StreamRun

  -- by an answer; a sink that failed ends the run with status 6 at 0
  abbrev pub EndsStream : Result Outcome Failed → Type 0
  EndsStream (Ok outcome) = StreamRun outcome.status outcome.at
  EndsStream (Err e) = StreamRun 6 0

-- a run, by what is known of source, sink and steps before and after it
abbrev pub run_of : (asked : Option Job) → (left_before left_after held_before held_after : Option (List ℕ)) → (source_before source_after sink_before sink_after steps_before steps_after status at : ℕ) → Run
run_of asked left_before left_after held_before held_after source_before source_after sink_before sink_after steps_before steps_after status at = record {
  asked = asked;
  left_before = left_before;
  left_after = left_after;
  held_before = held_before;
  held_after = held_after;
  source_before = source_before;
  source_after = source_after;
  sink_before = sink_before;
  sink_after = sink_after;
  steps_before = steps_before;
  steps_after = steps_after;
  status = status;
  at = at;
}
