-- The job `build` is steady, and ends as the making of a capture ends.
use Rattle.std.proofs.Common.{◌≡◌, ℕ, ◌≤◌, inl, Bool, true, false, List, length, Option, Result, Ok, Err, refl, ap, ◌∙◌, arith}
use Rattle.std.specs.Prelude.{OnErr, if◌then◌else◌}
use Rattle.narc_world.specs.declared.error.Failed.{Failed}
use Rattle.narc_world.specs.Outside.{CountsFaults}
use Rattle.narc_build.specs.declared.ending.Built.{Built}
use Rattle.narc_build.specs.declared.ending.Built.TheVariants as answer
use Rattle.narc_build.specs.Building.{BuildRun, SourceFault, text_ending}
use Rattle.narc_build.specs.Building as building
use Rattle.narc_build.specs.CaptureFront.{TextFront, front_text, is_all}
use Rattle.narc_build.proofs.TextStays.{broken_ending, stays}
use Rattle.narc_run.specs.Job.{Build}
use Rattle.narc_run.specs.Findings.{Findings}
use Rattle.narc_run.specs.Verdict.{Verdict, verdict_of, ending_verdict}
use Rattle.narc_run.specs.Run.{AreCounted}
use Rattle.narc_run.specs.StreamRun.{Takes, Overtakes, StreamRun, Judged, Broken, Overrun, Stopped, StoppedBehind}
use Rattle.narc_run.proofs.FrameAnswers.{no_findings}
use Rattle.narc_run.proofs.SteadyJobs.{IsSteady}

abbrev by : (whole : Bool) → (place : ℕ) → Verdict
by whole place = ending_verdict (if whole then answer.Done else answer.Bad place)

few_by : (whole : Bool) (place : ℕ) → (by whole place).status ≤ 3
few_by true place = omega arith
few_by false place = omega arith

two_by : (whole : Bool) (place : ℕ) → (by whole place).status ≡ 2 → ⊥
two_by true place h = absurd (omega (arith, h))
two_by false place h = absurd (omega (arith, h))

pub steady : IsSteady Build
steady = record {
  few = λ s found. few_by (is_all found.text s) (length (front_text found.text));
  two = λ s found. two_by (is_all found.text s) (length (front_text found.text));
  decided = λ s found are broken. ap (λ (ending : Built). (ending_verdict ending).status) (broken_ending s found.text are broken);
  stays = λ s more found fits are broken.
      let still = stays found.text s more fits are broken in
      record { are = still.front; verdict_ = ap ending_verdict still.same; decided_ = still.decided };
}

-- the verdict of an answer
abbrev pub answer_verdict : Result Built Failed → Verdict
answer_verdict (Ok ending) = ending_verdict ending
answer_verdict (Err e) = verdict_of 6 0

abbrev text_found : TextFront → Findings
text_found f = record no_findings { text = f }

module _ (x z a d : Option (List ℕ)) (steps : ℕ) where
  takes : (octets : List ℕ) (f : TextFront) → building.Takes x z a d octets f → Takes Build x z a d steps steps octets
  takes octets f t = record { took = t.took; fits = t.fits; reach = omega (arith, t.fits); steps = omega arith }

  overtakes : (octets : List ℕ) (f : TextFront) → building.Overtakes x z a d octets f → Overtakes Build x z a d steps steps octets
  overtakes octets f t = record { octet = t.octet; took = t.took; long = t.long; limit = refl; steps = omega arith }

  pub ends : (r : Result Built Failed) → BuildRun x z a d r → (status at : ℕ) → verdict_of status at ≡ answer_verdict r → StreamRun Build x z a d steps steps status at
  ends r (building.Judged ending j) status at is = Judged (record {
    octets = j.octets;
    takes = takes j.octets j.front j.takes;
    within = λ h. (j.takes).fits;
    found = record { found = text_found j.front; are = (j.takes).front; holds = (is ∙ ap ending_verdict j.told, j.settled, j.wrote) };
  })
  ends r (building.Broken ending b) status at is = Broken (record {
    octets = b.octets;
    takes = takes b.octets b.front b.takes;
    told = is ∙ ap ending_verdict b.told;
    found = record { found = text_found b.front; are = (b.takes).front; holds = b.wrote };
  })
  ends r (building.Overrun ending o) status at is = Overrun (record {
    octets = o.octets;
    takes = overtakes o.octets o.front o.takes;
    told = is ∙ ap ending_verdict o.told;
    found = record { found = text_found o.front; are = (o.takes).front; holds = (o.undecided, o.wrote) };
  })
  ends r (building.Stopped e s) status at is = Stopped (record {
    octets = s.octets;
    takes = takes s.octets s.front s.takes;
    told = ap (λ (v : Verdict). v.status) is;
    found = record { found = text_found s.front; are = (s.takes).front; holds = inl s.wrote };
  })
  ends r (building.StoppedBehind e s) status at is = StoppedBehind (record {
    octets = s.octets;
    takes = overtakes s.octets s.front s.takes;
    told = ap (λ (v : Verdict). v.status) is;
    found = record { found = text_found s.front; are = (s.takes).front; holds = s.wrote };
  })

-- faults come only where they were counted
pub counted : (r : Result Built Failed) (status at source_before source_after sink_before sink_after : ℕ) → verdict_of status at ≡ answer_verdict r
    → CountsFaults (SourceFault r) source_before source_after → CountsFaults (OnErr r) sink_before sink_after → AreCounted status at source_before source_after sink_before sink_after
counted (Ok ending) status at source_before source_after sink_before sink_after is source sink = by_ending ending is source where
  by_ending : (ending : Built) → verdict_of status at ≡ ending_verdict ending → CountsFaults (SourceFault (Ok ending)) source_before source_after → AreCounted status at source_before source_after sink_before sink_after
  by_ending answer.Done e faults =
      let told : status ≡ 0 = ap (λ (v : Verdict). v.status) e in
      record { source_later = faults.later; sink_later = sink.later; source = λ h. absurd (omega (arith, h, told)); sink = λ h. absurd (omega (arith, h, told)) }
  by_ending (answer.Bad place) e faults =
      let told : status ≡ 3 = ap (λ (v : Verdict). v.status) e in
      record { source_later = faults.later; sink_later = sink.later; source = λ h. absurd (omega (arith, h, told)); sink = λ h. absurd (omega (arith, h, told)) }
  by_ending (answer.ReadFault taken) e faults =
      let told : status ≡ 5 = ap (λ (v : Verdict). v.status) e in
      record { source_later = faults.later; sink_later = sink.later; source = λ h. faults.cause; sink = λ h. absurd (omega (arith, h, told)) }
  by_ending answer.Long e faults =
      let told : status ≡ 7 = ap (λ (v : Verdict). v.status) e in
      record { source_later = faults.later; sink_later = sink.later; source = λ h. absurd (omega (arith, h, told)); sink = λ h. absurd (omega (arith, h, told)) }
counted (Err f) status at source_before source_after sink_before sink_after is source sink =
    let told : status ≡ 6 = ap (λ (v : Verdict). v.status) is in
    record {
      source_later = source.later;
      sink_later = sink.later;
      source = λ h. absurd (omega (arith, h, told));
      sink = λ h. (sink.cause, ap (λ (v : Verdict). v.at) is);
    }
