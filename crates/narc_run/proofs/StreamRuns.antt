-- A job that ends as its code keeps it keeps all that is promised of a run.
use Rattle.std.proofs.Common.{◌≡◌, ◌≢◌, ℕ, ◌+◌, ◌-◌, ◌<◌, ◌≤◌, ◌⊎◌, inl, inr, Bool, List, [], ◌∷◌, ◌++◌, length, take, Option, Some, None, sym, ap, ◌∙◌, subst, arith, append_assoc, append-nil, length-append}
use Rattle.std.specs.Prelude.{IsTrue, sum_by, if◌then◌else◌}
use Rattle.std.proofs.lemmas.List.{take_at, take_all}
use Rattle.narc_bits.proofs.Lists.{take-append-add}
use Rattle.narc_world.specs.Outside.{Rose, TakesFront}
use Rattle.narc_pcap.specs.declared.limit.TheConstants.{CAPTURE_LIMIT}
use Rattle.narc_run.specs.declared.outcome.Outcome.{Outcome}
use Rattle.narc_run.specs.Job.{Job}
use Rattle.narc_run.specs.Findings.{Findings, Found, AreFindings, frames, frame_cost}
use Rattle.narc_run.specs.Verdict.{Verdict, verdict, is_decided}
use Rattle.narc_run.specs.Run.{Run, WhereTold, HasStatusOf, IsDone, IsMalformed, LeavesBody, LeavesFront, PassesLimit, IsRightRun, IsRight, AreCounted, most, left_for, taken, counted}
use Rattle.narc_run.specs.StreamRun.{Takes, Overtakes, Judges, Breaks, Overruns, Stops, StopsBehind, StreamRun, Judged, Broken, Overrun, Stopped, StoppedBehind, run_of}
use Rattle.narc_run.proofs.Jobs.{taken_is}
use Rattle.narc_run.proofs.SteadyJobs.{IsSteady, status_of, statuses, written}

took_of : (j : Job) (x z before after : Option (List ℕ)) (steps_before steps_after status at : ℕ) → StreamRun j x z before after steps_before steps_after status at → (octets : List ℕ) × TakesFront octets x z
took_of j x z before after s0 s1 status at (Judged f) = (f.octets, (f.takes).took)
took_of j x z before after s0 s1 status at (Broken f) = (f.octets, (f.takes).took)
took_of j x z before after s0 s1 status at (Overrun f) = (f.octets ++ (f.takes).octet ∷ [], (f.takes).took)
took_of j x z before after s0 s1 status at (Stopped f) = (f.octets, (f.takes).took)
took_of j x z before after s0 s1 status at (StoppedBehind f) = (f.octets ++ (f.takes).octet ∷ [], (f.takes).took)

module _ (j : Job) (steady : IsSteady j) (left left_after before after : Option (List ℕ)) (source_before source_after sink_before sink_after steps_before steps_after status at : ℕ) where
  abbrev this : Run
  this = run_of (Some j) left left_after before after source_before source_after sink_before sink_after steps_before steps_after status at

  module _ (input rest : List ℕ) where
    abbrev Here : Type 0
    Here = IsRightRun this input rest

    -- octets were taken that are all that counts
    module _ (octets : List ℕ) (takes : Takes j (Some input) (Some rest) before after steps_before steps_after octets) where
      here : taken input rest ≡ octets
      here = taken_is input octets rest takes.took

      counted_here : counted input rest ≡ octets
      counted_here = ap (take CAPTURE_LIMIT) here ∙ take_all CAPTURE_LIMIT octets takes.fits

      front : input ≡ taken input rest ++ rest
      front = takes.took ∙ ap (λ l. l ++ rest) (sym here)

      reach : length (taken input rest) ≤ most j + 1
      reach = omega (arith, ap length here, takes.reach)

      bounded : steps_after ≤ steps_before + sum_by frame_cost (frames j (counted input rest))
      bounded = subst (λ (s : List ℕ). steps_after ≤ steps_before + sum_by frame_cost (frames j s)) (sym counted_here) takes.steps

      -- the status of the whole input is that of its front, where the front is all or decides
      whole_status : (found : Findings) → AreFindings j octets found → (rest ≡ []) ⊎ IsTrue (is_decided j octets found)
          → status ≡ (verdict j octets found).status → HasStatusOf this input rest j
      whole_status found are (inl ended) judged =
          let all : input ≡ octets = takes.took ∙ ap (λ l. octets ++ l) ended ∙ append-nil octets in (
            λ h. record {
              found = found;
              are = subst (λ (s : List ℕ). AreFindings j s found) (sym all) are;
              holds = judged ∙ ap (λ (s : List ℕ). (verdict j s found).status) (sym all);
            },
            λ h. absurd (omega (arith, h, takes.fits, ap length all)),
          )
      whole_status found are (inr decided) judged =
          let k = CAPTURE_LIMIT - length octets in
          let three : status ≡ 3 = judged ∙ steady.decided octets found are decided in
          let size : CAPTURE_LIMIT ≡ length octets + k = omega (arith, takes.fits) in
          let within : take CAPTURE_LIMIT input ≡ octets ++ take k rest = ap (take CAPTURE_LIMIT) takes.took ∙ ap (λ n. take n (octets ++ rest)) size ∙ take-append-add octets rest k in
          let all = steady.stays octets rest found takes.fits are decided in
          let some_ = steady.stays octets (take k rest) found takes.fits are decided in (
            λ h. record {
              found = found;
              are = subst (λ (s : List ℕ). AreFindings j s found) (sym takes.took) all.are;
              holds = judged ∙ ap (λ (v : Verdict). v.status) (sym all.verdict_) ∙ ap (λ (s : List ℕ). (verdict j s found).status) (sym takes.took);
            },
            λ h. record {
              found = found;
              are = subst (λ (s : List ℕ). AreFindings j s found) (sym within) some_.are;
              holds = three ∙ ap (λ (b : Bool). if b then 3 else 7) (sym (ap (λ (s : List ℕ). is_decided j s found) within ∙ some_.decided_));
            },
          )

    right_judged : Judges j (Some input) (Some rest) before after steps_before steps_after status at → Here
    right_judged f =
        let octets = f.octets in
        let found = f.found in
        let e = here octets f.takes in
        let es = counted_here octets f.takes in
        let settled = found.holds.1 in
        let judged : status ≡ (verdict j octets found.found).status = ap (λ (v : Verdict). v.status) found.holds.0 in
        let few = steady.few octets found.found in
        record {
          front = front octets f.takes;
          reach = reach octets f.takes;
          done = λ h. elim settled [
            | inl ended ↦ subst (λ (s : List ℕ). IsDone this input rest j s) (sym e) (
              ended,
              f.within h,
              record { found = found.found; are = found.are; holds = (sym found.holds.0, found.holds.2) },
            )
            | inr decided ↦ absurd (omega (arith, h, judged, steady.decided octets found.found found.are decided))
          ];
          malformed = λ h. subst (λ (s : List ℕ). IsMalformed this input rest j s) (sym es) (record {
            found = found.found;
            are = found.are;
            holds = (
              elim settled [
                | inl ended ↦ inl (ended, omega (arith, (f.takes).fits, ap length e), sym judged ∙ h)
                | inr bad ↦ inr bad
              ],
              ap (λ (v : Verdict). v.at) found.holds.0,
              found.holds.2,
            );
          });
          source_fault = λ h. absurd (omega (arith, h, judged, few));
          sink_fault = λ h. absurd (omega (arith, h, judged, few));
          limit = λ h. absurd (omega (arith, h, judged, few));
          steps = bounded octets f.takes;
          complete = λ s k w. whole_status octets f.takes found.found found.are settled judged;
        }

    right_broken : (status ≡ 5 → Rose source_before source_after) → Breaks j (Some input) (Some rest) before after steps_before steps_after status at → Here
    right_broken source f =
        let octets = f.octets in
        let told = status_of status at 5 (length octets) f.told in
        let place : at ≡ length octets = ap (λ (v : Verdict). v.at) f.told in
        record {
          front = front octets f.takes;
          reach = reach octets f.takes;
          done = λ h. absurd (omega (arith, told, h));
          malformed = λ h. absurd (omega (arith, told, h));
          source_fault = λ h. subst (λ (s : List ℕ). LeavesBody this input rest j s) (sym (counted_here octets f.takes)) (place ∙ ap length (sym (here octets f.takes)), f.found);
          sink_fault = λ h. absurd (omega (arith, told, h));
          limit = λ h. absurd (omega (arith, told, h));
          steps = bounded octets f.takes;
          complete = λ s k w. absurd (s (source told));
        }

    right_stopped : (status ≡ 6 → Rose sink_before sink_after) → Stops j (Some input) (Some rest) before after steps_before steps_after status at → Here
    right_stopped sink f =
        let octets = f.octets in
        let told = f.told in
        record {
          front = front octets f.takes;
          reach = reach octets f.takes;
          done = λ h. absurd (omega (arith, told, h));
          malformed = λ h. absurd (omega (arith, told, h));
          source_fault = λ h. absurd (omega (arith, told, h));
          sink_fault = λ h. subst (λ (s : List ℕ). LeavesFront this input rest j s) (sym (counted_here octets f.takes)) f.found;
          limit = λ h. absurd (omega (arith, told, h));
          steps = bounded octets f.takes;
          complete = λ s k w. absurd (k (sink told));
        }

    -- one octet more than the limit was taken
    module _ (octets : List ℕ) (takes : Overtakes j (Some input) (Some rest) before after steps_before steps_after octets) where
      past : taken input rest ≡ octets ++ takes.octet ∷ []
      past = taken_is input (octets ++ takes.octet ∷ []) rest takes.took

      counted_past : counted input rest ≡ octets
      counted_past = ap (take CAPTURE_LIMIT) past ∙ take_at octets (takes.octet ∷ []) CAPTURE_LIMIT takes.long

      front_past : input ≡ taken input rest ++ rest
      front_past = takes.took ∙ ap (λ l. l ++ rest) (sym past)

      size_past : length (taken input rest) ≡ CAPTURE_LIMIT + 1
      size_past = omega (arith, ap length past, length-append octets (takes.octet ∷ []), takes.long)

      reach_past : length (taken input rest) ≤ most j + 1
      reach_past = omega (arith, size_past, takes.limit)

      counted_input : take CAPTURE_LIMIT input ≡ octets
      counted_input = ap (take CAPTURE_LIMIT) (takes.took ∙ append_assoc octets (takes.octet ∷ []) rest) ∙ take_at octets (takes.octet ∷ rest) CAPTURE_LIMIT takes.long

      long_input : CAPTURE_LIMIT < length input
      long_input = omega (arith, ap length takes.took, length-append (octets ++ takes.octet ∷ []) rest, length-append octets (takes.octet ∷ []), takes.long)

      bounded_past : steps_after ≤ steps_before + sum_by frame_cost (frames j (counted input rest))
      bounded_past = subst (λ (s : List ℕ). steps_after ≤ steps_before + sum_by frame_cost (frames j s)) (sym counted_past) takes.steps

    right_overrun : Overruns j (Some input) (Some rest) before after steps_before steps_after status at → Here
    right_overrun f =
        let octets = f.octets in
        let told = status_of status at 7 CAPTURE_LIMIT f.told in
        let place : at ≡ CAPTURE_LIMIT = ap (λ (v : Verdict). v.at) f.told in
        let size = size_past octets f.takes in
        record {
          front = front_past octets f.takes;
          reach = reach_past octets f.takes;
          done = λ h. absurd (omega (arith, told, h));
          malformed = λ h. absurd (omega (arith, told, h));
          source_fault = λ h. absurd (omega (arith, told, h));
          sink_fault = λ h. absurd (omega (arith, told, h));
          limit = λ h. subst (λ (s : List ℕ). PassesLimit this input rest j s) (sym (counted_past octets f.takes)) (omega (arith, size), place, f.found);
          steps = bounded_past octets f.takes;
          complete = λ s k w. (
            λ h. absurd (omega (arith, h, long_input octets f.takes)),
            λ h. subst (λ (s : List ℕ). Found j s (λ found. status ≡ (if is_decided j s found then 3 else 7))) (sym (counted_input octets f.takes)) (record {
              found = (f.found).found;
              are = (f.found).are;
              holds = told ∙ ap (λ (b : Bool). if b then 3 else 7) (sym (f.found).holds.0);
            }),
          );
        }

    right_behind : (status ≡ 6 → Rose sink_before sink_after) → StopsBehind j (Some input) (Some rest) before after steps_before steps_after status at → Here
    right_behind sink f =
        let octets = f.octets in
        let told = f.told in
        record {
          front = front_past octets f.takes;
          reach = reach_past octets f.takes;
          done = λ h. absurd (omega (arith, told, h));
          malformed = λ h. absurd (omega (arith, told, h));
          source_fault = λ h. absurd (omega (arith, told, h));
          sink_fault = λ h. subst (λ (s : List ℕ). LeavesFront this input rest j s) (sym (counted_past octets f.takes)) (record {
            found = (f.found).found;
            are = (f.found).are;
            holds = inl (f.found).holds;
          });
          limit = λ h. absurd (omega (arith, told, h));
          steps = bounded_past octets f.takes;
          complete = λ s k w. absurd (k (sink told));
        }

  module _ (source : status ≡ 5 → Rose source_before source_after) (sink : status ≡ 6 → Rose sink_before sink_after) where
    right_by : (input rest : List ℕ) → StreamRun j (Some input) (Some rest) before after steps_before steps_after status at → IsRightRun this input rest
    right_by input rest (Judged f) = right_judged input rest f
    right_by input rest (Broken f) = right_broken input rest source f
    right_by input rest (Overrun f) = right_overrun input rest f
    right_by input rest (Stopped f) = right_stopped input rest sink f
    right_by input rest (StoppedBehind f) = right_behind input rest sink f

    -- where the input is told
    right : (x z : Option (List ℕ)) → StreamRun j x z before after steps_before steps_after status at → WhereTold x z (IsRightRun this)
    right (Some input) (Some rest) run = right_by input rest run
    right (Some input) None run = (took_of j (Some input) None before after steps_before steps_after status at run).1
    right None z run = tt

-- all that is promised of a run
pub right_stream : (j : Job) → IsSteady j → (left left_after before after : Option (List ℕ)) (source_before source_after sink_before sink_after steps_before steps_after : ℕ) (o : Outcome)
    → StreamRun j (left_for (Some j) left) (left_for (Some j) left_after) before after steps_before steps_after o.status o.at
    → AreCounted o.status o.at source_before source_after sink_before sink_after → (NothingRead NothingWritten : Type 0) → (most j ≡ 0 → NothingRead × (o.status ≢ 5))
    → IsRight (run_of (Some j) left left_after before after source_before source_after sink_before sink_after steps_before steps_after o.status o.at) NothingRead NothingWritten
right_stream j steady left left_after before after source_before source_after sink_before sink_after steps_before steps_after o run faults NothingRead NothingWritten nothing =
    let x = left_for (Some j) left in
    let z = left_for (Some j) left_after in
    let no = statuses j steady x z before after steps_before steps_after o.status o.at run in
    record {
      status = no.few;
      usage = no.two;
      limit = no.limit;
      memory = λ h. absurd (no.four h);
      faults = faults;
      unread = nothing;
      writing = written j x z before after steps_before steps_after o.status o.at run;
      octets = right j steady left left_after before after source_before source_after sink_before sink_after steps_before steps_after o.status o.at faults.source (λ h. (faults.sink h).0) x z run;
    }
