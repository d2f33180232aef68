-- Runs keep what is promised of them without memory, and for words that are no job.
use Rattle.std.proofs.Common.{◌≡◌, ◌≢◌, ℕ, ◌≤◌, inl, inr, List, [], ◌++◌, length, take, Option, Some, None, refl, sym, ap, ◌∙◌, arith}
use Rattle.narc_run.specs.declared.outcome.Outcome.{Outcome}
use Rattle.narc_run.specs.Job.{Job, Unread, Version}
use Rattle.narc_run.specs.Output.{usage_line}
use Rattle.narc_run.specs.Run.{Run, IsRightRun, IsRight, WhereTold, left_for}
use Rattle.narc_run.specs.StreamRun.{run_of}
use Rattle.narc_run.specs.UnreadRun.{UsageRun}
use Rattle.narc_run.proofs.Jobs.{taken_is, Appends-same}

-- nothing was taken
where_told : (P : List ℕ → List ℕ → Type 0) → ((input : List ℕ) → P input input) → (left : Option (List ℕ)) → WhereTold left left P
where_told P each (Some input) = each input
where_told P each None = tt

module _ (j : Job) (takes : j ≢ Unread Version)
    (left before after : Option (List ℕ)) (same : after ≡ before) (source sink_before sink_after : ℕ) (later : sink_before ≤ sink_after) (steps_before steps_after : ℕ) (few : steps_after ≤ steps_before)
    (o : Outcome) (four : o.status ≡ 4) (place : o.at ≡ 0) where
  abbrev unmet : Run
  unmet = run_of (Some j) left left before after source source sink_before sink_after steps_before steps_after o.status o.at

  told : (input : List ℕ) → IsRightRun unmet input input
  told input =
      let nothing = taken_is input [] input refl in
      record {
        front = sym (ap (λ l. l ++ input) nothing);
        reach = omega (arith, ap length nothing);
        done = λ h. absurd (omega (arith, four, h));
        malformed = λ h. absurd (omega (arith, four, h));
        source_fault = λ h. absurd (omega (arith, four, h));
        sink_fault = λ h. absurd (omega (arith, four, h));
        limit = λ h. absurd (omega (arith, four, h));
        steps = omega (arith, few);
        complete = λ s k memory. absurd (memory four);
      }

  -- without memory
  pub without_memory : (NothingRead NothingWritten : Type 0) → NothingRead → NothingWritten → IsRight unmet NothingRead NothingWritten
  without_memory NothingRead NothingWritten unread unwritten = record {
    status = omega (arith, four);
    usage = λ h. omega (arith, four, h);
    limit = λ h. absurd (omega (arith, four, h));
    memory = λ h. (takes, place, unread, unwritten);
    faults = record {
      source_later = omega arith;
      sink_later = later;
      source = λ h. absurd (omega (arith, four, h));
      sink = λ h. absurd (omega (arith, four, h));
    };
    unread = λ none. (unread, λ h. omega (arith, four, h));
    writing = ([], Appends-same before after same);
    octets = where_told (IsRightRun unmet) told (left_for (Some j) left);
  }

-- the same, where sink and steps are as they were
pub lacking : (j : Job) → j ≢ Unread Version → (left held : Option (List ℕ)) (source sink steps : ℕ) (o : Outcome) → o ≡ record { status = 4; at = 0 } → (NothingRead NothingWritten : Type 0) → NothingRead → NothingWritten
    → IsRight (run_of (Some j) left left held held source source sink sink steps steps o.status o.at) NothingRead NothingWritten
lacking j takes left held source sink steps o e NothingRead NothingWritten unread unwritten =
    without_memory j takes left held held refl source sink sink (omega arith) steps steps (omega arith) o (ap (λ (o : Outcome). o.status) e) (ap (λ (o : Outcome). o.at) e) NothingRead NothingWritten unread unwritten

-- words that are no job
module _ (left before after : Option (List ℕ)) (source sink_before sink_after steps : ℕ) (o : Outcome) (run : UsageRun before after sink_before sink_after o) where
  abbrev unasked : Run
  unasked = run_of None left left before after source source sink_before sink_after steps steps o.status o.at

  -- no other status
  neither : (n : ℕ) → n ≢ 2 → n ≢ 6 → o.status ≢ n
  neither n usage failed h = elim run.told [ inl told ↦ usage (sym h ∙ told.0) | inr cut ↦ failed (sym h ∙ cut.0) ]

  usage_told : IsRightRun unasked [] []
  usage_told = record {
    front = refl;
    reach = tt;
    done = λ h. tt;
    malformed = λ h. absurd (neither 3 (λ e. omega arith) (λ e. omega arith) h);
    source_fault = λ h. absurd (neither 5 (λ e. omega arith) (λ e. omega arith) h);
    sink_fault = λ h. tt;
    limit = λ h. tt;
    steps = tt;
    complete = λ s well memory. elim run.told [ inl told ↦ told.0 | inr cut ↦ absurd (well ((run.faults).cause cut.0)) ];
  }

  pub right_usage : (NothingRead NothingWritten : Type 0) → NothingRead → IsRight unasked NothingRead NothingWritten
  right_usage NothingRead NothingWritten nothing = record {
    status = elim run.told [ inl told ↦ omega (arith, told.0) | inr cut ↦ omega (arith, cut.0) ];
    usage = (elim run.told [ inl told ↦ inl (told.0, run.place, told.1) | inr cut ↦ inr cut ], refl);
    limit = λ h. absurd (neither 7 (λ e. omega arith) (λ e. omega arith) h);
    memory = λ h. absurd (neither 4 (λ e. omega arith) (λ e. omega arith) h);
    faults = record {
      source_later = omega arith;
      sink_later = (run.faults).later;
      source = λ h. absurd (neither 5 (λ e. omega arith) (λ e. omega arith) h);
      sink = λ h. ((run.faults).cause h, run.place);
    };
    unread = nothing;
    writing = elim run.told [ inl told ↦ (usage_line, told.1) | inr cut ↦ (take (cut.1).0 usage_line, (cut.1).1) ];
    octets = usage_told;
  }
