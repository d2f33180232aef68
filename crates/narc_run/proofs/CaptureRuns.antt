-- The jobs that read a capture are steady.
use Rattle.std.proofs.Common.{◌≡◌, ℕ, ◌≤◌, Bool, true, false, List, ◌++◌, refl, sym, ap, ◌∙◌, subst, arith}
use Rattle.std.specs.Prelude.{count_by, nat_eq, if◌then◌else◌}
use Rattle.narc_pcap.specs.declared.record.End.{End}
use Rattle.narc_pcap.specs.declared.record.End.TheVariants.{Clean, Torn, Bad}
use Rattle.narc_pcap.specs.Capture.{CaptureView, capture, is_bad}
use Rattle.narc_pcap.proofs.Cuts.{capture-decided}
use Rattle.narc_run.specs.Job.{CaptureJob, Capture, Show, Check, Edit}
use Rattle.narc_run.specs.Findings.{Told, AreTold}
use Rattle.narc_run.specs.Output.{is_refused}
use Rattle.narc_run.specs.Verdict.{end_verdict, records_status}
use Rattle.narc_run.proofs.SteadyJobs.{IsSteady}

-- the statuses of an end
record IsEndStatus (e : End) (status : ℕ) : Type 0 where
  few : status ≤ 3
  two : status ≡ 2 → ⊥
  bad : is_bad e ≡ true → status ≡ 3

end_status : (e : End) (clean : ℕ) → clean ≤ 1 → IsEndStatus e (end_verdict clean e).status
end_status Clean clean few = record { few = omega arith; two = λ h. omega arith; bad = λ h. cc }
end_status (Torn at) clean few = record { few = omega arith; two = λ h. omega arith; bad = λ h. cc }
end_status (Bad at) clean few = record { few = omega arith; two = λ h. omega arith; bad = λ h. refl }

few_statuses : (c : CaptureJob) (told : List Told) → records_status c told ≤ 1
few_statuses Show told = omega arith
few_statuses Check told = at (nat_eq (count_by is_refused told) 0) where
  at : (b : Bool) → (if b then 0 else 1) ≤ 1
  at true = omega arith
  at false = omega arith
few_statuses (Edit way es) told = omega arith

pub steady : (c : CaptureJob) → IsSteady (Capture c)
steady c = record {
  few = λ s found. (end_status (capture s).end (records_status c found.records) (few_statuses c found.records)).few;
  two = λ s found. (end_status (capture s).end (records_status c found.records) (few_statuses c found.records)).two;
  decided = λ s found are bad. (end_status (capture s).end (records_status c found.records) (few_statuses c found.records)).bad bad;
  stays = λ s more found fits are bad.
      let same : capture (s ++ more) ≡ capture s = capture-decided s more bad in
      record {
        are = subst (λ (v : CaptureView). AreTold v.entries found.records) (sym same) are;
        verdict_ = ap (λ (v : CaptureView). end_verdict (records_status c found.records) v.end) same;
        decided_ = ap (λ (v : CaptureView). is_bad v.end) same ∙ bad;
      };
}
