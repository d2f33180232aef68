-- How a job ends whose capture has no header.
use Rattle.std.proofs.Common.{◌≡◌, ℕ, ◌+◌, ◌≤◌, ◌⊎◌, inr, List, [], ◌++◌, length, Option, refl, sym, ap, ◌∙◌, subst, zero-add, arith}
use Rattle.std.specs.Prelude.{IsTrue}
use Rattle.narc_world.specs.declared.error.Failed.{Failed}
use Rattle.narc_world.specs.Outside.{TakesFront, IsEmptyWhereTold, Appends}
use Rattle.narc_pcap.specs.declared.limit.TheConstants.{CAPTURE_LIMIT}
use Rattle.narc_pcap.specs.declared.record.End.{End}
use Rattle.narc_pcap.specs.Capture.{capture, CaptureView, no_header, is_bad}
use Rattle.narc_pcap.specs.Reading.{Reading, Holds, IsFresh, taken}
use Rattle.narc_run.specs.declared.outcome.Outcome.{Outcome}
use Rattle.narc_run.specs.Job.{CaptureJob, Capture}
use Rattle.narc_run.specs.Findings.{AreTold}
use Rattle.narc_run.specs.Output.{capture_body, capture_end, body, output}
use Rattle.narc_run.specs.Verdict.{verdict_of, end_verdict, records_status}
use Rattle.narc_run.specs.Run.{WroteFront}
use Rattle.narc_run.specs.StreamRun.{Takes, StreamRun, Judged, Broken, Stopped}
use Rattle.narc_run.proofs.CaptureSoFar.{found_of, settled_at}

module _ (j : CaptureJob) (fresh now : Reading) (x z a d : Option (List ℕ)) (s : ℕ) (is_fresh : IsFresh fresh) (holds : Holds fresh now x z) (reach : taken now ≤ CAPTURE_LIMIT)
    (end : End) (is : capture now.hand ≡ no_header end) where
  taken_all : holds.pulled ≡ now.hand
  taken_all = sym (holds.hand ∙ ap (λ l. l ++ holds.pulled) is_fresh.0)

  takes_all : Takes (Capture j) x z a d s s now.hand
  takes_all = record {
    took = subst (λ l. TakesFront l x z) taken_all holds.took;
    fits = omega (arith, reach);
    reach = omega (arith, reach);
    steps = omega arith;
  }

  none_told : AreTold (capture now.hand).entries []
  none_told = subst (λ l. AreTold l []) (sym (ap (λ (v : CaptureView). v.entries) is)) (record { same = refl; right = tt })

  none_output : output (Capture j) now.hand (found_of []) ≡ capture_end j [] end
  none_output = ap (λ (v : CaptureView). capture_body j v.header [] ++ capture_end j [] v.end) is

  none_body : body (Capture j) now.hand (found_of []) ≡ []
  none_body = ap (λ (v : CaptureView). capture_body j v.header []) is

  module _ (settled : IsEmptyWhereTold z ⊎ IsTrue (is_bad end)) where
    settles : IsEmptyWhereTold z ⊎ IsTrue (is_bad (capture now.hand).end)
    settles = settled_at z (capture now.hand).end end (ap (λ (v : CaptureView). is_bad v.end) is) settled

    -- the capture has no header
    pub headless_judged : (o : Outcome) → verdict_of o.status o.at ≡ end_verdict (records_status j []) end → Appends (capture_end j [] end) a d → StreamRun (Capture j) x z a d s s o.status o.at
    headless_judged o v wrote = Judged (record {
      octets = now.hand;
      takes = takes_all;
      within = λ h. takes_all.fits;
      found = record {
        found = found_of [];
        are = none_told;
        holds = (v ∙ sym (ap (λ (v : CaptureView). end_verdict (records_status j []) v.end) is), settles, subst (λ l. Appends l a d) (sym none_output) wrote);
      };
    })

    pub headless_stopped : (f : Failed) → WroteFront (capture_end j [] end) a d → StreamRun (Capture j) x z a d s s 6 0
    headless_stopped f wrote = Stopped (record {
      octets = now.hand;
      takes = takes_all;
      told = refl;
      found = record {
        found = found_of [];
        are = none_told;
        holds = inr (settles, subst (λ l. WroteFront l a d) (sym none_output) wrote);
      };
    })

  -- the source failed before the header came
  pub headless_broken : (o : Outcome) → verdict_of o.status o.at ≡ verdict_of 5 (taken now) → Appends [] a d → StreamRun (Capture j) x z a d s s o.status o.at
  headless_broken o v wrote =
      let first : now.place ≡ 0 = holds.place ∙ is_fresh.1 in
      Broken (record {
        octets = now.hand;
        takes = takes_all;
        told = v ∙ ap (verdict_of 5) (ap (λ n. n + length now.hand) first ∙ zero-add (length now.hand));
        found = record {
          found = found_of [];
          are = none_told;
          holds = subst (λ l. Appends l a d) (sym none_body) wrote;
        };
      })
