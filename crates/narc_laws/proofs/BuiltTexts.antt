-- A run of `build` is done exactly where `show` writes its input.
use Rattle.std.proofs.Common.{◌≡◌, ◌≢◌, ℕ, ◌≤◌, Bool, true, false, List, ◌++◌, length, Option, Some, refl, sym, ap, ◌∙◌, subst, arith, append-nil}
use Rattle.std.specs.Prelude.{IfSome, MatchOption, if◌then◌else◌}
use Rattle.narc_world.specs.Outside.{Rose}
use Rattle.narc_pcap.specs.declared.limit.TheConstants.{CAPTURE_LIMIT}
use Rattle.narc_build.specs.declared.ending.Built.TheVariants as answer
use Rattle.narc_build.specs.BuiltCapture.{built_capture}
use Rattle.narc_build.specs.CaptureFront.{IsFrontOf, front_text, is_all}
use Rattle.narc_run.specs.Job.{Job, Build}
use Rattle.narc_run.specs.Findings.{Found}
use Rattle.narc_run.specs.Output.{output}
use Rattle.narc_run.specs.Verdict.{Verdict, verdict, verdict_of, ending_verdict}
use Rattle.narc_run.specs.Run.{Run, Wrote, IsDone, HasStatusOf, IsRightRun, taken}
use Rattle.narc_laws.specs.CaptureTexts.{IsShownFor, IsShownText, IsBuiltWhereShown, ShownTextsAreBuilt}
use Rattle.narc_laws.proofs.Shown.{shown_for}
use Rattle.narc_laws.proofs.Texts.{text_of_shown}
use Rattle.narc_laws.proofs.WholeTexts.{whole_text, text_is_all}

abbrev ending_by : (all : Bool) → (place : ℕ) → Verdict
ending_by all place = ending_verdict (if all then answer.Done else answer.Bad place)

all_where_done : (all : Bool) (place status at : ℕ) → ending_by all place ≡ verdict_of status at → status ≡ 0 → all ≡ true
all_where_done true place status at e done = refl
all_where_done false place status at e done =
    let three : 3 ≡ status = ap (λ (v : Verdict). v.status) e in
    absurd (omega (arith, three, done))

module _ (r : Run) (text rest : List ℕ) (right : IsRightRun r text rest) (asked : r.asked ≡ Some Build) where
  shown_where_done : r.status ≡ 0 → (s : List ℕ) × Wrote r s × IsShownFor s text
  shown_where_done done =
      let octets = taken text rest in
      let whole : IsDone r text rest Build octets = subst (λ (o : Option Job). IfSome o (λ j. IsDone r text rest j octets)) asked (right.done (omega (arith, done))) in
      let read : octets ≡ text = sym (right.front ∙ ap (λ l. octets ++ l) whole.0 ∙ append-nil octets) in
      let is : Found Build octets (λ found. (verdict Build octets found ≡ verdict_of r.status r.at) × Wrote r (output Build octets found)) = whole.2 in
      let f = (is.found).text in
      let front : IsFrontOf octets f = is.are in
      let made = whole_text octets f front (all_where_done (is_all f octets) (length (front_text f)) r.status r.at (is.holds).0 done) in
      (built_capture made.text, subst (Wrote r) made.made (is.holds).1, shown_for text made.text made.valid (sym read ∙ made.is))

  done_where_shown : (Rose r.source_before r.source_after → ⊥) → (Rose r.sink_before r.sink_after → ⊥) → r.status ≢ 4 → length text ≤ CAPTURE_LIMIT → IsShownText text → r.status ≡ 0
  done_where_shown source sink memory few shown =
      let complete : HasStatusOf r text rest Build = subst (λ (o : Option Job). MatchOption o (r.status ≡ 2) (HasStatusOf r text rest)) asked (right.complete source sink memory) in
      let is : Found Build text (λ found. r.status ≡ (verdict Build text found).status) = complete.0 few in
      let f = (is.found).text in
      let all = text_is_all text f is.are (text_of_shown text shown) in
      is.holds ∙ ap (λ b. (ending_by b (length (front_text f))).status) all

  pub built_where_shown : IsBuiltWhereShown r text
  built_where_shown = record { done = shown_where_done; taken = done_where_shown }
