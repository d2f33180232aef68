-- Which statuses a job ends with, and that it wrote something.
use Rattle.std.proofs.Common.{◌≡◌, ◌≢◌, ℕ, ◌+◌, ◌-◌, ◌≤◌, inl, inr, true, List, ◌++◌, length, take, Option, sym, ap, ◌∙◌, arith}
use Rattle.std.specs.Prelude.{IsTrue}
use Rattle.narc_world.specs.Outside.{Appends}
use Rattle.narc_pcap.specs.declared.limit.TheConstants.{CAPTURE_LIMIT}
use Rattle.narc_run.specs.Job.{Job}
use Rattle.narc_run.specs.Findings.{Findings, AreFindings}
use Rattle.narc_run.specs.Output.{body, output}
use Rattle.narc_run.specs.Verdict.{Verdict, verdict, verdict_of, is_decided}
use Rattle.narc_run.specs.Run.{WroteFront, most}
use Rattle.narc_run.specs.StreamRun.{StreamRun, Judged, Broken, Overrun, Stopped, StoppedBehind}

-- what was found of octets that decide is found of all octets that they begin
pub record Stays (j : Job) (s more : List ℕ) (found : Findings) : Type 0 where
  pub are : AreFindings j (s ++ more) found
  pub verdict_ : verdict j (s ++ more) found ≡ verdict j s found
  pub decided_ : is_decided j (s ++ more) found ≡ true

-- the statuses of a job's verdicts, and that what is decided stays
pub record IsSteady (j : Job) : Type 0 where
  pub few : (s : List ℕ) (found : Findings) → (verdict j s found).status ≤ 3
  pub two : (s : List ℕ) (found : Findings) → (verdict j s found).status ≢ 2
  pub decided : (s : List ℕ) (found : Findings) → AreFindings j s found → IsTrue (is_decided j s found) → (verdict j s found).status ≡ 3
  pub stays : (s more : List ℕ) (found : Findings) → length s ≤ CAPTURE_LIMIT → AreFindings j s found → IsTrue (is_decided j s found) → Stays j s more found

-- the statuses that a run of the job does not have
pub record Statuses (j : Job) (status : ℕ) : Type 0 where
  pub few : status ≤ 7
  pub two : status ≢ 2
  pub four : status ≢ 4
  pub limit : status ≡ 7 → most j ≡ CAPTURE_LIMIT

by_status : (j : Job) (n : ℕ) {status : ℕ} → status ≡ n → n ≤ 6 → n ≢ 2 → n ≢ 4 → Statuses j status
by_status j n told few two four = record {
  few = omega (arith, told, few);
  two = λ h. two (sym told ∙ h);
  four = λ h. four (sym told ∙ h);
  limit = λ h. absurd (omega (arith, h, told, few));
}

pub status_of : (status at status_ at_ : ℕ) → verdict_of status at ≡ verdict_of status_ at_ → status ≡ status_
status_of status at status_ at_ e = ap (λ (v : Verdict). v.status) e

-- something was written
front_of : (octets : List ℕ) (before after : Option (List ℕ)) → WroteFront octets before after → (written : List ℕ) × Appends written before after
front_of octets before after cut = (take cut.0 octets, cut.1)

pub written : (j : Job) (x z before after : Option (List ℕ)) (steps_before steps_after status at : ℕ) → StreamRun j x z before after steps_before steps_after status at → (octets : List ℕ) × Appends octets before after
written j x z before after s0 s1 status at (Judged f) = (output j f.octets (f.found).found, (f.found).holds.2)
written j x z before after s0 s1 status at (Broken f) = (body j f.octets (f.found).found, (f.found).holds)
written j x z before after s0 s1 status at (Overrun f) = (body j f.octets (f.found).found, (f.found).holds.1)
written j x z before after s0 s1 status at (Stopped f) = elim (f.found).holds [
  | inl cut ↦ front_of (body j f.octets (f.found).found) before after cut
  | inr cut ↦ front_of (output j f.octets (f.found).found) before after cut.1
]
written j x z before after s0 s1 status at (StoppedBehind f) = front_of (body j f.octets (f.found).found) before after (f.found).holds

pub statuses : (j : Job) → IsSteady j → (x z before after : Option (List ℕ)) (steps_before steps_after status at : ℕ) → StreamRun j x z before after steps_before steps_after status at → Statuses j status
statuses j steady x z before after s0 s1 status at (Judged f) =
    let judged : status ≡ (verdict j f.octets (f.found).found).status = ap (λ (v : Verdict). v.status) (f.found).holds.0 in
    let few = steady.few f.octets (f.found).found in
    record {
      few = omega (arith, judged, few);
      two = λ h. steady.two f.octets (f.found).found (sym judged ∙ h);
      four = λ h. omega (arith, h, judged, few);
      limit = λ h. absurd (omega (arith, h, judged, few));
    }
statuses j steady x z before after s0 s1 status at (Broken f) = by_status j 5 (status_of status at 5 (length f.octets) f.told) (omega arith) (λ h. omega arith) (λ h. omega arith)
statuses j steady x z before after s0 s1 status at (Overrun f) =
    let told = status_of status at 7 CAPTURE_LIMIT f.told in
    record { few = omega (arith, told); two = λ h. omega (arith, h, told); four = λ h. omega (arith, h, told); limit = λ h. (f.takes).limit }
statuses j steady x z before after s0 s1 status at (Stopped f) = by_status j 6 f.told (omega arith) (λ h. omega arith) (λ h. omega arith)
statuses j steady x z before after s0 s1 status at (StoppedBehind f) = by_status j 6 f.told (omega arith) (λ h. omega arith) (λ h. omega arith)
