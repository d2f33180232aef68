-- What the walk over a capture asks of a visitor. Saw header told: it came behind this header and these records.
use Rattle.std.specs.Prelude.{◌≡◌, ℕ, ◌<◌, List, [], ◌∷◌, ◌++◌, length, Option, Some, Result}
use Rattle.narc_world.specs.declared.error.Failed.{Failed}
use Rattle.narc_packet.specs.Answer.{Answer}
use Rattle.narc_pcap.specs.declared.limit.TheConstants.{CAPTURE_LIMIT}
use Rattle.narc_pcap.specs.declared.header.Header.{Header}
use Rattle.narc_pcap.specs.declared.record.End.{End}
use Rattle.narc_pcap.specs.declared.record.End.TheVariants.{Clean, Torn, Bad}
use Rattle.narc_pcap.specs.declared.reader.Next.{Next}
use Rattle.narc_pcap.specs.declared.reader.Next.TheVariants.{Rec, ReadFault, Long}
use Rattle.narc_pcap.specs.declared.reader.Next.TheVariants as next
use Rattle.narc_pcap.specs.Capture.{Entry}
use Rattle.narc_text.specs.Printing.{IsPrinted}
use Rattle.narc_run.specs.declared.outcome.Outcome.{Outcome}
use Rattle.narc_run.specs.Job.{CaptureJob}
use Rattle.narc_run.specs.Findings.{Told, IsEntryAnswer}
use Rattle.narc_run.specs.Output.{record_text, capture_end}
use Rattle.narc_run.specs.Verdict.{end_verdict, records_status, verdict_of}
use Rattle.narc_run.specs.StreamRun.{IsShown}

abbrev pub told_as : Entry → Option Answer → Told
told_as entry answer = record { entry = entry; answer = answer }

-- a header was seen, and fewer records than a capture can have
pub record HasRoom (Saw : Option Header → List Told → Type 0) : Type 0 where
  pub header : Header
  pub told : List Told
  pub saw : Saw (Some header) told
  pub few : length told < CAPTURE_LIMIT

-- a record has an answer, is seen with it behind the others, and its text is printed
pub record VisitsRecord (c : CaptureJob) (SawBefore SawAfter : Option Header → List Told → Type 0) (entry : Entry) (result : Result Unit Failed) (page page_after : List ℕ) (before after : Option (List ℕ)) : Type 0 where
  pub answer : Option Answer
  pub right : IsEntryAnswer entry answer
  pub saw : (h : Header) → (told : List Told) → SawBefore (Some h) told → SawAfter (Some h) (told ++ told_as entry answer ∷ [])
  pub printed : (h : Header) → (told : List Told) → SawBefore (Some h) told → IsPrinted result (record_text c h (told_as entry answer)) page page_after before after

-- the text of the end is printed for the records that were seen
abbrev pub VisitsEnd : CaptureJob → (Saw : Option Header → List Told → Type 0) → End → Result Unit Failed → (page page_after : List ℕ) → (before after : Option (List ℕ)) → Type 0
VisitsEnd c Saw end result page page_after before after =
    (h : Option Header) → (told : List Told) → Saw h told → IsPrinted result (capture_end c told end) page page_after before after

-- the status is that of the records that were seen
abbrev pub IsStatus : CaptureJob → (Saw : Option Header → List Told → Type 0) → (status : ℕ) → Type 0
IsStatus c Saw status = (h : Option Header) → (told : List Told) → Saw h told → status ≡ records_status c told

-- the page and the text of the end were pushed, and the outcome is that of the records that were seen
abbrev pub Finishes : CaptureJob → (Saw : Option Header → List Told → Type 0) → End → Result Outcome Failed → (page : List ℕ) → (before after : Option (List ℕ)) → Type 0
Finishes c Saw end result page before after =
    (h : Option Header) → (told : List Told) → Saw h told → IsShown result (page ++ capture_end c told end) (end_verdict (records_status c told) end) before after

-- a reader's answer that is no record
abbrev pub Ends : Next → Type 0
Ends (Rec head) = ⊥
Ends next.End = Unit {0}
Ends (next.Torn at) = Unit {0}
Ends (next.Bad at) = Unit {0}
Ends ReadFault = Unit {0}
Ends Long = Unit {0}

-- the walk ended by an answer of its reader, of which so many octets were taken
abbrev pub Closes : CaptureJob → (Saw : Option Header → List Told → Type 0) → Next → (taken : ℕ) → Result Outcome Failed → (page : List ℕ) → (before after : Option (List ℕ)) → Type 0
Closes c Saw (Rec head) taken result page before after = ⊥
Closes c Saw next.End taken result page before after = Finishes c Saw Clean result page before after
Closes c Saw (next.Torn at) taken result page before after = Finishes c Saw (Torn at) result page before after
Closes c Saw (next.Bad at) taken result page before after = Finishes c Saw (Bad at) result page before after
Closes c Saw ReadFault taken result page before after = IsShown result page (verdict_of 5 taken) before after
Closes c Saw Long taken result page before after = IsShown result page (verdict_of 7 CAPTURE_LIMIT) before after
