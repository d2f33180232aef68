-- The texts of captures are those that `show` writes, and those that `build` takes.
use Rattle.std.specs.Prelude.{◌≡◌, ◌≢◌, ◌↔◌, ℕ, ◌≤◌, List, length, IsTrue, IsSome, Some}
use Rattle.std.specs.List.{AllByRecursion}
use Rattle.narc_bits.specs.Octets.{IsOctets}
use Rattle.narc_world.specs.Outside.{Rose}
use Rattle.narc_pcap.specs.declared.limit.TheConstants.{CAPTURE_LIMIT}
use Rattle.narc_pcap.specs.declared.record.End.TheVariants.{Clean}
use Rattle.narc_pcap.specs.Capture.{capture}
use Rattle.narc_build.specs.BuiltCapture.{built_capture}
use Rattle.narc_build.specs.CaptureFront.{TextCapture, IsTextCapture, IsCaptureText, capture_text}
use Rattle.narc_run.specs.Job.{Capture, Show, Build}
use Rattle.narc_run.specs.Findings.{Findings, Found, AreFindings}
use Rattle.narc_run.specs.Output.{is_packet, output}
use Rattle.narc_run.specs.Run.{Run, Wrote, IsRightRun}

-- the octets are a whole capture, and no record of it was snapped or refused
pub record IsOfPackets (s : List ℕ) (found : Findings) : Type 0 where
  pub header : IsSome (capture s).header
  pub ends : (capture s).end ≡ Clean
  pub packets : AllByRecursion (λ t. IsTrue (is_packet t)) found.records

-- the octets are such a capture, and `show` writes the text for it
abbrev pub IsShownFor : (s text : List ℕ) → Type 0
IsShownFor s text = IsOctets s × Found (Capture Show) s (λ found. IsOfPackets s found × (output (Capture Show) s found ≡ text))

-- `show` writes the text for some such capture
abbrev pub IsShownText : List ℕ → Type 0
IsShownText text = (s : List ℕ) × IsShownFor s text

-- The texts of captures are those that `show` writes for whole captures of packets.
abbrev pub CaptureTextsAreShown : Type 0
CaptureTextsAreShown = (text : List ℕ) → IsCaptureText text ↔ IsShownText text

-- the run is done exactly where `show` writes its input, and then what it wrote is a capture for which `show` does
pub record IsBuiltWhereShown (r : Run) (text : List ℕ) : Type 0 where
  pub done : r.status ≡ 0 → (s : List ℕ) × Wrote r s × IsShownFor s text
  -- without a fault and with memory, within the limit
  pub taken : (Rose r.source_before r.source_after → ⊥) → (Rose r.sink_before r.sink_after → ⊥) → r.status ≢ 4 → length text ≤ CAPTURE_LIMIT → IsShownText text → r.status ≡ 0

-- What is promised of a run makes a run of `build` one that is done exactly where `show` writes its input.
abbrev pub ShownTextsAreBuilt : Type 0
ShownTextsAreBuilt = (r : Run) → (text rest : List ℕ) → IsRightRun r text rest → r.asked ≡ Some Build → IsBuiltWhereShown r text

-- `show` of what is made of a text writes the text again.
abbrev pub BuiltIsShown : Type 0
BuiltIsShown = (c : TextCapture) (found : Findings) → IsTextCapture c → AreFindings (Capture Show) (built_capture c) found
    → output (Capture Show) (built_capture c) found ≡ capture_text c
