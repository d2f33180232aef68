-- A record without a packet passes as it came.
use Rattle.std.specs.Prelude.{◌≡◌, ℕ, ◌++◌, Bool, false, List, length}
use Rattle.narc_bits.specs.Octets.{IsOctets}
use Rattle.narc_pcap.specs.Capture.{record_at}
use Rattle.narc_edit.specs.declared.edits.Edits.{Edits}
use Rattle.narc_run.specs.Findings.{Told}
use Rattle.narc_run.specs.Output.{is_packet}
use Rattle.narc_run.specs.Editing.{rewritten_as, patched_as}

-- what `rewrite` writes of a record with this header, and the frame that `patch` writes of it
pub record IsPassed (es : Edits) (big : Bool) (head : List ℕ) (t : Told) : Type 0 where
  pub rewritten : rewritten_as es big t.entry t.answer ≡ head ++ t.entry.octets
  pub patched : patched_as es t.entry.octets t.answer ≡ t.entry.octets

-- A record that is refused or snapped is written as the octets that came, whatever is assigned.
abbrev pub PassedRecordsStay : Type 0
PassedRecordsStay = (es : Edits) (big : Bool) (place : ℕ) (head : List ℕ) (t : Told) → IsOctets head → length head ≡ 16
    → record_at big place head ≡ t.entry.head → is_packet t ≡ false → IsPassed es big head t
