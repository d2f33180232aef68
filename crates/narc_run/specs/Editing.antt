-- What a record becomes whose packet is edited.
use Rattle.std.specs.Prelude.{ℕ, Bool, List, Option, Some, None, Ok, Err}
use Rattle.narc_packet.specs.Canonical.{canonical_frame}
use Rattle.narc_packet.specs.Answer.{Answer}
use Rattle.narc_pcap.specs.Capture.{Entry}
use Rattle.narc_pcap.specs.Written.{record_octets, whole_record}
use Rattle.narc_edit.specs.declared.edits.Edits.{Edits}
use Rattle.narc_edit.specs.Edited.{edited}
use Rattle.narc_patch.specs.Patched.{patched}
use Rattle.narc_run.specs.declared.job.EditWay.{EditWay}
use Rattle.narc_run.specs.declared.job.EditWay.TheVariants.{Anew, InPlace}
use Rattle.narc_run.specs.Findings.{Told}

-- a record with a packet has the frame of the edited packet; every other stays as it came
abbrev pub rewritten_as : Edits → (big : Bool) → Entry → Option Answer → List ℕ
rewritten_as es big e None = record_octets big e.head e.octets
rewritten_as es big e (Some (Ok p)) = whole_record big e.head.sec e.head.sub (canonical_frame (edited es p))
rewritten_as es big e (Some (Err r)) = record_octets big e.head e.octets

-- the frame of a packet is patched; all other octets stay as they came
abbrev pub patched_as : Edits → (octets : List ℕ) → Option Answer → List ℕ
patched_as es octets None = octets
patched_as es octets (Some (Ok p)) = patched es octets
patched_as es octets (Some (Err r)) = octets

-- in place the header of a record stays
abbrev pub edited_as : EditWay → Edits → (big : Bool) → Entry → Option Answer → List ℕ
edited_as Anew es big e answer = rewritten_as es big e answer
edited_as InPlace es big e answer = record_octets big e.head (patched_as es e.octets answer)

abbrev pub edited_record : EditWay → Edits → (big : Bool) → Told → List ℕ
edited_record way es big t = edited_as way es big t.entry t.answer
