-- A record without a packet passes as it came.
use Rattle.std.proofs.Common.{◌≡◌, ℕ, ◌++◌, Bool, true, false, List, length, Option, Some, None, Ok, Err, refl, sym, ap, ◌∙◌}
use Rattle.narc_bits.specs.Octets.{IsOctets}
use Rattle.narc_packet.specs.Answer.{Answer}
use Rattle.narc_pcap.specs.declared.record.Record.{Record}
use Rattle.narc_pcap.specs.Capture.{Entry, record_at}
use Rattle.narc_pcap.specs.Written.{record_octets}
use Rattle.narc_edit.specs.declared.edits.Edits.{Edits}
use Rattle.narc_run.specs.Findings.{Told}
use Rattle.narc_run.specs.Output.{is_packet}
use Rattle.narc_laws.specs.PassedRecords.{IsPassed, PassedRecordsStay}
use Rattle.narc_laws.proofs.ReadWritten.{record_written}

-- the header that was read is written again, before any frame
written_again : (big : Bool) (place : ℕ) (head : List ℕ) (r : Record) (frame : List ℕ) → IsOctets head → length head ≡ 16 → record_at big place head ≡ r
    → record_octets big r frame ≡ head ++ frame
written_again big place head r frame each size is = ap (λ (r : Record). record_octets big r frame) (sym is) ∙ record_written big place head frame each size

passed : (es : Edits) (big : Bool) (head : List ℕ) (e : Entry) → record_octets big e.head e.octets ≡ head ++ e.octets
    → (answer : Option Answer) → is_packet (record { entry = e; answer = answer }) ≡ false → IsPassed es big head (record { entry = e; answer = answer })
passed es big head e is None unread = record { rewritten = is; patched = refl }
passed es big head e is (Some (Err r)) unread = record { rewritten = is; patched = refl }
passed es big head e is (Some (Ok p)) unread = cc

pub records_pass : PassedRecordsStay
records_pass es big place head t each size is unread = passed es big head t.entry (written_again big place head t.entry.head t.entry.octets each size is) t.answer unread
