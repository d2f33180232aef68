-- What is built of one line of a capture's text.
use Rattle.std.specs.Prelude.{◌≡◌, ◌≢◌, ℕ, ◌<◌, ◌^◌, List, [], ◌++◌, Result, Ok, Err}
use Rattle.narc_pcap.specs.declared.header.Unit.{Unit as TimeUnit}
use Rattle.narc_pcap.specs.Written.{Gathered}
use Rattle.narc_reading.specs.declared.error.BadLine.{BadLine}
use Rattle.narc_text.specs.CaptureText.{TextEntry, IsTextEntry, unit_word, capture_line, entry_line, end_line}
use Rattle.narc_build.specs.CaptureFront.{TextCapture}
use Rattle.narc_build.specs.declared.build_line.BuiltLine.{BuiltLine}
use Rattle.narc_build.specs.declared.build_line.BuiltLine.TheVariants as built
use Rattle.narc_build.specs.BuiltCapture.{built_capture, built_record}

-- the first line, of a capture without records so far
abbrev pub empty_text : (unit : TimeUnit) → (snap : ℕ) → TextCapture
empty_text unit snap = record { unit = unit; snap = snap; entries = [] }

-- the line of a record
abbrev pub IsEntryLine : List ℕ → Type 0
IsEntryLine line = (e : TextEntry) × IsTextEntry e × (line ≡ entry_line e)

-- a line that no capture's text begins with
abbrev pub IsNoHeaderLine : List ℕ → Type 0
IsNoHeaderLine line = (unit : TimeUnit) (snap : ℕ) → snap < 2 ^ 32 → line ≢ capture_line (unit_word unit) snap

-- the header is written, or the line is none that a capture's text begins with
abbrev pub IsHeaderBuilt : (line : List ℕ) → (before after : Gathered) → Result Unit BadLine → Type 0
IsHeaderBuilt line before after (Ok done) =
    (unit : TimeUnit) × (snap : ℕ) × (snap < 2 ^ 32) × (line ≡ capture_line (unit_word unit) snap)
    × (after.octets ≡ before.octets ++ built_capture (empty_text unit snap))
IsHeaderBuilt line before after (Err e) = (after ≡ before) × IsNoHeaderLine line

-- the line of a record that is written, the last line behind so many records, or a line that does not follow them
abbrev pub IsLineBuilt : (line : List ℕ) → (records : ℕ) → (before after : Gathered) → BuiltLine → Type 0
IsLineBuilt line records before after built.Record =
    (e : TextEntry) × IsTextEntry e × (line ≡ entry_line e) × (after.octets ≡ before.octets ++ built_record e)
IsLineBuilt line records before after built.End = (after ≡ before) × (line ≡ end_line records records 0 0)
IsLineBuilt line records before after built.Bad =
    (after ≡ before) × (IsEntryLine line → ⊥) × (line ≢ end_line records records 0 0)
