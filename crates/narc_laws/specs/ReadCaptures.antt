-- What is read of a capture is what is written of it.
use Rattle.std.specs.Prelude.{◌≡◌, ℕ, ◌++◌, Bool, List, length, Ok}
use Rattle.narc_bits.specs.Octets.{IsOctets}
use Rattle.narc_pcap.specs.declared.header.Header.{Header}
use Rattle.narc_pcap.specs.Capture.{header_of, record_at}
use Rattle.narc_pcap.specs.Written.{header_octets, record_octets}

-- The octets that are read as a header are those that are written of it.
abbrev pub ReadHeadersAreWritten : Type 0
ReadHeadersAreWritten = (s : List ℕ) (h : Header) → IsOctets s → length s ≡ 24 → header_of s ≡ Ok h → header_octets h ≡ s

-- The octets that are read as the header of a record are those that are written of it, before its frame.
abbrev pub ReadRecordsAreWritten : Type 0
ReadRecordsAreWritten = (big : Bool) (place : ℕ) (s frame : List ℕ) → IsOctets s → length s ≡ 16 → record_octets big (record_at big place s) frame ≡ s ++ frame
