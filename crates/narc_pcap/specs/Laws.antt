-- How octets are cut as a capture.
use Rattle.std.specs.Prelude.{◌≡◌, ℕ, ◌+◌, ◌<◌, ◌≤◌, ◌^◌, ◌↔◌, Bool, not, ◌&&◌, List, [], ◌∷◌, ◌++◌, length, take, nat_eq, nat_lt, Ok, if◌then◌else◌}
use Rattle.narc_pcap.specs.declared.header.Header.{Header}
use Rattle.narc_pcap.specs.declared.record.TheConstants.{LONGEST_FRAME}
use Rattle.narc_pcap.specs.declared.record.End.{End}
use Rattle.narc_pcap.specs.declared.record.End.TheVariants.{Clean, Torn, Bad}
use Rattle.narc_pcap.specs.declared.record.Record.{Record}
use Rattle.narc_pcap.specs.Capture.{Entry, capture, header_of, headed, record_at}
use Rattle.narc_pcap.specs.Written.{header_octets, head_octets}

-- these octets are the record: 16 that read as its header, at this place, and its frame
pub record IsRecord (big : Bool) (place : ℕ) (e : Entry) (octets : List ℕ) : Type 0 where
  pub header : List ℕ
  pub layout : octets ≡ header ++ e.octets
  pub size : length header ≡ 16
  pub reads : record_at big place header ≡ e.head
  pub frame : length e.octets ≡ e.head.captured
  pub fits : e.head.captured ≤ LONGEST_FRAME

-- no front of the octets is a record
abbrev pub BeginsNoRecord : (big : Bool) → (place : ℕ) → List ℕ → Type 0
BeginsNoRecord big place octets = (e : Entry) (first later : List ℕ) → octets ≡ first ++ later → IsRecord big place e first → ⊥

abbrev pub size_of : Entry → ℕ
size_of e = 16 + e.head.captured

-- the place behind these records, of which the first stands at this place
abbrev pub place_behind : (place : ℕ) → List Entry → ℕ
place_behind place [] = place
place_behind place (e ∷ entries) = place_behind (place + size_of e) entries

-- the octets are these records, one behind the other, and the rest
abbrev pub AreRecords : (big : Bool) → (place : ℕ) → List Entry → (octets rest : List ℕ) → Type 0
AreRecords big place [] octets rest = octets ≡ rest
AreRecords big place (e ∷ entries) octets rest =
    (first : List ℕ) × (later : List ℕ)
    × (octets ≡ first ++ later) × IsRecord big place e first × AreRecords big (place + size_of e) entries later rest

-- the end of a capture, by a rest that begins with no record: none, the header of one that is too long, or too few octets
abbrev pub end_with : (big : Bool) → (place : ℕ) → (rest : List ℕ) → End
end_with big place rest =
    if nat_eq (length rest) 0 then Clean
    else if not (nat_lt (length rest) 16) && nat_lt LONGEST_FRAME (record_at big place (take 16 rest)).captured then Bad (place + 8)
    else Torn place

-- the header, the records one behind the other, and a rest of which no front is a record
pub record IsCut (s : List ℕ) (h : Header) (entries : List Entry) (end : End) : Type 0 where
  pub header : List ℕ
  pub behind : List ℕ
  pub rest : List ℕ
  pub layout : s ≡ header ++ behind
  pub size : length header ≡ 24
  pub reads : header_of header ≡ Ok h
  pub records : AreRecords h.big 24 entries behind rest
  pub stops : BeginsNoRecord h.big (place_behind 24 entries) rest
  pub ends : end_with h.big (place_behind 24 entries) rest ≡ end

-- each number of the header has four octets
pub record IsHeaderInRange (h : Header) : Type 0 where
  pub zone : h.zone < 2 ^ 32
  pub accuracy : h.accuracy < 2 ^ 32
  pub snap : h.snap < 2 ^ 32

pub record IsRecordInRange (r : Record) : Type 0 where
  pub sec : r.sec < 2 ^ 32
  pub sub : r.sub < 2 ^ 32
  pub captured : r.captured < 2 ^ 32
  pub original : r.original < 2 ^ 32

-- The header that is written is read, and so is the header of a record, at its place.
abbrev pub WrittenHeadersAreRead : Type 0
WrittenHeadersAreRead = (h : Header) → IsHeaderInRange h → header_of (header_octets h) ≡ Ok h

abbrev pub WrittenRecordsAreRead : Type 0
WrittenRecordsAreRead = (big : Bool) (r : Record) → IsRecordInRange r
    → record_at big r.offset (head_octets big r.sec r.sub r.captured r.original) ≡ r

-- A capture with a header is what its octets are cut into, and they are cut in no other way.
abbrev pub CapturesAreCut : Type 0
CapturesAreCut = (s : List ℕ) (h : Header) (entries : List Entry) (end : End)
    → (capture s ≡ headed h (record { entries = entries; end = end })) ↔ IsCut s h entries end
