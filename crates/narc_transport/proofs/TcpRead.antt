-- Octets and rows of a segment, by those of its rules.
use Rattle.std.proofs.Common.{◌≡◌, ℕ, Bool, true, ◌+◌, ◌^◌, ◌<◌, not, ◌||◌, List, [], ◌∷◌, ◌++◌, length, take, drop, IsTrue, refl, ap, ◌∙◌, lit≤}
use Rattle.std.specs.Borrow.{Bor}
use Rattle.narc_bits.specs.Octets.{is_shorter, number_at, big_endian}
use Rattle.narc_format.specs.Rows.{Row, row}
use Rattle.narc_packet.specs.declared.field.TheConstants as field
use Rattle.narc_compose.specs.Both.{both}
use Rattle.narc_compose.specs.Gap.{gapped}
use Rattle.narc_bits.proofs.NetworkOrder.{number_of-big_endian}
use Rattle.narc_layout.proofs.FieldLayout.{named_layout}
use Rattle.narc_layout.proofs.TestLayout.{shape_word, unnamed_word, shape_tested, unnamed_tested}
use Rattle.narc_layout.proofs.ReadLayout.{Parts, IsRead, IsTailRead, read_layout}
use Rattle.narc_layout.proofs.SeqRead.{seq_read}
use Rattle.narc_layout.proofs.SeqTailRead.{seq_tail_read}
use Rattle.narc_layout.proofs.RegionReads.{region_read}
use Rattle.narc_layout.proofs.SumReads.{is_short_and_good, checked_tail_read}
use Rattle.narc_layout.proofs.NamedReads.{rename, named_read, named_tail_read}
use Rattle.narc_layout.proofs.ViewReads.{gap_read, stripped_tail_read, all_octets_read}
use Rattle.narc_options.proofs.AreaRead.{IsArea, area_rows, area_read}
use Rattle.narc_transport.specs.declared.as_tcp.TcpWithOffset.{TcpWithOffset}
use Rattle.narc_transport.specs.declared.context.Ends.{Ends}
use Rattle.narc_transport.specs.Context.{IsThere}
use Rattle.narc_transport.specs.Tcp.{is_offset, tcp_area_length, tcp_pseudo_of, RawTcpFront, RawTcpBehind, RawTcp, tcp_of, raw_tcp, SameTcp, tcp_ports, tcp_places, tcp_words, tcp_front, tcp_options, tcp_urgent, tcp_behind, tcp_segment, tcp_summed, tcp_format}
use Rattle.narc_transport.proofs.NumberRead.{IsNumber, AreNumbers, number_row, number_rows, word_read, numbers_read}

-- ports, and the numbers of sequence and acknowledgment
abbrev pub AreEnds : (ℕ × ℕ) × (ℕ × ℕ) → List ℕ → Type 0
AreEnds v = Parts (AreNumbers 2 v.0) (AreNumbers 4 v.1)

abbrev pub end_rows : (start : ℕ) → List ℕ → List Row
end_rows start x = number_rows 2 field.TCP_SOURCE field.TCP_DESTINATION start x ++ number_rows 4 field.TCP_SEQUENCE field.TCP_ACKNOWLEDGMENT (start + 4) (drop 4 x)

ends_read : IsRead (both tcp_ports tcp_places) (λ c v. AreEnds v) (λ c x. 12) (λ c start x. end_rows start x)
ends_read =
    seq_read (λ c. c) (λ c v. c) (λ c. Unit {0}) (numbers_read 2 (lit≤ tt) (lit≤ tt) field.TCP_SOURCE field.TCP_DESTINATION (lit≤ tt) (lit≤ tt) (lit≤ tt) (lit≤ tt))
    (numbers_read 4 (lit≤ tt) (lit≤ tt) field.TCP_SEQUENCE field.TCP_ACKNOWLEDGMENT (lit≤ tt) (lit≤ tt) (lit≤ tt) (lit≤ tt)) (λ c x. tt) (λ c v o later each is. refl)

-- the word of the offset, which fits the octets that are there, and the window
abbrev pub IsOffset : (there : ℕ) → ℕ → List ℕ → Type 0
IsOffset there v o = ((v < 2 ^ 16) × IsTrue (is_offset there v)) × (o ≡ big_endian 2 v)

abbrev pub AreWords : (there : ℕ) → ℕ × ℕ → List ℕ → Type 0
AreWords there v = Parts (IsOffset there v.0) (IsNumber 2 v.1)

abbrev pub word_rows : (there start : ℕ) → List ℕ → List Row
word_rows there start x = (row field.TCP_OFFSET (start + 0) (is_shorter x (0 + 2) || not (is_offset there (number_at x 0 2))) ∷ []) ++ number_row 2 0 (start + 2) (drop 2 x)

words_read : IsRead tcp_words AreWords (λ n x. 4) word_rows
words_read =
    seq_read (λ n. n) (λ n v. tt) (λ n. n < 2 ^ 64)
    (read_layout (named_layout
    (shape_tested is_offset (shape_word 2 (lit≤ tt) (lit≤ tt)) (unnamed_word 2 (lit≤ tt) (lit≤ tt)))
    (unnamed_tested is_offset (shape_word 2 (lit≤ tt) (lit≤ tt)) (unnamed_word 2 (lit≤ tt) (lit≤ tt))) field.TCP_OFFSET (lit≤ tt) (lit≤ tt)))
    (word_read 2 (lit≤ tt) (lit≤ tt)) (λ n x. tt) (λ n v o later each is. refl)

abbrev pub IsFront : (there : ℕ) → RawTcpFront → List ℕ → Type 0
IsFront there v = Parts (AreEnds v.0) (AreWords there v.1)

abbrev pub front_rows : (there start : ℕ) → List ℕ → List Row
front_rows there start x = end_rows start x ++ word_rows there (start + 12) (drop 12 x)

front_read : IsRead tcp_front IsFront (λ n x. 16) front_rows
front_read = seq_read (λ n. tt) (λ n v. n) (λ n. n < 2 ^ 64) ends_read words_read (λ n x. n) (λ n v o later each is. refl)

-- the front and the checksum
abbrev pub IsHeader : (there : ℕ) → RawTcpFront → List ℕ → Type 0
IsHeader there v = Parts (IsFront there v) (λ w. length w ≡ 2)

abbrev pub header_rows : (there start : ℕ) → List ℕ → List Row
header_rows there start x = front_rows there start x ++ (row 0 (start + 16) (is_shorter x 18) ∷ [])

header_read : IsRead (gapped 128 tcp_front) IsHeader (λ n x. 18) header_rows
header_read = gap_read 16 (λ n x. refl) front_read

abbrev pub front_octets : RawTcpFront → List ℕ
front_octets v = big_endian 2 v.0.0.0 ++ big_endian 2 v.0.0.1 ++ big_endian 4 v.0.1.0 ++ big_endian 4 v.0.1.1 ++ big_endian 2 v.1.0 ++ big_endian 2 v.1.1

numbers_are : (k : ℕ) (v : ℕ × ℕ) (o : List ℕ) → AreNumbers k v o → o ≡ big_endian k v.0 ++ big_endian k v.1
numbers_are k v o p = p.joined ∙ ap (λ l. l ++ p.back) p.first.1 ∙ ap (λ l. big_endian k v.0 ++ l) p.second.1

pub header_is : (there : ℕ) (v : RawTcpFront) (o : List ℕ) → (p : IsHeader there v o) → o ≡ front_octets v ++ p.back
header_is there v o p =
    let f = p.first in
    let e = f.first in
    let w = f.second in
    let ports = big_endian 2 v.0.0.0 ++ big_endian 2 v.0.0.1 in
    let places = big_endian 4 v.0.1.0 ++ big_endian 4 v.0.1.1 in
    let ends : f.front ≡ ports ++ places = e.joined ∙ ap (λ l. l ++ e.back) (numbers_are 2 v.0.0 e.front e.first) ∙ ap (λ l. ports ++ l) (numbers_are 4 v.0.1 e.back e.second) in
    let words : f.back ≡ big_endian 2 v.1.0 ++ big_endian 2 v.1.1 = w.joined ∙ ap (λ l. l ++ w.back) w.first.1 ∙ ap (λ l. big_endian 2 v.1.0 ++ l) w.second.1 in
    p.joined ∙ ap (λ l. l ++ p.back) (f.joined ∙ ap (λ l. l ++ f.back) ends ∙ ap (λ l. (ports ++ places) ++ l) words)

-- the urgent pointer and the options area
abbrev pub IsOptions : ℕ → Bor (List ℕ) → List ℕ → Type 0
IsOptions n v o = (length o ≡ n) × IsArea n v o

abbrev pub option_rows : ℕ → (start : ℕ) → List ℕ → List Row
option_rows n start x = rename field.TCP_OPTIONS ((row 0 start (is_shorter x n) ∷ []) ++ area_rows n start (take n x))

options_read : IsRead tcp_options IsOptions (λ n x. n) option_rows
options_read = named_read field.TCP_OPTIONS (region_read (λ n. n) area_read)

abbrev pub IsUrgent : ℕ → ℕ × Bor (List ℕ) → List ℕ → Type 0
IsUrgent n v = Parts (IsNumber 2 v.0) (IsOptions n v.1)

abbrev pub urgent_rows : ℕ → (start : ℕ) → List ℕ → List Row
urgent_rows n start x = number_row 2 0 start x ++ option_rows n (start + 2) (drop 2 x)

urgent_read : IsRead tcp_urgent IsUrgent (λ n x. 2 + n) urgent_rows
urgent_read = seq_read (λ n. tt) (λ n v. n) (λ n. n < 2 ^ 64) (word_read 2 (lit≤ tt) (lit≤ tt)) options_read (λ n x. n) (λ n v o later each is. refl)

abbrev pub IsBehind : ℕ → RawTcpBehind → List ℕ → Type 0
IsBehind n v = Parts (IsUrgent n v.0) (λ o. o ≡ v.1.now)

behind_read : IsTailRead tcp_behind IsBehind (λ n start x. urgent_rows n start x ++ [])
behind_read = seq_tail_read (λ n. n) (λ n v. tt) (λ n. n < 2 ^ 64) urgent_read all_octets_read (λ n x. tt) (λ n v o later each is. refl)

knows_area : (there : ℕ) (v : RawTcpFront) (o later : List ℕ) → IsHeader there v o → tcp_area_length (number_at (o ++ later) 12 2) ≡ tcp_area_length v.1.0
knows_area there v o later p = ap (λ l. tcp_area_length (number_at (l ++ later) 12 2)) (header_is there v o p) ∙ ap tcp_area_length (number_of-big_endian 2 v.1.0 p.first.second.first.0.0)

abbrev pub IsSegmentRead : Ends × ℕ → RawTcp → List ℕ → Type 0
IsSegmentRead c v = Parts (IsHeader c.1 v.0) (IsBehind (tcp_area_length v.0.1.0) v.1)

abbrev pub segment_rows : (there start : ℕ) → List ℕ → List Row
segment_rows there start x = header_rows there start x ++ (urgent_rows (tcp_area_length (number_at x 12 2)) (start + 18) (drop 18 x) ++ [])

segment_read : IsTailRead tcp_segment IsSegmentRead (λ c start x. segment_rows c.1 start x)
segment_read = seq_tail_read (λ c. c.1) (λ c v. tcp_area_length v.1.0) IsThere header_read behind_read (λ c x. tcp_area_length (number_at x 12 2)) (λ c v o later each p. knows_area c.1 v o later p)

abbrev pub has_good_sum : Ends × ℕ → List ℕ → Bool
has_good_sum c o = is_short_and_good tcp_pseudo_of (λ d. true) c o

abbrev pub summed_rows : Ends × ℕ → (start : ℕ) → List ℕ → List Row
summed_rows c start x = rename field.TCP_CHECKSUM (segment_rows c.1 start x ++ row 0 (start + 16) (not (has_good_sum c x)) ∷ [])

abbrev pub IsSummed : Ends × ℕ → RawTcp → List ℕ → Type 0
IsSummed c v o = IsSegmentRead c v o × IsTrue (has_good_sum c o)

summed_read : IsTailRead tcp_summed IsSummed summed_rows
summed_read = named_tail_read field.TCP_CHECKSUM (checked_tail_read tcp_pseudo_of 16 (λ c. true) segment_read)

-- the octets that stand for a segment, and the rows that refuse others
abbrev pub IsTcpRead : Ends × ℕ → TcpWithOffset → List ℕ → Type 0
IsTcpRead c s o = (w : RawTcp) × IsSummed c w o × (tcp_of w ≡ s)

pub tcp_read : IsTailRead tcp_format IsTcpRead summed_rows
tcp_read = stripped_tail_read tcp_of (λ c t. raw_tcp t) SameTcp summed_read
