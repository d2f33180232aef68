-- Octets and rows of a datagram, by those of its rules.
use Rattle.std.proofs.Common.{◌≡◌, ℕ, Bool, true, ◌+◌, ◌-◌, ◌^◌, ◌<◌, not, ◌||◌, List, [], ◌∷◌, ◌++◌, length, take, drop, IsTrue, refl, ap, ◌∙◌, append_assoc, lit≤}
use Rattle.std.specs.Borrow.{Bor}
use Rattle.narc_bits.specs.Octets.{is_shorter, number_at, big_endian}
use Rattle.narc_format.specs.Rows.{Row, row}
use Rattle.narc_packet.specs.declared.field.TheConstants as field
use Rattle.narc_compose.specs.Gap.{gapped}
use Rattle.narc_bits.proofs.NetworkOrder.{number_of-big_endian}
use Rattle.narc_layout.proofs.FieldLayout.{named_layout}
use Rattle.narc_layout.proofs.TestLayout.{shape_word, unnamed_word, shape_tested, unnamed_tested}
use Rattle.narc_layout.proofs.ReadLayout.{Parts, IsRead, IsTailRead, read_layout}
use Rattle.narc_layout.proofs.SeqRead.{seq_read}
use Rattle.narc_layout.proofs.SeqTailRead.{seq_tail_read}
use Rattle.narc_layout.proofs.RegionReads.{region_read}
use Rattle.narc_layout.proofs.SumReads.{is_good_or_none, checked_or_none_read}
use Rattle.narc_layout.proofs.NamedReads.{rename, named_read}
use Rattle.narc_layout.proofs.ViewReads.{gap_read, measured_read, stripped_tail_read, all_octets_read, padding_read}
use Rattle.narc_transport.specs.declared.context.Ends.{Ends}
use Rattle.narc_packet.specs.declared.packet.Udp.{Udp}
use Rattle.narc_transport.specs.Context.{IsThere}
use Rattle.narc_transport.proofs.NumberRead.{AreNumbers, number_rows, numbers_read}
use Rattle.narc_transport.specs.Udp.{is_udp_length, udp_pseudo_of, RawUdpFront, RawDatagram, RawUdp, udp_of, raw_udp, SameUdp, udp_ports, udp_front, udp_payload, udp_datagram, udp_summed, udp_and_surplus, udp_format}

abbrev pub ArePorts : ℕ × ℕ → List ℕ → Type 0
ArePorts v = AreNumbers 2 v

abbrev pub port_rows : (start : ℕ) → List ℕ → List Row
port_rows start x = number_rows 2 field.UDP_SOURCE field.UDP_DESTINATION start x

ports_read : IsRead udp_ports (λ c v. ArePorts v) (λ c x. 4) (λ c start x. port_rows start x)
ports_read = numbers_read 2 (lit≤ tt) (lit≤ tt) field.UDP_SOURCE field.UDP_DESTINATION (lit≤ tt) (lit≤ tt) (lit≤ tt) (lit≤ tt)

-- a length that fits the octets that are there
abbrev pub IsLength : (there : ℕ) → ℕ → List ℕ → Type 0
IsLength there v o = ((v < 2 ^ 16) × IsTrue (is_udp_length there v)) × (o ≡ big_endian 2 v)

abbrev pub IsFront : (there : ℕ) → RawUdpFront → List ℕ → Type 0
IsFront there v = Parts (ArePorts v.0) (IsLength there v.1)

abbrev pub front_rows : (there start : ℕ) → List ℕ → List Row
front_rows there start x =
    port_rows start x ++ (row field.UDP_LENGTH (start + 4 + 0) (is_shorter (drop 4 x) (0 + 2) || not (is_udp_length there (number_at (drop 4 x) 0 2))) ∷ [])

front_read : IsRead udp_front IsFront (λ n x. 6) front_rows
front_read =
    seq_read (λ n. tt) (λ n v. n) (λ n. n < 2 ^ 64) ports_read
    (read_layout (named_layout
    (shape_tested is_udp_length (shape_word 2 (lit≤ tt) (lit≤ tt)) (unnamed_word 2 (lit≤ tt) (lit≤ tt)))
    (unnamed_tested is_udp_length (shape_word 2 (lit≤ tt) (lit≤ tt)) (unnamed_word 2 (lit≤ tt) (lit≤ tt))) field.UDP_LENGTH (lit≤ tt) (lit≤ tt)))
    (λ n x. n) (λ n v o later each is. refl)

-- the front and the checksum
abbrev pub IsHeader : (there : ℕ) → RawUdpFront → List ℕ → Type 0
IsHeader there v = Parts (IsFront there v) (λ w. length w ≡ 2)

abbrev pub header_rows : (there start : ℕ) → List ℕ → List Row
header_rows there start x = front_rows there start x ++ (row 0 (start + 6) (is_shorter x 8) ∷ [])

header_read : IsRead (gapped 48 udp_front) IsHeader (λ n x. 8) header_rows
header_read = gap_read 6 (λ n x. refl) front_read

abbrev pub IsPayload : ℕ → Bor (List ℕ) → List ℕ → Type 0
IsPayload n v o = (length o ≡ n) × (o ≡ v.now)

payload_read : IsRead udp_payload IsPayload (λ n x. n) (λ n start x. (row 0 start (is_shorter x n) ∷ []) ++ [])
payload_read = region_read (λ n. n) (measured_read (λ c n. tt) (λ c. tt) (λ c. c < 2 ^ 64) all_octets_read)

-- ports and length
abbrev pub front_octets : RawUdpFront → List ℕ
front_octets v = big_endian 2 v.0.0 ++ big_endian 2 v.0.1 ++ big_endian 2 v.1

pub header_is : (there : ℕ) (v : RawUdpFront) (o : List ℕ) → (p : IsHeader there v o) → o ≡ front_octets v ++ p.back
header_is there v o p =
    let f = p.first in
    let q = f.first in
    let ports : f.front ≡ big_endian 2 v.0.0 ++ big_endian 2 v.0.1 = q.joined ∙ ap (λ l. l ++ q.back) q.first.1 ∙ ap (λ l. big_endian 2 v.0.0 ++ l) q.second.1 in
    p.joined ∙ ap (λ l. l ++ p.back) (f.joined ∙ ap (λ l. l ++ f.back) ports ∙ ap (λ l. (big_endian 2 v.0.0 ++ big_endian 2 v.0.1) ++ l) f.second.1)

-- the length of the payload, in the datagram's octets
abbrev pub payload_length : List ℕ → ℕ
payload_length x = number_at x 4 2 - 8

knows_length : (there : ℕ) (v : RawUdpFront) (o later : List ℕ) → IsHeader there v o → number_at (o ++ later) 4 2 ≡ v.1
knows_length there v o later p = ap (λ l. number_at (l ++ later) 4 2) (header_is there v o p) ∙ number_of-big_endian 2 v.1 p.first.second.0.0

abbrev pub IsDatagram : Ends × ℕ → RawDatagram → List ℕ → Type 0
IsDatagram c v = Parts (IsHeader c.1 v.0) (IsPayload (v.0.1 - 8) v.1)

abbrev pub datagram_size : List ℕ → ℕ
datagram_size x = 8 + payload_length x

abbrev pub datagram_rows : (there start : ℕ) → List ℕ → List Row
datagram_rows there start x = header_rows there start x ++ ((row 0 (start + 8) (is_shorter (drop 8 x) (payload_length x)) ∷ []) ++ [])

datagram_read : IsRead udp_datagram IsDatagram (λ c x. datagram_size x) (λ c start x. datagram_rows c.1 start x)
datagram_read = seq_read (λ c. c.1) (λ c v. v.1 - 8) IsThere header_read payload_read (λ c x. payload_length x) (λ c v o later each p. ap (λ n. n - 8) (knows_length c.1 v o later p))

abbrev pub has_good_sum : Ends × ℕ → List ℕ → Bool
has_good_sum c o = is_good_or_none udp_pseudo_of (λ d. true) 6 c o

abbrev pub summed_rows : Ends × ℕ → (start : ℕ) → List ℕ → List Row
summed_rows c start x = rename field.UDP_CHECKSUM (datagram_rows c.1 start x ++ row 0 (start + 6) (not (has_good_sum c (take (datagram_size x) x))) ∷ [])

abbrev pub IsSummed : Ends × ℕ → RawDatagram → List ℕ → Type 0
IsSummed c v o = IsDatagram c v o × IsTrue (has_good_sum c o)

summed_read : IsRead udp_summed IsSummed (λ c x. datagram_size x) summed_rows
summed_read = named_read field.UDP_CHECKSUM (checked_or_none_read udp_pseudo_of 6 (λ c. true) datagram_read)

-- a datagram, and any surplus
abbrev pub IsUdpAndSurplus : Ends × ℕ → RawUdp → List ℕ → Type 0
IsUdpAndSurplus c v = Parts (IsSummed c v.0) (λ o. Unit {0})

knows_surplus : (c : Ends × ℕ) (v : RawDatagram) (o later : List ℕ) → IsSummed c v o → c.1 - number_at (o ++ later) 4 2 ≡ c.1 - v.0.1
knows_surplus c v o later p =
    let d = p.0 in
    ap (λ l. c.1 - number_at (l ++ later) 4 2) d.joined ∙ ap (λ l. c.1 - number_at l 4 2) (append_assoc d.front d.back later) ∙ ap (λ n. c.1 - n) (knows_length c.1 v.0 d.front (d.back ++ later) d.first)

surplus_read : IsTailRead udp_and_surplus IsUdpAndSurplus (λ c start x. summed_rows c start x ++ [])
surplus_read = seq_tail_read (λ c. c) (λ c v. c.1 - v.0.1) IsThere summed_read padding_read (λ c x. c.1 - number_at x 4 2) (λ c v o later each p. knows_surplus c v o later p)

-- the octets that stand for a datagram, and the rows that refuse others
abbrev pub IsUdpRead : Ends × ℕ → Udp → List ℕ → Type 0
IsUdpRead c u o = (w : RawUdp) × IsUdpAndSurplus c w o × (udp_of w ≡ u)

pub udp_read : IsTailRead udp_format IsUdpRead (λ c start x. summed_rows c start x ++ [])
udp_read = stripped_tail_read udp_of (λ c u. raw_udp u) SameUdp surplus_read
