-- The octets and the rows of whole frames, from those of the Ethernet header, of ARP and of IPv4.
use Rattle.std.proofs.Common.{◌≡◌, ℕ, ◌+◌, ◌^◌, ◌<◌, Bool, true, false, List, [], ◌++◌, length, take, drop, nat_eq, if◌then◌else◌, refl, sym, ap, ◌∙◌, append_assoc, arith, length-append}
use Rattle.std.specs.Borrow.{Bor}
use Rattle.std.proofs.lemmas.List.{take_at, drop_at}
use Rattle.narc_bits.specs.Octets.{IsOctets, big_endian, number_of, number_at}
use Rattle.narc_bits.proofs.Octets.{IsOctets-drop}
use Rattle.narc_bits.proofs.Spelled.{length-big_endian}
use Rattle.narc_format.specs.Rows.{Row, first_failing}
use Rattle.narc_compose.specs.declared.either.Either.{Either}
use Rattle.narc_compose.specs.declared.either.Either.TheVariants.{Left, Right}
use Rattle.narc_compose.specs.Union.{Sides}
use Rattle.narc_packet.specs.Ranges.{IsArpInRange}
use Rattle.narc_packet.specs.Frame.{arp_type, ipv4_type, arp_octets}
use Rattle.narc_packet.specs.Refusal.{ethernet_rows, arp_rows, ipv4_rows, content_rows, rows_for}
use Rattle.narc_packet.specs.declared.packet.Arp.{Arp}
use Rattle.narc_packet.specs.declared.packet.Ipv4.{Ipv4}
use Rattle.narc_packet.specs.declared.packet.Packet.{Packet}
use Rattle.narc_eth.specs.EthernetHeader.{Header, IsHeaderInRange, header_octets}
use Rattle.narc_eth.proofs.HeaderLayout.{header_rows, eth_head_layout}
use Rattle.narc_eth.proofs.ArpLayout.{packet_rows, arp_layout}
use Rattle.narc_bits.proofs.NetworkOrder.{number_of-big_endian}
use Rattle.narc_layout.proofs.PlainRead.{plain_read}
use Rattle.narc_layout.proofs.ReadLayout.{Parts, IsTailRead}
use Rattle.narc_layout.proofs.RowSteps.{rows_same, no_more_rows}
use Rattle.narc_layout.proofs.SeqTailRead.{seq_tail_read}
use Rattle.narc_layout.proofs.UnionRead.{member_rows, united_read}
use Rattle.narc_layout.proofs.ViewReads.{stripped_tail_read, all_octets_read, padding_read}
use Rattle.narc_stack.specs.RawFrame.{RawBody, RawFrame, packet_of, raw_frame, SamePacket}
use Rattle.narc_stack.specs.WholeFrame.{padded_arp, by_type, by_ipv4, ipv4_or_other, frame_body, header_and_body, whole_frame}
use Rattle.narc_stack.proofs.Ipv4Read.{IsIpv4Read, ipv4_read_rows, ipv4_part_read, ipv4_rows_are}

abbrev pub IsPaddedArp : Arp × Unit {0} → List ℕ → Type 0
IsPaddedArp a = Parts (λ o. IsArpInRange a.0 × (o ≡ arp_octets a.0)) (λ pad. Unit {0})

abbrev padded_rows : Unit {0} → (start : ℕ) → List ℕ → List Row
padded_rows c start x = packet_rows start 0 x ++ []

padded_read : IsTailRead padded_arp (λ c v o. IsPaddedArp v o) padded_rows
padded_read = seq_tail_read (λ c. c) (λ c a. 18) (λ c. Unit {0}) (plain_read arp_layout) padding_read (λ c x. 18) (λ c v o later each is. refl)

abbrev unread : Unit {0} → (start : ℕ) → List ℕ → List Row
unread c start x = []

abbrev pub IsIpv4OrOther : ℕ → Either Ipv4 (Bor (List ℕ)) → List ℕ → Type 0
IsIpv4OrOther t v o = Sides (λ c p. IsIpv4Read c p o) (λ z l. o ≡ l.now) (by_ipv4 t) v

abbrev ipv4_or_other_rows : ℕ → (start : ℕ) → List ℕ → List Row
ipv4_or_other_rows t start x = member_rows ipv4_read_rows unread (by_ipv4 t) start x

ipv4_or_other_read : IsTailRead ipv4_or_other IsIpv4OrOther ipv4_or_other_rows
ipv4_or_other_read = united_read by_ipv4 (λ t. t < 2 ^ 64) ipv4_part_read all_octets_read

abbrev pub IsBodyRead : ℕ → RawBody → List ℕ → Type 0
IsBodyRead t v o = Sides (λ c a. IsPaddedArp a o) (λ z w. IsIpv4OrOther z w o) (by_type t) v

abbrev body_rows : ℕ → (start : ℕ) → List ℕ → List Row
body_rows t start x = member_rows padded_rows ipv4_or_other_rows (by_type t) start x

body_read : IsTailRead frame_body IsBodyRead body_rows
body_read = united_read by_type (λ t. t < 2 ^ 64) padded_read ipv4_or_other_read

-- the type in the octets of a header
pub type_at : (h : Header) (x : List ℕ) → IsHeaderInRange h → number_at (header_octets h ++ x) 12 2 ≡ h.1.1
type_at h x range =
    let t = big_endian 2 h.1.1 in
    let front = h.0 ++ h.1.0 in
    let size : length front ≡ 12 = length-append h.0 h.1.0 ∙ omega (arith, range.0.0, range.1.0.0) in
    let whole : header_octets h ++ x ≡ front ++ (t ++ x) = ap (λ l. l ++ x) (sym (append_assoc h.0 h.1.0 t)) ∙ append_assoc front t x in
    let behind : drop 12 (header_octets h ++ x) ≡ t ++ x = ap (drop 12) whole ∙ drop_at front (t ++ x) 12 size in
    ap (λ l. number_of (take 2 l)) behind ∙ ap number_of (take_at t x 2 (length-big_endian 2 h.1.1)) ∙ number_of-big_endian 2 h.1.1 range.1.1

knows_type : (c : Unit {0}) (h : Header) (o later : List ℕ) → IsOctets (o ++ later) → IsHeaderInRange h × (o ≡ header_octets h) → number_at (o ++ later) 12 2 ≡ h.1.1
knows_type c h o later each is = ap (λ l. number_at (l ++ later) 12 2) is.1 ∙ type_at h later is.0

abbrev pub IsRawRead : RawFrame → List ℕ → Type 0
IsRawRead w = Parts (λ o. IsHeaderInRange w.0 × (o ≡ header_octets w.0)) (IsBodyRead w.0.1.1 w.1)

abbrev raw_rows : Unit {0} → (start : ℕ) → List ℕ → List Row
raw_rows c start x = header_rows start 0 x ++ body_rows (number_at x 12 2) (start + 14) (drop 14 x)

raw_read : IsTailRead header_and_body (λ c w o. IsRawRead w o) raw_rows
raw_read = seq_tail_read (λ c. c) (λ c h. h.1.1) (λ c. Unit {0}) (plain_read eth_head_layout) body_read (λ c x. number_at x 12 2) knows_type

abbrev pub IsFrameRead : Packet → List ℕ → Type 0
IsFrameRead p o = (w : RawFrame) × IsRawRead w o × (packet_of w ≡ p)

pub frame_read : IsTailRead whole_frame (λ c p o. IsFrameRead p o) raw_rows
frame_read = stripped_tail_read packet_of (λ c p. raw_frame p) SamePacket raw_read

-- the rows of what is behind the header
module _ (x : List ℕ) (each : IsOctets x) where
  of_other : (is_ipv4 : Bool) → first_failing (member_rows ipv4_read_rows unread (if is_ipv4 then Left tt else Right tt) 14 x) ≡ first_failing (if is_ipv4 then ipv4_rows x ++ content_rows x else [])
  of_other true = ipv4_rows_are x each
  of_other false = refl

  of_body : (t : ℕ) (is_arp : Bool) → first_failing (member_rows padded_rows ipv4_or_other_rows (if is_arp then Left tt else Right t) 14 x) ≡ first_failing (if is_arp then arp_rows x else if nat_eq t ipv4_type then ipv4_rows x ++ content_rows x else [])
  of_body t true = no_more_rows (arp_rows x)
  of_body t false = of_other (nat_eq t ipv4_type)

pub frame_rows_are : (b : List ℕ) → IsOctets b → first_failing (raw_rows tt 0 b) ≡ first_failing (rows_for b)
frame_rows_are b each =
    let t = number_at b 12 2 in
    rows_same (header_rows 0 0 b) (ethernet_rows b) (body_rows t 14 (drop 14 b)) (if nat_eq t arp_type then arp_rows (drop 14 b) else if nat_eq t ipv4_type then ipv4_rows (drop 14 b) ++ content_rows (drop 14 b) else []) refl (λ none. of_body (drop 14 b) (IsOctets-drop 14 b each) t (nat_eq t arp_type))
