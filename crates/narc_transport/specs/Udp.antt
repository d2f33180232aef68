-- UDP datagrams (RFC 768).
use Rattle.std.specs.Prelude.{◌≡◌, ℕ, ◌+◌, ◌-◌, ◌%◌, ◌<◌, ◌^◌, Bool, true, not, ◌&&◌, List, length, nat_lt}
use Rattle.std.specs.Borrow.{Bor}
use Rattle.narc_packet.specs.declared.field.TheConstants as field
use Rattle.narc_format.specs.Meaning.{Meaning}
use Rattle.narc_scalar.specs.Tested.{tested}
use Rattle.narc_scalar.specs.Word.{word}
use Rattle.narc_compose.specs.Gap.{gapped}
use Rattle.narc_compose.specs.Named.{named}
use Rattle.narc_compose.specs.Seq.{seq, seq_tail}
use Rattle.narc_compose.specs.Strip.{stripped}
use Rattle.narc_list.specs.Pad.{padding}
use Rattle.narc_list.specs.Region.{region}
use Rattle.narc_sum.specs.Checked.{checked_or_none}
use Rattle.narc_options.specs.Option.{any_octets}
use Rattle.narc_packet.specs.Udp.{udp_pseudo_header}
use Rattle.narc_packet.specs.declared.packet.Udp.{Udp}
use Rattle.narc_packet.specs.PacketView.{udp_view}
use Rattle.narc_compose.specs.Both.{both}
use Rattle.narc_transport.specs.declared.context.Ends.{Ends}
use Rattle.narc_transport.specs.Context.{IsThere}

-- at least the header, and at most the octets that are there
abbrev pub is_udp_length : ℕ → ℕ → Bool
is_udp_length there n = nat_lt 7 n && not (nat_lt there n)

-- the pseudo header
abbrev pub udp_pseudo_of : Ends × ℕ → ℕ → List ℕ
udp_pseudo_of c n = udp_pseudo_header c.0.src c.0.dst n

abbrev pub RawUdpFront : Type 0
RawUdpFront = (ℕ × ℕ) × ℕ

abbrev pub RawDatagram : Type 0
RawDatagram = RawUdpFront × Bor (List ℕ)

abbrev pub RawUdp : Type 0
RawUdp = RawDatagram × Unit {0}

abbrev pub udp_of : RawUdp → Udp
udp_of raw = record { sport = raw.0.0.0.0 % 65536; dport = raw.0.0.0.1 % 65536; payload = raw.0.1 }

abbrev pub raw_udp : Udp → RawUdp
raw_udp u = ((((u.sport, u.dport), 8 + length u.payload.now), u.payload), tt)

-- the same datagram, wherever its octets lie
abbrev pub SameUdp : Udp → Udp → Type 0
SameUdp u v = udp_view u ≡ udp_view v

abbrev pub udp_ports : Meaning (Unit {0}) (ℕ × ℕ)
udp_ports = both (named field.UDP_SOURCE (word 16)) (named field.UDP_DESTINATION (word 16))

abbrev pub udp_length : Meaning ℕ ℕ
udp_length = named field.UDP_LENGTH (tested is_udp_length (word 16))

-- what `UdpFront` means
abbrev pub udp_front : Meaning ℕ RawUdpFront
udp_front = seq {C = ℕ} {CA = Unit {0}} {CB = ℕ} (λ n. tt) (λ n v. n) (λ n. n < 2 ^ 64) udp_ports udp_length

-- so many octets, not copied
abbrev pub udp_payload : Meaning ℕ (Bor (List ℕ))
udp_payload = region (λ c. c) any_octets

abbrev pub udp_datagram : Meaning (Ends × ℕ) RawDatagram
udp_datagram = seq {C = Ends × ℕ} {CA = ℕ} {CB = ℕ} (λ c. c.1) (λ c v. v.1 - 8) IsThere (gapped 48 udp_front) udp_payload

abbrev pub udp_summed : Meaning (Ends × ℕ) RawDatagram
udp_summed = named field.UDP_CHECKSUM (checked_or_none udp_pseudo_of 6 udp_datagram (λ c. true))

abbrev pub udp_and_surplus : Meaning (Ends × ℕ) RawUdp
udp_and_surplus = seq_tail {C = Ends × ℕ} {CA = Ends × ℕ} {CB = ℕ} (λ c. c) (λ c v. c.1 - v.0.1) IsThere udp_summed padding

-- what `UdpFormat` means
abbrev pub udp_format : Meaning (Ends × ℕ) Udp
udp_format = stripped udp_of (λ c u. raw_udp u) SameUdp udp_and_surplus
