-- TCP segments (RFC 793).
use Rattle.std.specs.Prelude.{◌≡◌, ℕ, ◌+◌, ◌*◌, ◌-◌, ◌/◌, ◌%◌, ◌<◌, ◌^◌, Bool, true, not, ◌&&◌, List, nat_lt}
use Rattle.std.specs.Borrow.{Bor}
use Rattle.narc_packet.specs.declared.field.TheConstants as field
use Rattle.narc_format.specs.Meaning.{Meaning}
use Rattle.narc_scalar.specs.Tested.{tested}
use Rattle.narc_scalar.specs.Word.{word}
use Rattle.narc_compose.specs.Gap.{gapped}
use Rattle.narc_compose.specs.Named.{named}
use Rattle.narc_compose.specs.Seq.{seq, seq_tail}
use Rattle.narc_compose.specs.Strip.{stripped}
use Rattle.narc_list.specs.Bytes.{all_octets}
use Rattle.narc_sum.specs.Checked.{checked_tail}
use Rattle.narc_options.specs.Option.{option_region}
use Rattle.narc_packet.specs.Tcp.{tcp_pseudo_header}
use Rattle.narc_packet.specs.PacketView.{tcp_view}
use Rattle.narc_compose.specs.Both.{both}
use Rattle.narc_transport.specs.declared.as_tcp.TcpWithOffset.{TcpWithOffset}
use Rattle.narc_transport.specs.declared.context.Ends.{Ends}
use Rattle.narc_transport.specs.Context.{IsThere}

-- of the word of offset, reserved bits and flags: how many octets the header has
abbrev pub tcp_header_length : (bits : ℕ) → ℕ
tcp_header_length bits = 4 * (bits / 4096 % 16)

-- what the offset leaves for the options area
abbrev pub tcp_area_length : (bits : ℕ) → ℕ
tcp_area_length bits = tcp_header_length bits - 20

-- at least five 32-bit words, and at most the octets that are there
abbrev pub is_offset : ℕ → ℕ → Bool
is_offset there bits = nat_lt 4 (bits / 4096) && not (nat_lt there (tcp_header_length bits))

-- the pseudo header
abbrev pub tcp_pseudo_of : Ends × ℕ → ℕ → List ℕ
tcp_pseudo_of c n = tcp_pseudo_header c.0.src c.0.dst n

abbrev pub RawTcpFront : Type 0
RawTcpFront = ((ℕ × ℕ) × (ℕ × ℕ)) × (ℕ × ℕ)

abbrev pub RawTcpBehind : Type 0
RawTcpBehind = (ℕ × Bor (List ℕ)) × Bor (List ℕ)

abbrev pub RawTcp : Type 0
RawTcp = RawTcpFront × RawTcpBehind

abbrev pub tcp_of : RawTcp → TcpWithOffset
tcp_of raw = record {
  offset = raw.0.1.0 / 4096 % 16;
  tcp = record {
    sport = raw.0.0.0.0 % 65536;
    dport = raw.0.0.0.1 % 65536;
    seq = raw.0.0.1.0 % 4294967296;
    ack = raw.0.0.1.1 % 4294967296;
    reserved = raw.0.1.0 / 64 % 64;
    flags = raw.0.1.0 % 64;
    window = raw.0.1.1 % 65536;
    urgent = raw.1.0.0 % 65536;
    options = record { spelled = raw.1.0.1 };
    payload = raw.1.1;
  };
}

abbrev pub raw_tcp : TcpWithOffset → RawTcp
raw_tcp s = let t = s.tcp in ((((t.sport, t.dport), (t.seq, t.ack)), (4096 * s.offset + (64 * t.reserved + t.flags), t.window)), ((t.urgent, t.options.spelled), t.payload))

-- the same segment, wherever its octets lie
abbrev pub SameTcp : TcpWithOffset → TcpWithOffset → Type 0
SameTcp s t = (s.offset ≡ t.offset) × (tcp_view s.tcp ≡ tcp_view t.tcp)

abbrev pub tcp_ports : Meaning (Unit {0}) (ℕ × ℕ)
tcp_ports = both (named field.TCP_SOURCE (word 16)) (named field.TCP_DESTINATION (word 16))

abbrev pub tcp_places : Meaning (Unit {0}) (ℕ × ℕ)
tcp_places = both (named field.TCP_SEQUENCE (word 32)) (named field.TCP_ACKNOWLEDGMENT (word 32))

abbrev pub tcp_offset : Meaning ℕ ℕ
tcp_offset = named field.TCP_OFFSET (tested is_offset (word 16))

abbrev pub tcp_words : Meaning ℕ (ℕ × ℕ)
tcp_words = seq {C = ℕ} {CA = ℕ} {CB = Unit {0}} (λ n. n) (λ n v. tt) (λ n. n < 2 ^ 64) tcp_offset (word 16)

-- what `TcpFront` means
abbrev pub tcp_front : Meaning ℕ RawTcpFront
tcp_front = seq {C = ℕ} {CA = Unit {0}} {CB = ℕ} (λ n. tt) (λ n v. n) (λ n. n < 2 ^ 64) (both tcp_ports tcp_places) tcp_words

abbrev pub tcp_options : Meaning ℕ (Bor (List ℕ))
tcp_options = named field.TCP_OPTIONS option_region

abbrev pub tcp_urgent : Meaning ℕ (ℕ × Bor (List ℕ))
tcp_urgent = seq {C = ℕ} {CA = Unit {0}} {CB = ℕ} (λ n. tt) (λ n v. n) (λ n. n < 2 ^ 64) (word 16) tcp_options

abbrev pub tcp_behind : Meaning ℕ RawTcpBehind
tcp_behind = seq_tail {C = ℕ} {CA = ℕ} {CB = Unit {0}} (λ n. n) (λ n v. tt) (λ n. n < 2 ^ 64) tcp_urgent all_octets

abbrev pub tcp_segment : Meaning (Ends × ℕ) RawTcp
tcp_segment = seq_tail {C = Ends × ℕ} {CA = ℕ} {CB = ℕ} (λ c. c.1) (λ c v. tcp_area_length v.1.0) IsThere (gapped 128 tcp_front) tcp_behind

abbrev pub tcp_summed : Meaning (Ends × ℕ) RawTcp
tcp_summed = named field.TCP_CHECKSUM (checked_tail tcp_pseudo_of 16 tcp_segment (λ c. true))

-- what `TcpFormat` means
abbrev pub tcp_format : Meaning (Ends × ℕ) TcpWithOffset
tcp_format = stripped tcp_of (λ c t. raw_tcp t) SameTcp tcp_summed
