-- The header of an IPv4 packet (RFC 791).
use Rattle.std.specs.Prelude.{◌≡◌, ℕ, ◌+◌, ◌*◌, ◌-◌, ◌/◌, ◌%◌, ◌^◌, ◌<◌, ◌≤◌, Bool, not, ◌&&◌, List, [], nat_lt, nat_eq, if◌then◌else◌}
use Rattle.std.specs.Borrow.{Bor}
use Rattle.narc_packet.specs.declared.field.TheConstants as field
use Rattle.narc_format.specs.Meaning.{Meaning}
use Rattle.narc_scalar.specs.Octets.{fixed_octets}
use Rattle.narc_scalar.specs.Tested.{tested}
use Rattle.narc_scalar.specs.Word.{word}
use Rattle.narc_compose.specs.Gap.{gapped}
use Rattle.narc_compose.specs.Named.{named}
use Rattle.narc_compose.specs.Both.{both}
use Rattle.narc_compose.specs.Seq.{seq}
use Rattle.narc_compose.specs.Strip.{stripped}
use Rattle.narc_sum.specs.Checked.{checked}
use Rattle.narc_options.specs.Option.{option_region}
use Rattle.narc_ipv4.specs.declared.as_header.IpHeader.{IpHeader}

-- of the first octet: the version is 4
abbrev pub is_version : Unit {0} → ℕ → Bool
is_version c first = nat_eq (first / 16) 4

-- of the first octet: at least five 32-bit words
abbrev pub is_header_length : Unit {0} → ℕ → Bool
is_header_length c first = not (nat_lt (first % 16) 5)

-- in octets, of the first octet
abbrev pub header_length_of : (first : ℕ) → ℕ
header_length_of first = 4 * (first % 16)

-- what the header's length leaves for the options area
abbrev pub area_length_of : (first : ℕ) → ℕ
area_length_of first = header_length_of first - 20

-- at least the header, and at most the octets that are there
abbrev pub is_total_length : ℕ × ℕ → ℕ → Bool
is_total_length c total = not (nat_lt total c.0) && not (nat_lt c.1 total)

-- of the word of flags and offset: the first bit is 0
abbrev pub is_flags : Unit {0} → ℕ → Bool
is_flags c fragment = not (nat_eq (fragment / 32768) 1)

-- first octet, type of service and total length
abbrev pub RawLengths : Type 0
RawLengths = (ℕ × ℕ) × ℕ

-- identification, flags with offset, time to live and protocol
abbrev pub RawMiddle : Type 0
RawMiddle = (ℕ × ℕ) × (ℕ × ℕ)

-- the fields before the checksum
abbrev pub RawBefore : Type 0
RawBefore = RawLengths × RawMiddle

-- the addresses, and the octets of the options
abbrev pub RawBehind : Type 0
RawBehind = (List ℕ × List ℕ) × Bor (List ℕ)

abbrev pub RawHeader : Type 0
RawHeader = RawBefore × RawBehind

-- the two flags and the fragment offset
abbrev pub fragment_word_of : (df mf : Bool) → (offset : ℕ) → ℕ
fragment_word_of df mf offset = (if df then 16384 else 0) + (if mf then 8192 else 0) + offset

abbrev pub header_of : RawHeader → IpHeader
header_of raw = record {
  length = header_length_of raw.0.0.0.0;
  tos = raw.0.0.0.1 % 256;
  total = raw.0.0.1 % 65536;
  id = raw.0.1.0.0 % 65536;
  df = nat_eq (raw.0.1.0.1 / 16384 % 2) 1;
  mf = nat_eq (raw.0.1.0.1 / 8192 % 2) 1;
  offset = raw.0.1.0.1 % 8192;
  ttl = raw.0.1.1.0 % 256;
  protocol = raw.0.1.1.1 % 256;
  src = raw.1.0.0;
  dst = raw.1.0.1;
  options = record { spelled = raw.1.1 };
}

-- the header without where its options lie
pub record HeaderView : Type 0 where
  pub length : ℕ
  pub tos : ℕ
  pub total : ℕ
  pub id : ℕ
  pub df : Bool
  pub mf : Bool
  pub offset : ℕ
  pub ttl : ℕ
  pub protocol : ℕ
  pub src : List ℕ
  pub dst : List ℕ
  -- the octets that spell the options
  pub spelled : List ℕ

abbrev pub header_view : IpHeader → HeaderView
header_view h = record {
  length = h.length;
  tos = h.tos;
  total = h.total;
  id = h.id;
  df = h.df;
  mf = h.mf;
  offset = h.offset;
  ttl = h.ttl;
  protocol = h.protocol;
  src = h.src;
  dst = h.dst;
  spelled = h.options.spelled.now;
}

-- the same header, wherever its options lie
abbrev pub SameHeader : IpHeader → IpHeader → Type 0
SameHeader h k = header_view h ≡ header_view k

abbrev pub raw_header : IpHeader → RawHeader
raw_header h = ((((64 + h.length / 4, h.tos), h.total), ((h.id, fragment_word_of h.df h.mf h.offset), (h.ttl, h.protocol))), ((h.src, h.dst), h.options.spelled))

-- what `FirstOctet` means
abbrev pub versioned : Meaning (Unit {0}) ℕ
versioned = named field.IPV4_VERSION (tested is_version (word 8))

abbrev pub first_octet : Meaning (Unit {0}) ℕ
first_octet = named field.IPV4_HEADER_LENGTH (tested is_header_length versioned)

abbrev pub ip_service : Meaning (Unit {0}) ℕ
ip_service = named field.IPV4_TOS (word 8)

abbrev pub ip_total : Meaning (ℕ × ℕ) ℕ
ip_total = named field.IPV4_TOTAL_LENGTH (tested is_total_length (word 16))

-- what `Lengths` means
abbrev pub ip_lengths : Meaning ℕ RawLengths
ip_lengths =
    seq {C = ℕ} {CA = Unit {0}} {CB = ℕ × ℕ} (λ n. tt) (λ n v. (header_length_of v.0, n)) (λ n. n < 2 ^ 64)
    (both first_octet ip_service) ip_total

-- what `Fragment` means
abbrev pub ip_fragment : Meaning (Unit {0}) ℕ
ip_fragment = named field.IPV4_FLAGS (tested is_flags (word 16))

abbrev pub ip_middle : Meaning (Unit {0}) RawMiddle
ip_middle = both (both (word 16) ip_fragment) (both (word 8) (word 8))

-- what `Before` means
abbrev pub ip_before : Meaning ℕ RawBefore
ip_before = seq {C = ℕ} {CA = ℕ} {CB = Unit {0}} (λ n. n) (λ n v. tt) (λ n. n < 2 ^ 64) ip_lengths ip_middle

-- what `IpArea` means
abbrev pub ip_area : Meaning ℕ (Bor (List ℕ))
ip_area = named field.IPV4_OPTIONS option_region

-- what `Behind` means
abbrev pub ip_behind : Meaning ℕ RawBehind
ip_behind = seq {C = ℕ} {CA = Unit {0}} {CB = ℕ} (λ n. tt) (λ n v. n) (λ n. n < 2 ^ 64) (both (fixed_octets 4) (fixed_octets 4)) ip_area

-- what `Fields` means
abbrev pub ip_fields : Meaning ℕ RawHeader
ip_fields =
    seq {C = ℕ} {CA = ℕ} {CB = ℕ} (λ n. n) (λ n v. area_length_of v.0.0.0) (λ n. n < 2 ^ 64)
    (gapped 80 ip_before) ip_behind

abbrev pub ip_summed : Meaning ℕ RawHeader
ip_summed = named field.IPV4_CHECKSUM (checked (λ c n. []) 10 ip_fields)

-- what `IpHead` means
abbrev pub ip_head : Meaning ℕ IpHeader
ip_head = stripped header_of (λ c h. raw_header h) SameHeader ip_summed

-- a header stands wherever its total length has room
abbrev pub StandsElsewhere : Meaning ℕ IpHeader → Type 0
StandsElsewhere m = (c d : ℕ) (h : IpHeader) (b : List Bool) → h.total ≤ d → m.stands c h b → m.stands d h b
