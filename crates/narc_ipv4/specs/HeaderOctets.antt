-- The octets of a header (RFC 791, section 3.1), and the rows that refuse others.
use Rattle.std.specs.Prelude.{◌≡◌, ◌↔◌, ℕ, ◌+◌, ◌-◌, ◌/◌, ◌%◌, ◌<◌, ◌≤◌, ◌^◌, Bool, not, ◌||◌, List, [], ◌∷◌, ◌++◌, length, take, flat_map, replicate, nat_eq, nat_lt}
use Rattle.narc_bits.specs.Octets.{IsOctets, is_shorter, number_at}
use Rattle.narc_bits.specs.Bits.{bits}
use Rattle.narc_bits.specs.InternetSum.{IsGoodSum, is_good_sum, checksum}
use Rattle.narc_format.specs.declared.fault.Fault.{Fault}
use Rattle.narc_packet.specs.declared.field.TheConstants as field
use Rattle.narc_format.specs.Meaning.{Meaning}
use Rattle.narc_format.specs.Rows.{Row, row, differs}
use Rattle.narc_layout.specs.FirstFault.{IsFirstFault}
use Rattle.narc_packet.specs.PacketView.{Ipv4View, RawBody}
use Rattle.narc_packet.specs.Options.{ip_option, ip_options_in, IsIpArea, AreIpOptions}
use Rattle.narc_packet.specs.Ipv4.{IsIpv4InRange, ipv4_header}
use Rattle.narc_packet.specs.Refusal.{header_length, total_length, area_in, options_row, ipv4_rows}
use Rattle.narc_ipv4.specs.declared.as_header.IpHeader.{IpHeader}

-- the packet of the header, without its data
abbrev pub packet_of : IpHeader → Ipv4View
packet_of h = record {
  tos = h.tos;
  id = h.id;
  df = h.df;
  mf = h.mf;
  offset = h.offset;
  ttl = h.ttl;
  src = h.src;
  dst = h.dst;
  options = ip_options_in h.options.spelled.now;
  body = RawBody h.protocol [];
}

-- These octets are the header of a packet; from their first on, so many octets are there.
pub record IsHeader (there : ℕ) (h : IpHeader) (octets : List ℕ) : Type 0 where
  pub sum : ℕ
  pub area : List ℕ
  pub layout : octets ≡ ipv4_header (packet_of h) sum (length area) (h.total - h.length) ++ area
  pub options : IsIpArea (ip_options_in h.options.spelled.now) area
  -- the options are kept as the octets that spell them
  pub spelled : flat_map ip_option (ip_options_in h.options.spelled.now) ≡ h.options.spelled.now
  pub size : h.length ≡ 20 + length area
  pub fits : h.length ≤ h.total
  pub present : h.total ≤ there
  pub small : h.total < 2 ^ 16
  pub checked : IsGoodSum octets
  pub in_range : IsIpv4InRange (packet_of h)
  pub protocol : h.protocol < 256
  pub sum_range : sum < 2 ^ 16

-- The options fit the area that the length leaves behind 20 octets, and the packet the octets that are there.
pub record FitsHeader (there : ℕ) (h : IpHeader) : Type 0 where
  pub in_range : IsIpv4InRange (packet_of h)
  pub protocol : h.protocol < 256
  pub spelled : AreIpOptions h.options.spelled.now
  pub options : 20 + length h.options.spelled.now ≤ h.length
  pub most : h.length ≤ 60
  pub whole_words : h.length % 4 ≡ 0
  pub fits : h.length ≤ h.total
  pub present : h.total ≤ there
  pub small : h.total < 2 ^ 16

-- the octets that are written, with this checksum: octets 0 fill the area behind the options
abbrev pub header_with : IpHeader → (sum : ℕ) → List ℕ
header_with h sum =
    let area = h.length - 20 in
    let spelled = h.options.spelled.now in
    ipv4_header (packet_of h) sum area (h.total - h.length) ++ (spelled ++ replicate (area - length spelled) 0)

abbrev pub canonical_header : IpHeader → List ℕ
canonical_header h = header_with h (checksum (header_with h 0))

-- exactly what fits can be written
abbrev pub AdmitsWhatFits : Meaning ℕ IpHeader → Type 0
AdmitsWhatFits m = (there : ℕ) (h : IpHeader) → there < 2 ^ 64 → m.admits there h ↔ FitsHeader there h

-- what fits is written with its checksum
abbrev pub IsWrittenWithItsChecksum : Meaning ℕ IpHeader → Type 0
IsWrittenWithItsChecksum m = (there : ℕ) (h : IpHeader) → FitsHeader there h → m.spelling there h ≡ bits (canonical_header h)

-- exactly the octets of a header stand for it
abbrev pub IsItsOctets : Meaning ℕ IpHeader → Type 0
IsItsOctets m = (there : ℕ) (h : IpHeader) (b : List Bool) → m.stands there h b ↔ ((octets : List ℕ) × IsHeader there h octets × (b ≡ bits octets))

-- octets behind the 14 of an Ethernet header are refused exactly where a row of IPv4 fails
abbrev pub IsRefusedByRow : Meaning ℕ IpHeader → Type 0
IsRefusedByRow m = (x : List ℕ) → IsOctets x → (f : Fault) → m.refuses (length x) (bits x) f ↔ IsFirstFault 14 (ipv4_rows x) f

-- the rows of a header that begins at the octet `start` of the frame
abbrev pub header_rows : (start : ℕ) → List ℕ → List Row
header_rows start x =
    row field.IPV4_VERSION start (is_shorter x 1 || differs (number_at x 0 1 / 16) 4)
    ∷ row field.IPV4_HEADER_LENGTH start (nat_lt (number_at x 0 1 % 16) 5)
    ∷ row field.IPV4_TOS (start + 1) (is_shorter x 2)
    ∷ row field.IPV4_TOTAL_LENGTH (start + 2) (is_shorter x 4 || nat_lt (total_length x) (header_length x) || is_shorter x (total_length x))
    ∷ row field.IPV4_FLAGS (start + 6) (nat_eq (number_at x 6 2 / 32768) 1)
    ∷ options_row field.IPV4_OPTIONS (start + 20) (area_in x)
    ∷ row field.IPV4_CHECKSUM (start + 10) (not (is_good_sum (take (header_length x) x)))
    ∷ []
