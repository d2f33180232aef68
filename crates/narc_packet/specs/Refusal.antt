-- The refusals of a frame: which field is the first without an admissible reading, and at which octet.
use Rattle.std.specs.Prelude.{ℕ, ◌+◌, ◌*◌, ◌/◌, ◌%◌, Bool, not, ◌&&◌, ◌||◌, List, [], ◌∷◌, ◌++◌, length, take, drop, nat_eq, nat_lt, slice_range, Option, unwrap_or, is_some, if◌then◌else◌}
use Rattle.narc_bits.specs.Octets.{is_shorter, number_at}
use Rattle.narc_bits.specs.InternetSum.{is_good_sum}
use Rattle.narc_packet.specs.declared.field.TheConstants as field
use Rattle.narc_format.specs.Rows.{RefusalView, Row, row, first_failing, differs}
use Rattle.narc_packet.specs.Options.{bad_option}
use Rattle.narc_packet.specs.Udp.{udp_pseudo_header}
use Rattle.narc_packet.specs.Tcp.{tcp_pseudo_header}
use Rattle.narc_packet.specs.Ipv4.{is_fragment}
use Rattle.narc_packet.specs.Frame.{arp_type, ipv4_type}

-- the header of a frame (RFC 894)
abbrev pub ethernet_rows : (frame : List ℕ) → List Row
ethernet_rows frame =
    row field.ETHERNET_DESTINATION 0 (is_shorter frame 6)
    ∷ row field.ETHERNET_SOURCE 6 (is_shorter frame 12)
    ∷ row field.ETHERNET_TYPE 12 (is_shorter frame 14)
    ∷ []

-- ARP (RFC 826): x is what follows the Ethernet header
abbrev pub arp_rows : (x : List ℕ) → List Row
arp_rows x =
    row field.ARP_HARDWARE 14 (is_shorter x 2 || differs (number_at x 0 2) 1)
    ∷ row field.ARP_PROTOCOL 16 (is_shorter x 4 || differs (number_at x 2 2) ipv4_type)
    ∷ row field.ARP_HARDWARE_SIZE 18 (is_shorter x 5 || differs (number_at x 4 1) 6)
    ∷ row field.ARP_PROTOCOL_SIZE 19 (is_shorter x 6 || differs (number_at x 5 1) 4)
    ∷ row field.ARP_OPERATION 20 (is_shorter x 8)
    ∷ row field.ARP_SENDER_HARDWARE 22 (is_shorter x 14)
    ∷ row field.ARP_SENDER_PROTOCOL 28 (is_shorter x 18)
    ∷ row field.ARP_TARGET_HARDWARE 32 (is_shorter x 24)
    ∷ row field.ARP_TARGET_PROTOCOL 38 (is_shorter x 28)
    ∷ []

-- a bad option refuses the area that begins at an octet of the frame; its place is that of its first octet
abbrev pub options_row : (field start : ℕ) → (area : List ℕ) → Row
options_row field start area =
    let bad = bad_option area in
    row field (start + unwrap_or bad 0) (is_some bad)

-- the parts of an IPv4 packet that x begins with (RFC 791, section 3.1)
abbrev pub header_length : (x : List ℕ) → ℕ
header_length x = 4 * (number_at x 0 1 % 16)

abbrev pub total_length : (x : List ℕ) → ℕ
total_length x = number_at x 2 2

abbrev pub area_in : (x : List ℕ) → List ℕ
area_in x = slice_range x 20 (header_length x)

abbrev pub content_in : (x : List ℕ) → List ℕ
content_in x = slice_range x (header_length x) (total_length x)

-- the bit for more fragments, and the 13 bits of the offset
abbrev pub is_fragment_in : (x : List ℕ) → Bool
is_fragment_in x = is_fragment (nat_eq (number_at x 6 2 / 8192 % 2) 1) (number_at x 6 2 % 8192)

-- IPv4 (RFC 791): x is what follows the Ethernet header
abbrev pub ipv4_rows : (x : List ℕ) → List Row
ipv4_rows x =
    row field.IPV4_VERSION 14 (is_shorter x 1 || differs (number_at x 0 1 / 16) 4)
    ∷ row field.IPV4_HEADER_LENGTH 14 (nat_lt (number_at x 0 1 % 16) 5)
    ∷ row field.IPV4_TOS 15 (is_shorter x 2)
    ∷ row field.IPV4_TOTAL_LENGTH 16 (is_shorter x 4 || nat_lt (total_length x) (header_length x) || is_shorter x (total_length x))
    ∷ row field.IPV4_FLAGS 20 (nat_eq (number_at x 6 2 / 32768) 1)
    ∷ options_row field.IPV4_OPTIONS 34 (area_in x)
    ∷ row field.IPV4_CHECKSUM 24 (not (is_good_sum (take (header_length x) x)))
    ∷ []

-- UDP (RFC 768): d is the data of the IPv4 packet, which begins at the octet `start` of the frame
abbrev pub udp_rows : (src dst d : List ℕ) → (start : ℕ) → List Row
udp_rows src dst d start =
    let n = number_at d 4 2 in
    row field.UDP_SOURCE start (is_shorter d 2)
    ∷ row field.UDP_DESTINATION (start + 2) (is_shorter d 4)
    ∷ row field.UDP_LENGTH (start + 4) (is_shorter d 6 || nat_lt n 8 || is_shorter d n)
    ∷ row field.UDP_CHECKSUM (start + 6) (differs (number_at d 6 2) 0 && not (is_good_sum (udp_pseudo_header src dst n ++ take n d)))
    ∷ []

-- TCP (RFC 793): d and its start as above
abbrev pub tcp_rows : (src dst d : List ℕ) → (start : ℕ) → List Row
tcp_rows src dst d start =
    let offset = number_at d 12 1 / 16 in
    row field.TCP_SOURCE start (is_shorter d 2)
    ∷ row field.TCP_DESTINATION (start + 2) (is_shorter d 4)
    ∷ row field.TCP_SEQUENCE (start + 4) (is_shorter d 8)
    ∷ row field.TCP_ACKNOWLEDGMENT (start + 8) (is_shorter d 12)
    ∷ row field.TCP_OFFSET (start + 12) (is_shorter d 13 || nat_lt offset 5 || is_shorter d (4 * offset))
    ∷ options_row field.TCP_OPTIONS (start + 20) (slice_range d 20 (4 * offset))
    ∷ row field.TCP_CHECKSUM (start + 16) (not (is_good_sum (tcp_pseudo_header src dst (length d) ++ d)))
    ∷ []

-- the data of an IPv4 packet: UDP and TCP are read in whole packets alone
abbrev pub content_rows : (x : List ℕ) → List Row
content_rows x =
    let src = slice_range x 12 16 in
    let dst = slice_range x 16 20 in
    let protocol = number_at x 9 1 in
    let start = 14 + header_length x in
    if is_fragment_in x then []
    else if nat_eq protocol 17 then udp_rows src dst (content_in x) start
    else if nat_eq protocol 6 then tcp_rows src dst (content_in x) start
    else []

-- all rows that judge the frame, in their order
abbrev pub rows_for : (frame : List ℕ) → List Row
rows_for frame =
    let x = drop 14 frame in
    let ether_type = number_at frame 12 2 in
    ethernet_rows frame
    ++ (if nat_eq ether_type arp_type then arp_rows x
    else if nat_eq ether_type ipv4_type then ipv4_rows x ++ content_rows x
    else [])

-- the first field of the frame that has no admissible reading
abbrev pub refusal : (frame : List ℕ) → Option RefusalView
refusal frame = first_failing (rows_for frame)
