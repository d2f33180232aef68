-- A frame after assignments in place.
use Rattle.std.specs.Prelude.{ℕ, ◌+◌, ◌*◌, ◌/◌, ◌%◌, ◌^◌, Bool, List, [], ◌∷◌, ◌++◌, drop, fold, nat_eq, Option, Some, None, if◌then◌else◌}
use Rattle.narc_bits.specs.Octets.{big_endian, number_at}
use Rattle.narc_packet.specs.Frame.{arp_type, ipv4_type}
use Rattle.narc_packet.specs.Refusal.{header_length, is_fragment_in}
use Rattle.narc_mend.specs.declared.mend.Zero.TheVariants as spelling
use Rattle.narc_patch.specs.declared.change.Checksum.{Checksum}
use Rattle.narc_patch.specs.declared.headers.Headers.{Headers}
use Rattle.narc_patch.specs.declared.headers.Headers.TheVariants.{Unread, Arp, Ipv4, Udp, Tcp}
use Rattle.narc_edit.specs.declared.edits.Edits.{Edits}
use Rattle.narc_patch.specs.Change.{Change, changed}

-- octets that become a number
abbrev pub whole : (at count value : ℕ) → List Checksum → Change
whole at count value sums = record { at = at; count = count; to = λ old. value; sums = sums }

-- so many bits of octets, above some lower ones, that become a number
abbrev pub part : (at count below bits value : ℕ) → List Checksum → Change
part at count below bits value sums = record {
  at = at;
  count = count;
  to = λ old. (old / 2 ^ (below + bits) * 2 ^ bits + value) * 2 ^ below + old % 2 ^ below;
  sums = sums;
}

-- octets, word by word
abbrev pub words : (at : ℕ) → List ℕ → List Checksum → List Change
words at [] sums = []
words at (last ∷ []) sums = []
words at (high ∷ low ∷ octets) sums = whole at 2 (256 * high + low) sums ∷ words (at + 2) octets sums

-- what an assignment changes
abbrev pub assigned : {V : Type 0} → Option V → (V → List Change) → List Change
assigned None changes = []
assigned (Some value) changes = changes value

-- the table of fields: where each stands, and which checksums are over it
abbrev pub eth_changes : Edits → List Change
eth_changes es = assigned es.eth_dst (λ v. words 0 v []) ++ assigned es.eth_src (λ v. words 6 v [])

abbrev pub arp_changes : Edits → List Change
arp_changes es =
    assigned es.arp_op (λ v. whole 20 2 v [] ∷ [])
    ++ assigned es.arp_sha (λ v. words 22 v [])
    ++ assigned es.arp_spa (λ v. words 28 v [])
    ++ assigned es.arp_tha (λ v. words 32 v [])
    ++ assigned es.arp_tpa (λ v. words 38 v [])

-- the checksum of the IPv4 header
abbrev pub header_sum : Checksum
header_sum = record { at = 24; zero = spelling.Plain }

abbrev pub flag_number : Bool → ℕ
flag_number flag = if flag then 1 else 0

-- the header of IPv4; the addresses stand in the pseudo header of UDP and TCP too
abbrev pub ipv4_changes : Edits → (over_addresses : List Checksum) → List Change
ipv4_changes es over_addresses =
    assigned es.ip_tos (λ v. whole 15 1 v (header_sum ∷ []) ∷ [])
    ++ assigned es.ip_id (λ v. whole 18 2 v (header_sum ∷ []) ∷ [])
    ++ assigned es.ip_df (λ v. part 20 1 6 1 (flag_number v) (header_sum ∷ []) ∷ [])
    ++ assigned es.ip_ttl (λ v. whole 22 1 v (header_sum ∷ []) ∷ [])
    ++ assigned es.ip_src (λ v. words 26 v over_addresses)
    ++ assigned es.ip_dst (λ v. words 30 v over_addresses)

-- the headers of UDP and TCP begin at the octet `start`
abbrev pub udp_changes : Edits → (start : ℕ) → List Checksum → List Change
udp_changes es start sums =
    assigned es.udp_sport (λ v. whole start 2 v sums ∷ [])
    ++ assigned es.udp_dport (λ v. whole (start + 2) 2 v sums ∷ [])

abbrev pub tcp_changes : Edits → (start : ℕ) → List Checksum → List Change
tcp_changes es start sums =
    assigned es.tcp_sport (λ v. whole start 2 v sums ∷ [])
    ++ assigned es.tcp_dport (λ v. whole (start + 2) 2 v sums ∷ [])
    ++ assigned es.tcp_seq (λ v. words (start + 4) (big_endian 4 v) sums)
    ++ assigned es.tcp_ack (λ v. words (start + 8) (big_endian 4 v) sums)
    ++ assigned es.tcp_reserved (λ v. part (start + 12) 2 6 6 v sums ∷ [])
    ++ assigned es.tcp_flags (λ v. part (start + 13) 1 0 6 v sums ∷ [])
    ++ assigned es.tcp_window (λ v. whole (start + 14) 2 v sums ∷ [])
    ++ assigned es.tcp_urgent (λ v. whole (start + 18) 2 v sums ∷ [])

abbrev pub udp_sums : (start : ℕ) → List Checksum
udp_sums start = record { at = start + 6; zero = spelling.Udp } ∷ []

abbrev pub tcp_sums : (start : ℕ) → List Checksum
tcp_sums start = record { at = start + 16; zero = spelling.Plain } ∷ []

-- the headers of an IPv4 packet: x is what follows that of Ethernet; UDP and TCP are read in whole packets alone
abbrev pub headers_of_ipv4 : (x : List ℕ) → Headers
headers_of_ipv4 x =
    let protocol = number_at x 9 1 in
    let start = 14 + header_length x in
    if is_fragment_in x then Ipv4
    else if nat_eq protocol 17 then Udp start
    else if nat_eq protocol 6 then Tcp start
    else Ipv4

abbrev pub headers_for : (ether_type : ℕ) → (x : List ℕ) → Headers
headers_for ether_type x =
    if nat_eq ether_type arp_type then Arp
    else if nat_eq ether_type ipv4_type then headers_of_ipv4 x
    else Unread

abbrev pub headers_in : (frame : List ℕ) → Headers
headers_in frame = headers_for (number_at frame 12 2) (drop 14 frame)

-- the changes of the fields of these headers
abbrev pub header_changes : Edits → Headers → List Change
header_changes es Unread = []
header_changes es Arp = arp_changes es
header_changes es Ipv4 = ipv4_changes es (header_sum ∷ [])
header_changes es (Udp start) = ipv4_changes es (header_sum ∷ udp_sums start) ++ udp_changes es start (udp_sums start)
header_changes es (Tcp start) = ipv4_changes es (header_sum ∷ tcp_sums start) ++ tcp_changes es start (tcp_sums start)

-- the changes of the fields that the packet of the frame has, in order
abbrev pub changes : Edits → (frame : List ℕ) → List Change
changes es frame = eth_changes es ++ header_changes es (headers_in frame)

-- the frame after all assignments, in the order of the table
abbrev pub patched : Edits → (frame : List ℕ) → List ℕ
patched es frame = fold changed frame (changes es frame)
