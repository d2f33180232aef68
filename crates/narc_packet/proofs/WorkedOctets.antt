-- Octets in hexadecimal digits, and worked frames.
use Rattle.std.specs.Prelude.{◌≡◌, ℕ, ◌+◌, ◌*◌, ◌-◌, true, List, [], ◌∷◌, ◌++◌, codes, nat_lt, if◌then◌else◌}
use Rattle.std.specs.List.{list_all}
use Rattle.std.proofs.lemmas.Bool.{ltb-true, and_parts}
use Rattle.narc_bits.specs.Octets.{IsOctets}

abbrev pub hex_value : ℕ → ℕ
hex_value c = if nat_lt c 58 then c - 48 else c - 87

-- the octets of a text of hexadecimal digits
abbrev pub from_hex : List ℕ → List ℕ
from_hex [] = []
from_hex (high ∷ []) = []
from_hex (high ∷ low ∷ l) = (16 * hex_value high + hex_value low) ∷ from_hex l

-- octets, by a test that computes
pub octets_by_test : (l : List ℕ) → list_all (λ o. nat_lt o 256) l ≡ true → IsOctets l
octets_by_test [] e = tt
octets_by_test (o ∷ l) e =
    let both = and_parts (nat_lt o 256) (list_all (λ o. nat_lt o 256) l) e in
    (ltb-true o 256 both.0, octets_by_test l both.1)

-- a frame of the type 0x88b5 with one octet
abbrev pub other_frame : List ℕ
other_frame = from_hex (codes "0200000000aa0200000000bb88b500")

-- an ARP request, and 18 octets of padding
abbrev pub arp_frame : List ℕ
arp_frame =
    from_hex (codes "0200000000aa0200000000bb080600010800060400010200000000bb0a0000010000000000000a000002")

abbrev pub padded_frame : List ℕ
padded_frame = arp_frame ++ from_hex (codes "aaaaaaaaaaaaaaaaaaaaaaaaaaaaaaaaaaaa")

-- a UDP datagram without payload
abbrev pub udp_frame : List ℕ
udp_frame = from_hex (codes "0200000000aa0200000000bb08004500001c00000000401166cf0a0000010a000002000100020008ebd8")

-- its header checksum computes to 0, and is written so, or as all ones
abbrev pub zero_sum_frame : List ℕ
zero_sum_frame = from_hex (codes "0200000000aa0200000000bb08004500001c66cf0000401100000a0000010a000002000100020008ebd8")

abbrev pub ones_sum_frame : List ℕ
ones_sum_frame = from_hex (codes "0200000000aa0200000000bb08004500001c66cf00004011ffff0a0000010a000002000100020008ebd8")

-- its UDP checksum computes to 0, and is written as all ones, or is absent
abbrev pub ones_udp_frame : List ℕ
ones_udp_frame = from_hex (codes "0200000000aa0200000000bb08004500001c00000000401166cf0a0000010a000002ebd900020008ffff")

abbrev pub absent_udp_frame : List ℕ
absent_udp_frame = from_hex (codes "0200000000aa0200000000bb08004500001c00000000401166cf0a0000010a000002ebd9000200080000")

-- an options area of an end and 39 free octets
abbrev pub spare_area_frame : List ℕ
spare_area_frame = from_hex (codes "0200000000aa0200000000bb08004f000044000000004011b1520a0000010a00000200aaaaaaaaaaaaaaaaaaaaaaaaaaaaaaaaaaaaaaaaaaaaaaaaaaaaaaaaaaaaaaaaaaaaaaaaaaaaaa000100020008ebd8")

-- an option with two octets
abbrev pub option_frame : List ℕ
option_frame = from_hex (codes "0200000000aa0200000000bb080046000020000000004011d1c60a0000010a00000294040000000100020008ebd8")

-- no operation, an option without data, and an end
abbrev pub no_operation_frame : List ℕ
no_operation_frame = from_hex (codes "0200000000aa0200000000bb08004600002000000000401161870a0000010a00000201440300000100020008ebd8")

-- the first fragment
abbrev pub fragment_frame : List ℕ
fragment_frame = from_hex (codes "0200000000aa0200000000bb08004500001c00002000401146cf0a0000010a000002000100020008ebd8")

-- a TCP segment with its maximum segment size, and two octets of padding
abbrev pub tcp_frame : List ℕ
tcp_frame = from_hex (codes "0200000000aa0200000000bb08004500002c00000000400666ca0a0000010a000002040100500000000100000000600220005fd20000020405b40000")

-- a connection request with five options
abbrev pub request_frame : List ℕ
request_frame = from_hex (codes "0200000000aa0200000000bb08004500003c00004000400626ba0a0000010a000002040100500000000100000000a00220000fab0000020405b40402080a000000010000000001030307")

-- a payload of one octet
abbrev pub odd_frame : List ℕ
odd_frame = from_hex (codes "0200000000aa0200000000bb08004500001d00000000401166ce0a0000010a000002000100020009ecd5ff")

-- two octets behind the UDP length
abbrev pub surplus_frame : List ℕ
surplus_frame = from_hex (codes "0200000000aa0200000000bb08004500001e00000000401166cd0a0000010a000002000100020008ebd8beef")
