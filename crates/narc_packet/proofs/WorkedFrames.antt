-- Worked frames, by evaluation: which field refuses them.
use Rattle.std.specs.Prelude.{◌≡◌, ℕ, ◌+◌, ◌-◌, List, [], ◌∷◌, ◌++◌, codes, length, Option, Some, None, take, drop, map, replicate, refl}
use Rattle.std.specs.List.{range_with_len}
use Rattle.narc_bits.specs.Octets.{big_endian}
use Rattle.narc_bits.specs.InternetSum.{total}
use Rattle.narc_format.specs.Rows.{RefusalView}
use Rattle.narc_packet.specs.Refusal.{refusal}
use Rattle.narc_packet.proofs.WorkedOctets.{from_hex, other_frame, arp_frame, padded_frame, udp_frame, zero_sum_frame, ones_sum_frame, ones_udp_frame, absent_udp_frame, spare_area_frame, option_frame, no_operation_frame, fragment_frame, tcp_frame, request_frame, odd_frame, surplus_frame}

abbrev refused : (field at : ℕ) → Option RefusalView
refused field at = Some (record { field = field; at = at })

read-ethernet : (refusal other_frame ≡ None) × (refusal arp_frame ≡ None) × (refusal padded_frame ≡ None)
read-ethernet = (refl, refl, refl)

-- the header cut off in each of its fields
refusal-header : map (λ n. refusal (take n other_frame)) (0 ∷ 5 ∷ 6 ∷ 11 ∷ 12 ∷ 13 ∷ 14 ∷ [])
    ≡ refused 1 0 ∷ refused 1 0 ∷ refused 2 6 ∷ refused 2 6 ∷ refused 3 12 ∷ refused 3 12 ∷ None ∷ []
refusal-header = refl

-- an ARP packet cut off in each of its fields
refusal-arp : map (λ n. refusal (take n arp_frame)) (15 ∷ 17 ∷ 18 ∷ 19 ∷ 21 ∷ 27 ∷ 31 ∷ 37 ∷ 41 ∷ [])
    ≡ refused 4 14 ∷ refused 5 16 ∷ refused 6 18 ∷ refused 7 19 ∷ refused 8 20 ∷ refused 9 22 ∷ refused 10 28 ∷ refused 11 32 ∷ refused 12 38 ∷ []
refusal-arp = refl

-- another hardware, and an operation cut in half
refusal-hardware : refusal (from_hex (codes "0200000000aa0200000000bb080600060800060400010200000000bb0a0000010000000000000a000002")) ≡ refused 4 14
refusal-hardware = refl

refusal-operation : refusal (from_hex (codes "0200000000aa0200000000bb080600010800060400")) ≡ refused 8 20
refusal-operation = refl

-- both spellings of a zero header checksum, an absent UDP checksum, free octets in an area, and surplus
read-ipv4 : map refusal (udp_frame ∷ zero_sum_frame ∷ ones_sum_frame ∷ ones_udp_frame ∷ absent_udp_frame ∷ spare_area_frame ∷ option_frame ∷ no_operation_frame ∷ fragment_frame ∷ tcp_frame ∷ request_frame ∷ odd_frame ∷ surplus_frame ∷ []) ≡ replicate 13 None
unfolding total
read-ipv4 = refl

-- a header checksum that is one less
refusal-wrong-sum : refusal (from_hex (codes "0200000000aa0200000000bb08004500001c00000000401166ce0a0000010a000002000100020008ebd8")) ≡ refused 19 24
unfolding total
refusal-wrong-sum = refl

-- a total length that is one less, and the checksum for it
refusal-short-total : refusal (from_hex (codes "0200000000aa0200000000bb08004500001b00000000401166cf0a0000010a000002000100020008ebd8")) ≡ refused 19 24
unfolding total
refusal-short-total = refl

refusal-short-data : refusal (from_hex (codes "0200000000aa0200000000bb08004500001b00000000401166d00a0000010a000002000100020008ebd8")) ≡ refused 22 38
unfolding total
refusal-short-data = refl

-- without the last octet
refusal-cut : refusal (from_hex (codes "0200000000aa0200000000bb08004500001c00000000401166cf0a0000010a000002000100020008eb")) ≡ refused 16 16
refusal-cut = refl

-- an option without its length
refusal-bad-option : refusal (from_hex (codes "0200000000aa0200000000bb08004600002000000000401161870a0000010a00000201010144000100020008ebd8")) ≡ refused 18 37
refusal-bad-option = refl

-- another version, a header length below five, and the reserved flag
refusal-version : refusal (from_hex (codes "0200000000aa0200000000bb08006500001c00000000401166cf0a0000010a000002000100020008ebd8")) ≡ refused 13 14
refusal-version = refl

refusal-header-length : refusal (from_hex (codes "0200000000aa0200000000bb08004400001c00000000401166cf0a0000010a000002000100020008ebd8")) ≡ refused 14 14
refusal-header-length = refl

refusal-reserved : refusal (from_hex (codes "0200000000aa0200000000bb08004500001c00008000401166cf0a0000010a000002000100020008ebd8")) ≡ refused 17 20
refusal-reserved = refl

-- a TCP segment that ends before its offset
refusal-short-tcp : refusal (from_hex (codes "0200000000aa0200000000bb08004500002000000000400666d60a0000010a000002040100500000000100000000")) ≡ refused 28 46
unfolding total
refusal-short-tcp = refl

-- the refusals of the first n octets, for each n up to the length
abbrev refusals_of_fronts : List ℕ → List (Option RefusalView)
refusals_of_fronts frame = map (λ n. refusal (take n frame)) (range_with_len 0 (length frame + 1))

-- a frame of UDP or of TCP that is cut is too short for its total length
refusals-udp : refusals_of_fronts udp_frame ≡
    replicate 6 (refused 1 0) ++ replicate 6 (refused 2 6) ++ replicate 2 (refused 3 12) ++ refused 13 14 ∷ refused 15 15 ∷ [] ++ replicate 26 (refused 16 16) ++ None ∷ []
unfolding total
refusals-udp = refl

refusals-tcp : refusals_of_fronts request_frame ≡
    replicate 6 (refused 1 0) ++ replicate 6 (refused 2 6) ++ replicate 2 (refused 3 12) ++ refused 13 14 ∷ refused 15 15 ∷ [] ++ replicate 58 (refused 16 16) ++ None ∷ []
unfolding total
refusals-tcp = refl

-- the first n octets of a TCP segment, in a packet of that length
abbrev tcp_front : ℕ → List ℕ
tcp_front n = take 16 tcp_frame ++ big_endian 2 (20 + n) ++ take 6 (drop 18 tcp_frame) ++ big_endian 2 (0x66e2 - n) ++ take (8 + n) (drop 26 tcp_frame)

refusals-segment : map (λ n. refusal (tcp_front n)) (range_with_len 0 25) ≡
    replicate 2 (refused 24 34) ++ replicate 2 (refused 25 36) ++ replicate 4 (refused 26 38) ++ replicate 4 (refused 27 42) ++ replicate 12 (refused 28 46) ++ None ∷ []
unfolding total
refusals-segment = refl

-- a length of an option that is missing, too small, or past the area
refusals-option : map (λ area. refusal (from_hex (codes "0200000000aa0200000000bb0800460000180000000040fdd0e20a0000010a000002") ++ area))
    ((1 ∷ 1 ∷ 1 ∷ 68 ∷ []) ∷ (2 ∷ 0 ∷ 0 ∷ 0 ∷ []) ∷ (2 ∷ 1 ∷ 0 ∷ 0 ∷ []) ∷ (2 ∷ 5 ∷ 0 ∷ 0 ∷ []) ∷ (148 ∷ 4 ∷ 0 ∷ 0 ∷ []) ∷ [])
    ≡ refused 18 37 ∷ refused 18 34 ∷ refused 18 34 ∷ refused 18 34 ∷ None ∷ []
unfolding total
refusals-option = refl
