-- The rows that refuse a datagram are those of the table.
use Rattle.std.proofs.Common.{◌≡◌, ℕ, ◌+◌, ◌-◌, ◌≤◌, false, not, ◌&&◌, ◌||◌, List, [], ◌∷◌, ◌++◌, length, take, drop, nat_eq, nat_lt, refl, sym, ap, ◌∙◌, arith, length-take, length-drop}
use Rattle.std.proofs.lemmas.Bool.{lt-ltb, le-ltb, ltb-true, ltb-false, or_parts}
use Rattle.std.proofs.lemmas.List.{drop-take, take-take}
use Rattle.narc_bits.specs.Octets.{IsOctets, is_shorter, number_at, number_of}
use Rattle.narc_bits.specs.Bits.{bits}
use Rattle.narc_bits.specs.InternetSum.{is_good_sum, is_good_total}
use Rattle.narc_bits.proofs.Octets.{IsOctets-take}
use Rattle.narc_format.specs.Rows.{row, first_failing, differs}
use Rattle.narc_packet.specs.declared.field.TheConstants as field
use Rattle.narc_layout.proofs.SameRows.{same_test, shorter-drop, not_true, or_assoc, not_and, not_or, not_not, row_same, row_passes}
use Rattle.narc_layout.proofs.SumReads.{has_no_sum, sum_of_octets, word_in_hole, good_behind}
use Rattle.narc_packet.specs.Udp.{udp_pseudo_header}
use Rattle.narc_packet.specs.Refusal.{udp_rows}
use Rattle.narc_packet.proofs.PseudoHeaders.{pseudo_even}
use Rattle.narc_transport.specs.declared.context.Ends.{Ends}
use Rattle.narc_transport.specs.Context.{IsEnds}
use Rattle.narc_transport.specs.Udp.{is_udp_length, udp_pseudo_of}
use Rattle.narc_transport.proofs.UdpRead.{has_good_sum, datagram_size, payload_length, summed_rows}

-- the length is below 8, or above the octets that are there
length_fails : (there n : ℕ) → not (is_udp_length there n) ≡ (nat_lt n 8 || nat_lt there n)
length_fails there n =
    let few : not (nat_lt 7 n) ≡ nat_lt n 8 = same_test (not (nat_lt 7 n)) (nat_lt n 8) (λ h. lt-ltb n 8 (omega (arith, ltb-false 7 n (not_true (nat_lt 7 n) h)))) (λ h. ap not (le-ltb 7 n (omega (arith, ltb-true n 8 h)))) in
    not_and (nat_lt 7 n) (not (nat_lt there n)) ∙ ap (λ t. t || not (not (nat_lt there n))) few ∙ ap (λ t. nat_lt n 8 || t) (not_not (nat_lt there n))

-- the row of the checksum, where the length is right
sum_fails : (e : Ends) → IsEnds e → (d : List ℕ) → IsOctets d → 8 ≤ number_at d 4 2 → number_at d 4 2 ≤ length d
    → not (has_good_sum (e, length d) (take (datagram_size d) d)) ≡ (differs (number_at d 6 2) 0 && not (is_good_sum (udp_pseudo_header e.src e.dst (number_at d 4 2) ++ take (number_at d 4 2) d)))
sum_fails e ok d each least most =
    let n = number_at d 4 2 in
    let o = take n d in
    let size : length o ≡ n = omega (arith, most, length-take n d) in
    let whole : datagram_size d ≡ n = omega (arith, least) in
    let six : 6 + (n - 6) ≡ n = omega (arith, least) in
    let cut : drop 6 o ≡ take (n - 6) (drop 6 d) = ap (λ k. drop 6 (take k d)) (sym six) ∙ drop-take 6 (n - 6) d in
    let word : number_at o 6 2 ≡ number_at d 6 2 = ap (λ l. number_of (take 2 l)) cut ∙ ap number_of (take-take 2 (n - 6) (drop 6 d) (omega (arith, least))) in
    let none : has_no_sum 6 (bits o) ≡ nat_eq (number_at d 6 2) 0 = word_in_hole 6 o (IsOctets-take n d each) (omega (arith, size, least)) ∙ ap (λ k. nat_eq k 0) word in
    let sum : is_good_total (sum_of_octets udp_pseudo_of (e, length d) o) ≡ is_good_sum (udp_pseudo_header e.src e.dst n ++ o) =
    good_behind (udp_pseudo_of (e, length d) (length o)) o (pseudo_even e.src e.dst 17 (length o) ok) ∙ ap (λ k. is_good_sum (udp_pseudo_header e.src e.dst k ++ o)) size in
    ap (λ k. not (has_good_sum (e, length d) (take k d))) whole ∙ not_or (has_no_sum 6 (bits o)) (is_good_total (sum_of_octets udp_pseudo_of (e, length d) o)) ∙ ap (λ t. not t && not (is_good_total (sum_of_octets udp_pseudo_of (e, length d) o))) none ∙ ap (λ t. differs (number_at d 6 2) 0 && not t) sum

-- where the length is right, so many octets are there
length_right : (d : List ℕ) (n : ℕ) → (is_shorter d 6 || nat_lt n 8 || is_shorter d n) ≡ false → (8 ≤ n) × (n ≤ length d)
length_right d n h =
    let fits = or_parts (is_shorter d 6 || nat_lt n 8) (is_shorter d n) h in
    (omega (arith, ltb-false n 8 (or_parts (is_shorter d 6) (nat_lt n 8) fits.0).1), omega (arith, ltb-false (length d) n fits.1))

-- behind a right length, only the checksum can fail
sum_rows : (e : Ends) → IsEnds e → (start : ℕ) (d : List ℕ) → IsOctets d → 8 ≤ number_at d 4 2 → number_at d 4 2 ≤ length d
    → first_failing (row field.UDP_CHECKSUM (start + 6) (is_shorter d 8) ∷ row field.UDP_CHECKSUM (start + 8) (is_shorter (drop 8 d) (payload_length d)) ∷ row field.UDP_CHECKSUM (start + 6) (not (has_good_sum (e, length d) (take (datagram_size d) d))) ∷ [])
    ≡ first_failing (row field.UDP_CHECKSUM (start + 6) (differs (number_at d 6 2) 0 && not (is_good_sum (udp_pseudo_header e.src e.dst (number_at d 4 2) ++ take (number_at d 4 2) d))) ∷ [])
sum_rows e ok start d each least most =
    let n = number_at d 4 2 in
    let bad = row field.UDP_CHECKSUM (start + 6) (not (has_good_sum (e, length d) (take (datagram_size d) d))) ∷ [] in
    row_passes field.UDP_CHECKSUM (start + 6) (is_shorter d 8) (row field.UDP_CHECKSUM (start + 8) (is_shorter (drop 8 d) (payload_length d)) ∷ bad) (le-ltb (length d) 8 (omega (arith, least, most)))
    ∙ row_passes field.UDP_CHECKSUM (start + 8) (is_shorter (drop 8 d) (payload_length d)) bad (le-ltb (length (drop 8 d)) (payload_length d) (omega (arith, most, length-drop 8 d)))
    ∙ ap (λ t. first_failing (row field.UDP_CHECKSUM (start + 6) t ∷ [])) (sum_fails e ok d each least most)

pub udp_rows_are : (e : Ends) → IsEnds e → (start : ℕ) (d : List ℕ) → IsOctets d → first_failing (summed_rows (e, length d) start d ++ []) ≡ first_failing (udp_rows e.src e.dst d start)
udp_rows_are e ok start d each =
    let n = number_at d 4 2 in
    let length_is : (is_shorter (drop 4 d) 2 || not (is_udp_length (length d) n)) ≡ (is_shorter d 6 || nat_lt n 8 || is_shorter d n) =
    ap (λ t. t || not (is_udp_length (length d) n)) (shorter-drop 4 2 d (omega arith)) ∙ ap (λ t. is_shorter d 6 || t) (length_fails (length d) n) ∙ or_assoc (is_shorter d 6) (nat_lt n 8) (is_shorter d n) in
    let raw_sum =
    row field.UDP_CHECKSUM (start + 6) (is_shorter d 8) ∷ row field.UDP_CHECKSUM (start + 8) (is_shorter (drop 8 d) (payload_length d)) ∷ row field.UDP_CHECKSUM (start + 6) (not (has_good_sum (e, length d) (take (datagram_size d) d))) ∷ [] in
    let raw_length = row field.UDP_LENGTH (start + 4 + 0) (is_shorter (drop 4 d) 2 || not (is_udp_length (length d) n)) ∷ raw_sum in
    let sum = row field.UDP_CHECKSUM (start + 6) (differs (number_at d 6 2) 0 && not (is_good_sum (udp_pseudo_header e.src e.dst n ++ take n d))) ∷ [] in
    let its_length = row field.UDP_LENGTH (start + 4) (is_shorter d 6 || nat_lt n 8 || is_shorter d n) ∷ sum in
    row_same field.UDP_SOURCE (start + 0) start (is_shorter d 2) (is_shorter d 2) (row field.UDP_DESTINATION (start + 2 + 0) (is_shorter (drop 2 d) 2) ∷ raw_length) (row field.UDP_DESTINATION (start + 2) (is_shorter d 4) ∷ its_length) (omega arith) refl
    (λ h. row_same field.UDP_DESTINATION (start + 2 + 0) (start + 2) (is_shorter (drop 2 d) 2) (is_shorter d 4) raw_length its_length (omega arith) (shorter-drop 2 2 d (omega arith))
    (λ k. row_same field.UDP_LENGTH (start + 4 + 0) (start + 4) (is_shorter (drop 4 d) 2 || not (is_udp_length (length d) n)) (is_shorter d 6 || nat_lt n 8 || is_shorter d n) raw_sum sum (omega arith) length_is
    (λ right. let fits = length_right d n right in sum_rows e ok start d each fits.0 fits.1)))
