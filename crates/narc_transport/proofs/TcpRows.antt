-- The rows that refuse a segment are those of the table.
use Rattle.std.proofs.Common.{◌≡◌, ℕ, ◌+◌, ◌*◌, ◌-◌, ◌/◌, ◌^◌, ◌≤◌, ◌<◌, Bool, true, false, not, ◌&&◌, ◌||◌, List, [], ◌∷◌, ◌++◌, length, take, drop, nat_lt, refl, ap, ◌∙◌, arith, length-take, length-drop}
use Rattle.std.specs.Prelude.{slice_range, unwrap_or, is_some}
use Rattle.std.proofs.lemmas.Bool.{lt-ltb, le-ltb, ltb-false, or_parts, or_from}
use Rattle.std.proofs.lemmas.List.{drop-drop}
use Rattle.narc_bits.specs.Octets.{IsOctets, is_shorter, number_at, number_of}
use Rattle.narc_bits.specs.InternetSum.{is_good_sum, is_good_total}
use Rattle.narc_bits.proofs.Octets.{IsOctets-drop}
use Rattle.narc_format.specs.Rows.{Row, row, first_failing}
use Rattle.narc_packet.specs.declared.field.TheConstants as field
use Rattle.narc_layout.proofs.SameRows.{same_fail, shorter-drop, row_same, row_passes}
use Rattle.narc_layout.proofs.SumReads.{sum_of_octets, good_behind}
use Rattle.narc_packet.specs.Options.{bad_option}
use Rattle.narc_packet.specs.Tcp.{tcp_pseudo_header}
use Rattle.narc_packet.specs.Refusal.{options_row, tcp_rows}
use Rattle.narc_packet.proofs.PseudoHeaders.{pseudo_even}
use Rattle.narc_transport.specs.declared.context.Ends.{Ends}
use Rattle.narc_transport.specs.Context.{IsEnds}
use Rattle.narc_transport.specs.Tcp.{is_offset, tcp_area_length, tcp_pseudo_of}
use Rattle.narc_transport.proofs.TcpChosen.{offset_fits, offset_least, offset_most}
use Rattle.narc_transport.proofs.TcpRead.{has_good_sum, summed_rows}

-- an octet is the high half of a word
high_half : (l : List ℕ) → IsOctets l → 2 ≤ length l → number_of (take 2 l) / 256 ≡ number_of (take 1 l)
high_half [] each size = absurd (none size) where
  none : 2 ≤ 0 → ⊥
  none h = omega (arith, h)
high_half (a ∷ []) each size = absurd (none size) where
  none : 2 ≤ 1 → ⊥
  none h = omega (arith, h)
high_half (a ∷ b ∷ l) each size = omega (arith, each.0, each.1.0)

octet_range : (l : List ℕ) → IsOctets l → number_of (take 1 l) < 256
octet_range [] each = omega arith
octet_range (a ∷ l) each = omega (arith, each.0)

-- the offset in the octets
abbrev offset_in : List ℕ → ℕ
offset_in d = number_at d 12 1 / 16

offset_is : (d : List ℕ) → IsOctets d → 14 ≤ length d → number_at d 12 2 / 4096 ≡ offset_in d
offset_is d each room = let back = drop 12 d in omega (arith, high_half back (IsOctets-drop 12 d each) (omega (arith, room, length-drop 12 d)))

offset_range : (d : List ℕ) → IsOctets d → offset_in d < 16
offset_range d each = omega (arith, octet_range (drop 12 d) (IsOctets-drop 12 d each))

-- the word is refused, or the octet
abbrev word_fails : List ℕ → Bool
word_fails d = is_shorter d 14 || not (is_offset (length d) (number_at d 12 2))

abbrev octet_fails : List ℕ → Bool
octet_fails d = is_shorter d 13 || nat_lt (offset_in d) 5 || is_shorter d (4 * offset_in d)

not_fails : (a : Bool) → not a ≡ false → a ≡ true
not_fails true h = refl
not_fails false h = cc

-- where neither is, header and area are there
record IsRight (d : List ℕ) : Type 0 where
  least : 5 ≤ offset_in d
  most : 4 * offset_in d ≤ length d

octet_right : (d : List ℕ) → octet_fails d ≡ false → IsRight d
octet_right d h =
    let p = or_parts (is_shorter d 13 || nat_lt (offset_in d) 5) (is_shorter d (4 * offset_in d)) h in
    record { least = omega (arith, ltb-false (offset_in d) 5 (or_parts (is_shorter d 13) (nat_lt (offset_in d) 5) p.0).1); most = omega (arith, ltb-false (length d) (4 * offset_in d) p.1) }

word_right : (d : List ℕ) → IsOctets d → word_fails d ≡ false → IsRight d
word_right d each h =
    let n = number_at d 12 2 in
    let p = or_parts (is_shorter d 14) (not (is_offset (length d) n)) h in
    let same = offset_is d each (omega (arith, ltb-false (length d) 14 p.0)) in
    let fits = not_fails (is_offset (length d) n) p.1 in
    record { least = omega (arith, offset_least (length d) n fits, same); most = omega (arith, offset_most (length d) n fits, same, offset_range d each) }

offset_fails : (d : List ℕ) → IsOctets d → word_fails d ≡ octet_fails d
offset_fails d each =
    let n = number_at d 12 2 in
    same_fail (word_fails d) (octet_fails d)
    (λ h.
    let r = word_right d each h in
    or_from (is_shorter d 13 || nat_lt (offset_in d) 5) (is_shorter d (4 * offset_in d))
    (or_from (is_shorter d 13) (nat_lt (offset_in d) 5) (le-ltb (length d) 13 (omega (arith, r.least, r.most))) (le-ltb (offset_in d) 5 r.least))
    (le-ltb (length d) (4 * offset_in d) r.most))
    (λ h.
    let r = octet_right d h in
    let same = offset_is d each (omega (arith, r.least, r.most)) in
    or_from (is_shorter d 14) (not (is_offset (length d) n)) (le-ltb (length d) 14 (omega (arith, r.least, r.most)))
    (ap not (offset_fits (length d) n (omega (arith, same, r.least)) (omega (arith, same, offset_range d each, r.most)))))

-- what is behind the header's first 20 octets, up to its end
abbrev raw_area : List ℕ → List ℕ
raw_area d = take (tcp_area_length (number_at d 12 2)) (drop 2 (drop 18 d))

area_is : (d : List ℕ) → IsOctets d → IsRight d → raw_area d ≡ slice_range d 20 (4 * offset_in d)
area_is d each r =
    let size : tcp_area_length (number_at d 12 2) ≡ 4 * offset_in d - 20 = omega (arith, offset_is d each (omega (arith, r.least, r.most)), offset_range d each) in
    ap (λ k. take k (drop 2 (drop 18 d))) size ∙ ap (take (4 * offset_in d - 20)) (drop-drop 2 18 d)

sum_fails : (e : Ends) → IsEnds e → (d : List ℕ) → length d < 2 ^ 16 → not (has_good_sum (e, length d) d) ≡ not (is_good_sum (tcp_pseudo_header e.src e.dst (length d) ++ d))
sum_fails e ok d small =
    ap (λ t. not (t && is_good_total (sum_of_octets tcp_pseudo_of (e, length d) d))) (lt-ltb (length d) 65536 small) ∙ ap not (good_behind (tcp_pseudo_of (e, length d) (length d)) d (pseudo_even e.src e.dst 6 (length d) ok))

abbrev raw_sum : (e : Ends) → (start : ℕ) → List ℕ → List Row
raw_sum e start d = row field.TCP_CHECKSUM (start + 16) (not (has_good_sum (e, length d) d)) ∷ []

abbrev raw_options : (e : Ends) → (start : ℕ) → List ℕ → List Row
raw_options e start d =
    row field.TCP_OPTIONS (start + 18 + 2) (is_shorter (drop 2 (drop 18 d)) (tcp_area_length (number_at d 12 2)))
    ∷ row field.TCP_OPTIONS (start + 18 + 2) (nat_lt 40 (length (raw_area d)))
    ∷ row field.TCP_OPTIONS (start + 18 + 2 + unwrap_or (bad_option (raw_area d)) 0) (is_some (bad_option (raw_area d)))
    ∷ raw_sum e start d

abbrev raw_behind : (e : Ends) → (start : ℕ) → List ℕ → List Row
raw_behind e start d =
    row field.TCP_CHECKSUM (start + 12 + 2 + 0) (is_shorter (drop 2 (drop 12 d)) 2)
    ∷ row field.TCP_CHECKSUM (start + 16) (is_shorter d 18)
    ∷ row field.TCP_CHECKSUM (start + 18 + 0) (is_shorter (drop 18 d) 2)
    ∷ raw_options e start d

abbrev table_sum : (e : Ends) → (start : ℕ) → List ℕ → List Row
table_sum e start d = row field.TCP_CHECKSUM (start + 16) (not (is_good_sum (tcp_pseudo_header e.src e.dst (length d) ++ d))) ∷ []

abbrev table_behind : (e : Ends) → (start : ℕ) → List ℕ → List Row
table_behind e start d = options_row field.TCP_OPTIONS (start + 20) (slice_range d 20 (4 * offset_in d)) ∷ table_sum e start d

-- behind a right offset, only an option and the checksum can fail
options_same : (e : Ends) → IsEnds e → (start : ℕ) (d : List ℕ) → IsOctets d → length d < 2 ^ 16 → IsRight d → first_failing (raw_options e start d) ≡ first_failing (table_behind e start d)
options_same e ok start d each small r =
    let size : tcp_area_length (number_at d 12 2) ≡ 4 * offset_in d - 20 = omega (arith, offset_is d each (omega (arith, r.least, r.most)), offset_range d each) in
    let back = drop 2 (drop 18 d) in
    let long : length back ≡ length d - 20 = omega (arith, length-drop 2 (drop 18 d), length-drop 18 d) in
    let area = raw_area d in
    let bad = bad_option area in
    let same : bad ≡ bad_option (slice_range d 20 (4 * offset_in d)) = ap bad_option (area_is d each r) in
    let one = row field.TCP_OPTIONS (start + 18 + 2 + unwrap_or bad 0) (is_some bad) ∷ raw_sum e start d in
    row_passes field.TCP_OPTIONS (start + 18 + 2) (is_shorter back (tcp_area_length (number_at d 12 2))) (row field.TCP_OPTIONS (start + 18 + 2) (nat_lt 40 (length area)) ∷ one)
    (le-ltb (length back) (tcp_area_length (number_at d 12 2)) (omega (arith, size, long, r.most)))
    ∙ row_passes field.TCP_OPTIONS (start + 18 + 2) (nat_lt 40 (length area)) one (le-ltb 40 (length area) (omega (arith, length-take (tcp_area_length (number_at d 12 2)) back, size, offset_range d each)))
    ∙ row_same field.TCP_OPTIONS (start + 18 + 2 + unwrap_or bad 0) (start + 20 + unwrap_or (bad_option (slice_range d 20 (4 * offset_in d))) 0) (is_some bad) (is_some (bad_option (slice_range d 20 (4 * offset_in d)))) (raw_sum e start d) (table_sum e start d)
    (ap (λ o. start + 18 + 2 + unwrap_or o 0) same ∙ omega arith) (ap is_some same) (λ h. ap (λ t. first_failing (row field.TCP_CHECKSUM (start + 16) t ∷ [])) (sum_fails e ok d small))

behind_same : (e : Ends) → IsEnds e → (start : ℕ) (d : List ℕ) → IsOctets d → length d < 2 ^ 16 → IsRight d → first_failing (raw_behind e start d) ≡ first_failing (table_behind e start d)
behind_same e ok start d each small r =
    let options = raw_options e start d in
    let urgent = row field.TCP_CHECKSUM (start + 18 + 0) (is_shorter (drop 18 d) 2) ∷ options in
    row_passes field.TCP_CHECKSUM (start + 12 + 2 + 0) (is_shorter (drop 2 (drop 12 d)) 2) (row field.TCP_CHECKSUM (start + 16) (is_shorter d 18) ∷ urgent)
    (le-ltb (length (drop 2 (drop 12 d))) 2 (omega (arith, length-drop 2 (drop 12 d), length-drop 12 d, r.least, r.most)))
    ∙ row_passes field.TCP_CHECKSUM (start + 16) (is_shorter d 18) urgent (le-ltb (length d) 18 (omega (arith, r.least, r.most)))
    ∙ row_passes field.TCP_CHECKSUM (start + 18 + 0) (is_shorter (drop 18 d) 2) options (le-ltb (length (drop 18 d)) 2 (omega (arith, length-drop 18 d, r.least, r.most)))
    ∙ options_same e ok start d each small r

pub tcp_rows_are : (e : Ends) → IsEnds e → (start : ℕ) (d : List ℕ) → IsOctets d → length d < 2 ^ 16 → first_failing (summed_rows (e, length d) start d) ≡ first_failing (tcp_rows e.src e.dst d start)
tcp_rows_are e ok start d each small =
    let raw_offset = row field.TCP_OFFSET (start + 12 + 0) (is_shorter (drop 12 d) 2 || not (is_offset (length d) (number_at d 12 2))) ∷ raw_behind e start d in
    let offset = row field.TCP_OFFSET (start + 12) (octet_fails d) ∷ table_behind e start d in
    let raw_ack = row field.TCP_ACKNOWLEDGMENT (start + 4 + 4 + 0) (is_shorter (drop 4 (drop 4 d)) 4) ∷ raw_offset in
    let ack = row field.TCP_ACKNOWLEDGMENT (start + 8) (is_shorter d 12) ∷ offset in
    let raw_place = row field.TCP_SEQUENCE (start + 4 + 0) (is_shorter (drop 4 d) 4) ∷ raw_ack in
    let place = row field.TCP_SEQUENCE (start + 4) (is_shorter d 8) ∷ ack in
    row_same field.TCP_SOURCE (start + 0) start (is_shorter d 2) (is_shorter d 2) (row field.TCP_DESTINATION (start + 2 + 0) (is_shorter (drop 2 d) 2) ∷ raw_place) (row field.TCP_DESTINATION (start + 2) (is_shorter d 4) ∷ place) (omega arith) refl
    (λ h. row_same field.TCP_DESTINATION (start + 2 + 0) (start + 2) (is_shorter (drop 2 d) 2) (is_shorter d 4) raw_place place (omega arith) (shorter-drop 2 2 d (omega arith))
    (λ h. row_same field.TCP_SEQUENCE (start + 4 + 0) (start + 4) (is_shorter (drop 4 d) 4) (is_shorter d 8) raw_ack ack (omega arith) (shorter-drop 4 4 d (omega arith))
    (λ h. row_same field.TCP_ACKNOWLEDGMENT (start + 4 + 4 + 0) (start + 8) (is_shorter (drop 4 (drop 4 d)) 4) (is_shorter d 12) raw_offset offset (omega arith) (shorter-drop 4 4 (drop 4 d) (omega arith) ∙ shorter-drop 4 8 d (omega arith))
    (λ h. row_same field.TCP_OFFSET (start + 12 + 0) (start + 12) (is_shorter (drop 12 d) 2 || not (is_offset (length d) (number_at d 12 2))) (octet_fails d) (raw_behind e start d) (table_behind e start d) (omega arith)
    (ap (λ t. t || not (is_offset (length d) (number_at d 12 2))) (shorter-drop 12 2 d (omega arith)) ∙ offset_fails d each) (λ right. behind_same e ok start d each small (octet_right d right))))))
