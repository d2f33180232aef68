-- The rows that refuse a header are those of the table.
use Rattle.std.proofs.Common.{◌≡◌, ℕ, ◌+◌, ◌/◌, ◌%◌, ◌≤◌, false, not, ◌||◌, List, [], ◌∷◌, length, take, drop, nat_eq, nat_lt, refl, ap, ◌∙◌, arith, length-take, length-drop}
use Rattle.std.specs.Prelude.{is_some, unwrap_or}
use Rattle.std.proofs.lemmas.Bool.{le-ltb, ltb-false, or_parts}
use Rattle.std.proofs.lemmas.List.{drop-drop}
use Rattle.narc_bits.specs.Octets.{is_shorter, number_at, number_of}
use Rattle.narc_bits.specs.InternetSum.{is_good_sum}
use Rattle.narc_format.specs.Rows.{Row, row, first_failing, differs}
use Rattle.narc_packet.specs.declared.field.TheConstants as field
use Rattle.narc_layout.proofs.SameRows.{shorter-drop, or_assoc, not_and, not_not, row_same, row_passes}
use Rattle.narc_packet.specs.Options.{bad_option}
use Rattle.narc_packet.specs.Refusal.{header_length, total_length, area_in, options_row}
use Rattle.narc_ipv4.specs.Header.{is_header_length, is_total_length, is_flags}
use Rattle.narc_ipv4.specs.HeaderOctets.{header_rows}
use Rattle.narc_ipv4.proofs.HeaderRead.{area_length, composed_size, composed_rows}

-- the first octet, alone and in all octets
first_number : (x : List ℕ) → number_at (take 1 x) 0 1 ≡ number_at x 0 1
first_number [] = refl
first_number (octet ∷ x) = refl

-- a total length below the header's, or above the octets that are there
total_fails : (there : ℕ) (size total : ℕ) → not (is_total_length (size, there) total) ≡ (nat_lt total size || nat_lt there total)
total_fails there size total =
    not_and (not (nat_lt total size)) (not (nat_lt there total)) ∙ ap (λ t. t || not (not (nat_lt there total))) (not_not (nat_lt total size)) ∙ ap (λ t. nat_lt total size || t) (not_not (nat_lt there total))

-- what passes behind a right total length
record Fits (x : List ℕ) : Type 0 where
  least : 20 ≤ header_length x
  most : header_length x ≤ 60
  size : header_length x ≤ length x

fits_of : (x : List ℕ) → nat_lt (number_at x 0 1 % 16) 5 ≡ false → (is_shorter x 4 || nat_lt (total_length x) (header_length x) || is_shorter x (total_length x)) ≡ false → Fits x
fits_of x five h =
    let there = or_parts (is_shorter x 4 || nat_lt (total_length x) (header_length x)) (is_shorter x (total_length x)) h in
    let least = ltb-false (number_at x 0 1 % 16) 5 five in
    record {
      least = omega (arith, least);
      most = omega arith;
      size = omega (arith, ltb-false (total_length x) (header_length x) (or_parts (is_shorter x 4) (nat_lt (total_length x) (header_length x)) there.0).1, ltb-false (length x) (total_length x) there.1);
    }

enough : (k m : ℕ) (x : List ℕ) → k + m ≤ length x → is_shorter (drop k x) m ≡ false
enough k m x h = le-ltb (length (drop k x)) m (omega (arith, h, length-drop k x))

module _ (start : ℕ) (x : List ℕ) where
  abbrev area_there : List ℕ
  area_there = take (area_length (length x) x) (drop 8 (drop 12 x))

  area_same : area_there ≡ area_in x
  area_same = ap (take (area_length (length x) x)) (drop-drop 8 12 x)

  abbrev its_sum : List Row
  its_sum = row field.IPV4_CHECKSUM (start + 10) (not (is_good_sum (take (header_length x) x))) ∷ []

  abbrev its_options : List Row
  its_options = options_row field.IPV4_OPTIONS (start + 20) (area_in x) ∷ its_sum

  abbrev its_flags : List Row
  its_flags = row field.IPV4_FLAGS (start + 6) (nat_eq (number_at x 6 2 / 32768) 1) ∷ its_options

  abbrev its_total : List Row
  its_total = row field.IPV4_TOTAL_LENGTH (start + 2) (is_shorter x 4 || nat_lt (total_length x) (header_length x) || is_shorter x (total_length x)) ∷ its_flags

  abbrev its_service : List Row
  its_service = row field.IPV4_TOS (start + 1) (is_shorter x 2) ∷ its_total

  abbrev its_length : List Row
  its_length = row field.IPV4_HEADER_LENGTH start (nat_lt (number_at x 0 1 % 16) 5) ∷ its_service

  abbrev sum_rows : List Row
  sum_rows = row field.IPV4_CHECKSUM (start + 10) (not (is_good_sum (take (composed_size (length x) x) x))) ∷ []

  abbrev bad_rows : List Row
  bad_rows = row field.IPV4_OPTIONS (start + 12 + 8 + unwrap_or (bad_option area_there) 0) (is_some (bad_option area_there)) ∷ sum_rows

  abbrev many_rows : List Row
  many_rows = row field.IPV4_OPTIONS (start + 12 + 8) (nat_lt 40 (length area_there)) ∷ bad_rows

  abbrev few_rows : List Row
  few_rows = row field.IPV4_OPTIONS (start + 12 + 8) (is_shorter (drop 8 (drop 12 x)) (area_length (length x) x)) ∷ many_rows

  abbrev destination_rows : List Row
  destination_rows = row field.IPV4_CHECKSUM (start + 12 + 4 + 0) (is_shorter (drop 4 (drop 12 x)) 4) ∷ few_rows

  abbrev source_rows : List Row
  source_rows = row field.IPV4_CHECKSUM (start + 12 + 0) (is_shorter (drop 12 x) 4) ∷ destination_rows

  abbrev word_rows : List Row
  word_rows = row field.IPV4_CHECKSUM (start + 10) (is_shorter x 12) ∷ source_rows

  abbrev protocol_rows : List Row
  protocol_rows = row field.IPV4_CHECKSUM (start + 4 + 4 + 1 + 0) (is_shorter (drop 1 (drop 4 (drop 4 x))) 1) ∷ word_rows

  abbrev ttl_rows : List Row
  ttl_rows = row field.IPV4_CHECKSUM (start + 4 + 4 + 0) (is_shorter (drop 4 (drop 4 x)) 1) ∷ protocol_rows

  abbrev flag_rows : List Row
  flag_rows = row field.IPV4_FLAGS (start + 4 + 2 + 0) (is_shorter (drop 2 (drop 4 x)) 2 || not (is_flags tt (number_at (drop 2 (drop 4 x)) 0 2))) ∷ ttl_rows

  abbrev id_rows : List Row
  id_rows = row field.IPV4_CHECKSUM (start + 4 + 0) (is_shorter (drop 4 x) 2) ∷ flag_rows

  abbrev total_rows : List Row
  total_rows = row field.IPV4_TOTAL_LENGTH (start + 2 + 0) (is_shorter (drop 2 x) 2 || not (is_total_length (header_length x, length x) (total_length x))) ∷ id_rows

  abbrev service_rows : List Row
  service_rows = row field.IPV4_TOS (start + 1 + 0) (is_shorter (drop 1 x) 1) ∷ total_rows

  abbrev length_rows : List Row
  length_rows = row field.IPV4_HEADER_LENGTH (start + 0) (not (is_header_length tt (number_at (take 1 x) 0 1))) ∷ service_rows

  abbrev all_rows : List Row
  all_rows = row field.IPV4_VERSION (start + 0) (is_shorter x 1 || differs (number_at x 0 1 / 16) 4) ∷ length_rows

  composed_are : composed_rows (length x) start x ≡ all_rows
  composed_are = refl

  sum_same : Fits x → first_failing sum_rows ≡ first_failing its_sum
  sum_same k = let size : composed_size (length x) x ≡ header_length x = omega (arith, k.least) in ap (λ n. first_failing (row field.IPV4_CHECKSUM (start + 10) (not (is_good_sum (take n x))) ∷ [])) size

  bad_same : Fits x → first_failing bad_rows ≡ first_failing its_options
  bad_same k =
      let place : start + 12 + 8 + unwrap_or (bad_option area_there) 0 ≡ start + 20 + unwrap_or (bad_option (area_in x)) 0 = ap (λ a. start + 12 + 8 + unwrap_or (bad_option a) 0) area_same ∙ omega arith in
      row_same field.IPV4_OPTIONS _ _ (is_some (bad_option area_there)) (is_some (bad_option (area_in x))) sum_rows its_sum place (ap (λ a. is_some (bad_option a)) area_same) (λ none. sum_same k)

  options_same : Fits x → first_failing source_rows ≡ first_failing its_options
  options_same k =
      let rest = drop-drop 8 12 x in
      row_passes field.IPV4_CHECKSUM (start + 12 + 0) (is_shorter (drop 12 x) 4) destination_rows (enough 12 4 x (omega (arith, k.least, k.size)))
      ∙ row_passes field.IPV4_CHECKSUM (start + 12 + 4 + 0) (is_shorter (drop 4 (drop 12 x)) 4) few_rows (ap (λ l. is_shorter l 4) (drop-drop 4 12 x) ∙ enough 16 4 x (omega (arith, k.least, k.size)))
      ∙ row_passes field.IPV4_OPTIONS (start + 12 + 8) (is_shorter (drop 8 (drop 12 x)) (area_length (length x) x)) many_rows
      (ap (λ l. is_shorter l (area_length (length x) x)) rest ∙ enough 20 (area_length (length x) x) x (omega (arith, k.least, k.size)))
      ∙ row_passes field.IPV4_OPTIONS (start + 12 + 8) (nat_lt 40 (length area_there)) bad_rows (le-ltb 40 (length area_there) (omega (arith, k.most, length-take (area_length (length x) x) (drop 8 (drop 12 x)))))
      ∙ bad_same k

  behind_same : Fits x → first_failing ttl_rows ≡ first_failing its_options
  behind_same k =
      row_passes field.IPV4_CHECKSUM (start + 4 + 4 + 0) (is_shorter (drop 4 (drop 4 x)) 1) protocol_rows (ap (λ l. is_shorter l 1) (drop-drop 4 4 x) ∙ enough 8 1 x (omega (arith, k.least, k.size)))
      ∙ row_passes field.IPV4_CHECKSUM (start + 4 + 4 + 1 + 0) (is_shorter (drop 1 (drop 4 (drop 4 x))) 1) word_rows
      (ap (λ l. is_shorter (drop 1 l) 1) (drop-drop 4 4 x) ∙ ap (λ l. is_shorter l 1) (drop-drop 1 8 x) ∙ enough 9 1 x (omega (arith, k.least, k.size)))
      ∙ row_passes field.IPV4_CHECKSUM (start + 10) (is_shorter x 12) source_rows (le-ltb (length x) 12 (omega (arith, k.least, k.size)))
      ∙ options_same k

  flags_same : Fits x → first_failing id_rows ≡ first_failing its_flags
  flags_same k =
      let word : number_at (drop 2 (drop 4 x)) 0 2 ≡ number_at x 6 2 = ap (λ l. number_of (take 2 l)) (drop-drop 2 4 x) in
      let short : is_shorter (drop 2 (drop 4 x)) 2 ≡ false = ap (λ l. is_shorter l 2) (drop-drop 2 4 x) ∙ enough 6 2 x (omega (arith, k.least, k.size)) in
      let flags : (is_shorter (drop 2 (drop 4 x)) 2 || not (is_flags tt (number_at (drop 2 (drop 4 x)) 0 2))) ≡ nat_eq (number_at x 6 2 / 32768) 1 =
      ap (λ t. t || not (is_flags tt (number_at (drop 2 (drop 4 x)) 0 2))) short ∙ ap (λ n. not (is_flags tt n)) word ∙ not_not (nat_eq (number_at x 6 2 / 32768) 1) in
      row_passes field.IPV4_CHECKSUM (start + 4 + 0) (is_shorter (drop 4 x) 2) flag_rows (enough 4 2 x (omega (arith, k.least, k.size)))
      ∙ row_same field.IPV4_FLAGS (start + 4 + 2 + 0) (start + 6) _ _ ttl_rows its_options (omega arith) flags (λ none. behind_same k)

  total_same : (is_shorter (drop 2 x) 2 || not (is_total_length (header_length x, length x) (total_length x))) ≡ (is_shorter x 4 || nat_lt (total_length x) (header_length x) || is_shorter x (total_length x))
  total_same =
      ap (λ t. t || not (is_total_length (header_length x, length x) (total_length x))) (shorter-drop 2 2 x (omega arith))
      ∙ ap (λ t. is_shorter x 4 || t) (total_fails (length x) (header_length x) (total_length x))
      ∙ or_assoc (is_shorter x 4) (nat_lt (total_length x) (header_length x)) (is_shorter x (total_length x))

  length_same : not (is_header_length tt (number_at (take 1 x) 0 1)) ≡ nat_lt (number_at x 0 1 % 16) 5
  length_same = ap (λ n. not (is_header_length tt n)) (first_number x) ∙ not_not (nat_lt (number_at x 0 1 % 16) 5)

  -- where so many octets are there as the context says, only the rows of the table can fail
  pub rows_are : first_failing (composed_rows (length x) start x) ≡ first_failing (header_rows start x)
  rows_are =
      row_same field.IPV4_VERSION (start + 0) start (is_shorter x 1 || differs (number_at x 0 1 / 16) 4) _ length_rows its_length (omega arith) refl
      (λ version. row_same field.IPV4_HEADER_LENGTH (start + 0) start _ _ service_rows its_service (omega arith) length_same
      (λ five. row_same field.IPV4_TOS (start + 1 + 0) (start + 1) _ _ total_rows its_total (omega arith) (shorter-drop 1 1 x (omega arith))
      (λ service. row_same field.IPV4_TOTAL_LENGTH (start + 2 + 0) (start + 2) _ _ id_rows its_flags (omega arith) total_same
      (λ total. flags_same (fits_of x five total)))))
