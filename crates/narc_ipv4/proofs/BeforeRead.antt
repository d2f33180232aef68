-- The first 10 octets of a header, and the rows that refuse them.
use Rattle.std.proofs.Common.{◌≡◌, ℕ, ◌+◌, ◌*◌, ◌^◌, ◌<◌, ◌≤◌, not, ◌||◌, List, [], ◌∷◌, ◌++◌, drop, IsTrue, lit≤, refl, ap, ◌∙◌, append_assoc}
use Rattle.narc_bits.specs.Octets.{IsOctets, is_shorter, number_at, big_endian}
use Rattle.narc_packet.specs.declared.field.TheConstants as field
use Rattle.narc_scalar.specs.Word.{word}
use Rattle.narc_format.specs.Rows.{Row, row}
use Rattle.narc_compose.specs.Both.{both}
use Rattle.narc_ipv4.specs.Header.{is_total_length, is_flags, header_length_of, RawMiddle, RawBefore, first_octet, ip_service, ip_lengths, ip_fragment, ip_middle, ip_before}
use Rattle.narc_layout.proofs.ReadLayout.{IsRead, Parts, read_layout}
use Rattle.narc_layout.proofs.SeqRead.{seq_read}
use Rattle.narc_layout.proofs.FieldLayout.{unnamed_layout, named_layout}
use Rattle.narc_layout.proofs.TestLayout.{shape_word, unnamed_word, shape_tested, unnamed_tested}
use Rattle.narc_ipv4.proofs.FirstOctet.{IsFirst, first_rows, first_octet_read}

abbrev pub IsFirstAndTos : Unit {0} → ℕ × ℕ → List ℕ → Type 0
IsFirstAndTos c v = Parts (IsFirst c v.0) (λ o. (v.1 < 2 ^ 8) × (o ≡ big_endian 1 v.1))

abbrev pub tos_rows : Unit {0} → (start : ℕ) → List ℕ → List Row
tos_rows c start x = first_rows c start x ++ (row field.IPV4_TOS (start + 1 + 0) (is_shorter (drop 1 x) (0 + 1)) ∷ [])

first_and_tos_read : IsRead (both first_octet ip_service) IsFirstAndTos (λ c x. 2) tos_rows
first_and_tos_read =
    seq_read (λ c. c) (λ c v. c) (λ c. Unit {0}) first_octet_read (read_layout (named_layout (shape_word 1 (lit≤ tt) (lit≤ tt)) (unnamed_word 1 (lit≤ tt) (lit≤ tt)) field.IPV4_TOS (lit≤ tt) (lit≤ tt)))
    (λ c x. tt) (λ c v o later each is. refl)

-- the context of the total length, in the octets
abbrev pub there : ℕ → List ℕ → ℕ × ℕ
there n x = (header_length_of (number_at x 0 1), n)

knows_length : (n : ℕ) (v : ℕ × ℕ) (o later : List ℕ) → IsOctets (o ++ later) → IsFirstAndTos tt v o → there n (o ++ later) ≡ (header_length_of v.0, n)
knows_length n v o later each p =
    let joined : o ++ later ≡ big_endian 1 v.0 ++ (p.back ++ later) = ap (λ l. l ++ later) p.joined ∙ append_assoc p.front p.back later ∙ ap (λ l. l ++ (p.back ++ later)) p.first.0.1 in
    ap (λ m. (header_length_of m, n)) ((unnamed_word 1 (lit≤ tt) (lit≤ tt)).reads tt 0 (o ++ later) v.0 (p.back ++ later) p.first.0.0.0 joined)

abbrev pub IsLengths : ℕ → (ℕ × ℕ) × ℕ → List ℕ → Type 0
IsLengths n v = Parts (IsFirstAndTos tt v.0) (λ o. ((v.1 < 2 ^ 16) × IsTrue (is_total_length (header_length_of v.0.0, n) v.1)) × (o ≡ big_endian 2 v.1))

abbrev pub length_rows : ℕ → (start : ℕ) → List ℕ → List Row
length_rows n start x =
    let y = drop 2 x in
    tos_rows tt start x ++ (row field.IPV4_TOTAL_LENGTH (start + 2 + 0) (is_shorter y (0 + 2) || not (is_total_length (there n x) (number_at y 0 2))) ∷ [])

pub lengths_read : IsRead ip_lengths IsLengths (λ n x. 4) length_rows
lengths_read =
    seq_read (λ n. tt) (λ n v. (header_length_of v.0, n)) (λ n. n < 2 ^ 64) first_and_tos_read
    (read_layout (named_layout
    (shape_tested is_total_length (shape_word 2 (lit≤ tt) (lit≤ tt)) (unnamed_word 2 (lit≤ tt) (lit≤ tt)))
    (unnamed_tested is_total_length (shape_word 2 (lit≤ tt) (lit≤ tt)) (unnamed_word 2 (lit≤ tt) (lit≤ tt))) field.IPV4_TOTAL_LENGTH (lit≤ tt) (lit≤ tt)))
    there knows_length

-- identification, flags with offset, time to live and protocol
abbrev pub IsWordOf : (k : ℕ) → ℕ → List ℕ → Type 0
IsWordOf k v o = (v < 2 ^ (8 * k)) × (o ≡ big_endian k v)

word_read : (k : ℕ) → 1 ≤ k → k ≤ 8 → IsRead (word (8 * k)) (λ c v o. IsWordOf k v o) (λ c x. k) (λ c start x. row 0 (start + 0) (is_shorter x (0 + k)) ∷ [])
word_read k some most = read_layout (unnamed_layout (shape_word k some most) (unnamed_word k some most))

abbrev pub IsFragmentWord : ℕ → List ℕ → Type 0
IsFragmentWord v o = ((v < 2 ^ 16) × IsTrue (is_flags tt v)) × (o ≡ big_endian 2 v)

fragment_read : IsRead ip_fragment (λ c v o. IsFragmentWord v o) (λ c x. 2) (λ c start x. row field.IPV4_FLAGS (start + 0) (is_shorter x (0 + 2) || not (is_flags tt (number_at x 0 2))) ∷ [])
fragment_read =
    read_layout (named_layout
    (shape_tested is_flags (shape_word 2 (lit≤ tt) (lit≤ tt)) (unnamed_word 2 (lit≤ tt) (lit≤ tt)))
    (unnamed_tested is_flags (shape_word 2 (lit≤ tt) (lit≤ tt)) (unnamed_word 2 (lit≤ tt) (lit≤ tt))) field.IPV4_FLAGS (lit≤ tt) (lit≤ tt))

abbrev pub IsMiddle : Unit {0} → RawMiddle → List ℕ → Type 0
IsMiddle c v = Parts (Parts (IsWordOf 2 v.0.0) (IsFragmentWord v.0.1)) (Parts (IsWordOf 1 v.1.0) (IsWordOf 1 v.1.1))

abbrev pub middle_rows : Unit {0} → (start : ℕ) → List ℕ → List Row
middle_rows c start x =
    let y = drop 2 x in
    let z = drop 4 x in
    ((row 0 (start + 0) (is_shorter x (0 + 2)) ∷ []) ++ (row field.IPV4_FLAGS (start + 2 + 0) (is_shorter y (0 + 2) || not (is_flags tt (number_at y 0 2))) ∷ []))
    ++ ((row 0 (start + 4 + 0) (is_shorter z (0 + 1)) ∷ []) ++ (row 0 (start + 4 + 1 + 0) (is_shorter (drop 1 z) (0 + 1)) ∷ []))

middle_read : IsRead ip_middle IsMiddle (λ c x. 6) middle_rows
middle_read =
    seq_read (λ c. c) (λ c v. c) (λ c. Unit {0})
    (seq_read (λ c. c) (λ c v. c) (λ c. Unit {0}) (word_read 2 (lit≤ tt) (lit≤ tt)) fragment_read (λ c x. tt) (λ c v o later each is. refl))
    (seq_read (λ c. c) (λ c v. c) (λ c. Unit {0}) (word_read 1 (lit≤ tt) (lit≤ tt)) (word_read 1 (lit≤ tt) (lit≤ tt)) (λ c x. tt) (λ c v o later each is. refl))
    (λ c x. tt) (λ c v o later each is. refl)

abbrev pub IsBefore : ℕ → RawBefore → List ℕ → Type 0
IsBefore n v = Parts (IsLengths n v.0) (IsMiddle tt v.1)

abbrev pub before_rows : ℕ → (start : ℕ) → List ℕ → List Row
before_rows n start x = length_rows n start x ++ middle_rows tt (start + 4) (drop 4 x)

pub before_read : IsRead ip_before IsBefore (λ n x. 10) before_rows
before_read = seq_read (λ n. n) (λ n v. tt) (λ n. n < 2 ^ 64) lengths_read middle_read (λ n x. tt) (λ n v o later each is. refl)
