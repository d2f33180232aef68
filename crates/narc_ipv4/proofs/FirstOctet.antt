-- Version and header length as one octet with two tests, and the rows that refuse it.
use Rattle.std.proofs.Common.{◌≡◌, ℕ, ◌+◌, ◌/◌, ◌^◌, ◌<◌, not, ◌||◌, List, [], ◌∷◌, take, nat_eq, IsTrue, lit≤}
use Rattle.narc_bits.specs.Octets.{is_shorter, number_at, big_endian}
use Rattle.narc_packet.specs.declared.field.TheConstants as field
use Rattle.narc_format.specs.Rows.{Row, row}
use Rattle.narc_ipv4.specs.Header.{is_version, is_header_length, versioned, first_octet}
use Rattle.narc_layout.proofs.ContextLayouts.{IsLayout}
use Rattle.narc_layout.proofs.ReadLayout.{IsRead}
use Rattle.narc_layout.proofs.NamedReads.{rename, named_read}
use Rattle.narc_layout.proofs.FieldLayout.{named_layout}
use Rattle.narc_layout.proofs.TestLayout.{shape_word, unnamed_word, shape_tested, unnamed_tested}
use Rattle.narc_layout.proofs.TestRead.{tested_read}

version_layout : IsLayout versioned (λ c. Unit {0}) (λ c v. (v < 2 ^ 8) × IsTrue (is_version tt v)) (big_endian 1) 1 (λ skip x. number_at x skip 1) (λ c start skip x. row field.IPV4_VERSION (start + skip) (is_shorter x (skip + 1) || not (nat_eq (number_at x skip 1 / 16) 4)) ∷ [])
version_layout =
    named_layout (shape_tested is_version (shape_word 1 (lit≤ tt) (lit≤ tt)) (unnamed_word 1 (lit≤ tt) (lit≤ tt))) (unnamed_tested is_version (shape_word 1 (lit≤ tt) (lit≤ tt)) (unnamed_word 1 (lit≤ tt) (lit≤ tt)))
    field.IPV4_VERSION (lit≤ tt) (lit≤ tt)

abbrev pub IsFirst : Unit {0} → ℕ → List ℕ → Type 0
IsFirst c v o = (((v < 2 ^ 8) × IsTrue (is_version tt v)) × (o ≡ big_endian 1 v)) × IsTrue (is_header_length c (number_at o 0 1))

abbrev pub first_rows : Unit {0} → (start : ℕ) → List ℕ → List Row
first_rows c start x =
    rename field.IPV4_HEADER_LENGTH
    (row field.IPV4_VERSION (start + 0) (is_shorter x 1 || not (nat_eq (number_at x 0 1 / 16) 4)) ∷ row 0 (start + 0) (not (is_header_length c (number_at (take 1 x) 0 1))) ∷ [])

pub first_octet_read : IsRead first_octet IsFirst (λ c x. 1) first_rows
first_octet_read = named_read field.IPV4_HEADER_LENGTH (tested_read is_header_length version_layout)
