-- Octets and rows of numbers with the names of fields.
use Rattle.std.proofs.Common.{◌≡◌, ℕ, ◌+◌, ◌*◌, ◌^◌, ◌<◌, ◌≤◌, List, [], ◌∷◌, ◌++◌, drop, refl}
use Rattle.narc_bits.specs.Octets.{is_shorter, big_endian}
use Rattle.narc_format.specs.Rows.{Row, row}
use Rattle.narc_format.specs.declared.field.TheConstants.{LAST}
use Rattle.narc_scalar.specs.Word.{word}
use Rattle.narc_compose.specs.Named.{named}
use Rattle.narc_compose.specs.Both.{both}
use Rattle.narc_layout.proofs.FieldLayout.{named_layout, unnamed_layout}
use Rattle.narc_layout.proofs.TestLayout.{shape_word, unnamed_word}
use Rattle.narc_layout.proofs.ReadLayout.{Parts, IsRead, read_layout}
use Rattle.narc_layout.proofs.SeqRead.{seq_read}

-- a number of k octets
abbrev pub IsNumber : (k : ℕ) → ℕ → List ℕ → Type 0
IsNumber k v o = (v < 2 ^ (8 * k)) × (o ≡ big_endian k v)

abbrev pub number_row : (k name start : ℕ) → List ℕ → List Row
number_row k name start x = row name (start + 0) (is_shorter x (0 + k)) ∷ []

-- without a name
pub word_read : (k : ℕ) → 1 ≤ k → k ≤ 8 → IsRead (word (8 * k)) (λ c v o. IsNumber k v o) (λ c x. k) (λ c start x. number_row k 0 start x)
word_read k some most = read_layout (unnamed_layout (shape_word k some most) (unnamed_word k some most))

number_read : (k : ℕ) → 1 ≤ k → k ≤ 8 → (name : ℕ) → 1 ≤ name → name ≤ LAST → IsRead (named name (word (8 * k))) (λ c v o. IsNumber k v o) (λ c x. k) (λ c start x. number_row k name start x)
number_read k some most name low high = read_layout (named_layout (shape_word k some most) (unnamed_word k some most) name low high)

-- two numbers of k octets each
abbrev pub AreNumbers : (k : ℕ) → ℕ × ℕ → List ℕ → Type 0
AreNumbers k v = Parts (IsNumber k v.0) (IsNumber k v.1)

abbrev pub number_rows : (k first second start : ℕ) → List ℕ → List Row
number_rows k first second start x = number_row k first start x ++ number_row k second (start + k) (drop k x)

pub numbers_read : (k : ℕ) → 1 ≤ k → k ≤ 8 → (first second : ℕ) → 1 ≤ first → first ≤ LAST → 1 ≤ second → second ≤ LAST
    → IsRead (both (named first (word (8 * k))) (named second (word (8 * k)))) (λ c v. AreNumbers k v) (λ c x. k + k) (λ c start x. number_rows k first second start x)
numbers_read k some most first second low high least greatest =
    seq_read (λ c. c) (λ c v. c) (λ c. Unit {0}) (number_read k some most first low high) (number_read k some most second least greatest) (λ c x. tt) (λ c v o later each is. refl)
