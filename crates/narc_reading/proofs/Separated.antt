-- Octets between separators.
use Rattle.std.proofs.Common.{Result, Ok, Err, ◌/◌, ◌%◌, codes, rules, ◌≡◌, ◌≢◌, ℕ, ◌+◌, ◌<◌, ◌≤◌, Bool, true, false, not, IsTrue, ◌==◌, List, [], ◌∷◌, ◌++◌, length, map, get_or, take, drop, Option, None, Some, refl, sym, ap, ◌∙◌, arith, take-append-drop, length-take}
use Rattle.std.specs.Borrow.{Bor}
use Rattle.std.specs.List.{AllByRecursion, join_with_byte}
use Rattle.std.specs.Prelude.{is_some}
use Rattle.std.proofs.lemmas.Bool.Decides.{nat_tests}
use Rattle.std.proofs.lemmas.List.{drop_more, get_or-take}
use Rattle.std.proofs.lemmas.List.Elements.{All-from_recursion, All-from_get_or, recursion_from_All}
use Rattle.std.proofs.lemmas.List.Splits.{slice_split_none, slice_split_at, length-slice_split, join_with_byte-slice_split}
use Rattle.hex.specs.Hex.{encode_with, encode_lower, lower_digits}
use Rattle.narc_bits.specs.Octets.{IsOctets}
use Rattle.narc_packet.specs.TextWords.{hex_word}
use Rattle.narc_reading.specs.Parts.{octet_of, parts_of, parts_left}
use Rattle.narc_reading.specs.Reading.{IsReadBy, IsWithin}
use Rattle.narc_reading.specs.declared.error.BadLine.{BadLine}
use Rattle.narc_reading.specs.declared.parts.Separator.{Separator}
use Rattle.narc_reading.specs.declared.parts.Separator.TheVariants.{Space, Comma, Slash, Point, Colon}

-- no separator is among the octets
abbrev pub Lacks : (separator : ℕ) → List ℕ → Type 0
Lacks separator octets = AllByRecursion (λ octet. (octet == separator) ≡ false) octets

pub test-other : (a b : ℕ) → a ≢ b → (a == b) ≡ false
test-other a b other = grind (arith, nat_tests)

test-same : (a : ℕ) → (a == a) ≡ true
test-same a = grind (arith, nat_tests)

pub Lacks-append : (separator : ℕ) (a b : List ℕ) → Lacks separator a → Lacks separator b → Lacks separator (a ++ b)
Lacks-append separator [] b m n = n
Lacks-append separator (o ∷ a) b m n = (m.0, Lacks-append separator a b m.1 n)

-- parts that are joined by another octet
pub Lacks-join : (separator between : ℕ) → (between == separator) ≡ false → (parts : List (List ℕ)) → AllByRecursion (Lacks separator) parts → Lacks separator (join_with_byte between parts)
Lacks-join separator between other [] each = tt
Lacks-join separator between other (part ∷ []) each = each.0
Lacks-join separator between other (part ∷ next ∷ parts) each =
    Lacks-append separator part (between ∷ join_with_byte between (next ∷ parts)) each.0 (other, Lacks-join separator between other (next ∷ parts) each.1)

pub Lacks-each : {V : Type 0} (separator : ℕ) (word_of : V → List ℕ) (IsValue : V → Type 0) → ((v : V) → IsValue v → Lacks separator (word_of v)) → (values : List V) → AllByRecursion IsValue values
    → AllByRecursion (Lacks separator) (map word_of values)
Lacks-each separator word_of IsValue lacks [] each = tt
Lacks-each separator word_of IsValue lacks (v ∷ values) each = (lacks v each.0, Lacks-each separator word_of IsValue lacks values each.1)

pub parts_of-none : (separator : ℕ) (octets : List ℕ) → Lacks separator octets → parts_of separator octets ≡ octets ∷ []
parts_of-none separator octets lacks = slice_split_none (λ octet. octet == separator) octets (All-from_recursion (λ octet. (octet == separator) ≡ false) octets lacks)

pub parts_of-first : (separator : ℕ) (part behind : List ℕ) → Lacks separator part → parts_of separator (part ++ separator ∷ behind) ≡ part ∷ parts_of separator behind
parts_of-first separator part behind lacks =
    slice_split_at (λ octet. octet == separator) part separator behind (All-from_recursion (λ octet. (octet == separator) ≡ false) part lacks) (test-same separator)

-- parts that were joined are found again
pub parts_of-join : (separator : ℕ) (part : List ℕ) (parts : List (List ℕ)) → AllByRecursion (Lacks separator) (part ∷ parts)
    → parts_of separator (join_with_byte separator (part ∷ parts)) ≡ part ∷ parts
parts_of-join separator part [] lacks = parts_of-none separator part lacks.0
parts_of-join separator part (next ∷ parts) lacks =
    parts_of-first separator part (join_with_byte separator (next ∷ parts)) lacks.0 ∙ ap (λ l. part ∷ l) (parts_of-join separator next parts lacks.1)

-- parts that were found are joined again
pub join-parts_of : (separator : ℕ) (octets : List ℕ) (parts : List (List ℕ)) → parts_of separator octets ≡ parts → octets ≡ join_with_byte separator parts
join-parts_of separator octets parts e = sym (join_with_byte-slice_split separator octets) ∙ ap (join_with_byte separator) e

-- what a search from the front shows
pub Lacks-take : (separator : ℕ) (octets : List ℕ) (n : ℕ) → n ≤ length octets → ((k : ℕ) → k < n → get_or octets k 0 ≢ separator) → Lacks separator (take n octets)
Lacks-take separator octets n inside none =
    recursion_from_All (λ octet. (octet == separator) ≡ false) (take n octets)
    (All-from_get_or (λ octet. (octet == separator) ≡ false) (take n octets) 0
    (λ i h. let low : i < n = omega (arith, length-take {A = ℕ}) in ap (λ octet. octet == separator) (get_or-take n octets i 0 low) ∙ test-other (get_or octets i 0) separator (none i low)))

pub parts_of-found : (separator : ℕ) (octets : List ℕ) (n : ℕ) → n < length octets → ((k : ℕ) → k < n → get_or octets k 0 ≢ separator) → get_or octets n 0 ≡ separator
    → parts_of separator octets ≡ take n octets ∷ parts_of separator (drop (n + 1) octets)
parts_of-found separator octets n inside none is =
    let rest : drop n octets ≡ separator ∷ drop (n + 1) octets = drop_more octets n 0 inside ∙ ap (λ octet. octet ∷ drop (n + 1) octets) is in
    ap (parts_of separator) (sym (take-append-drop n octets) ∙ ap (λ l. take n octets ++ l) rest)
    ∙ parts_of-first separator (take n octets) (drop (n + 1) octets) (Lacks-take separator octets n (omega arith) none)

-- what a test for a part that is left says
pub none-from_test : (separator : ℕ) (rest : Option (Bor (List ℕ))) (left : List (List ℕ)) (r : Bool) → is_some rest ≡ not r → parts_left separator rest ≡ left
    → (IsTrue r → left ≡ []) × (left ≡ [] → IsTrue r)
none-from_test separator None left true e is = (λ t. sym is, λ t. refl)
none-from_test separator None left false e is = (λ t. sym is, λ t. cc e)
none-from_test separator (Some rest) left true e is = (λ t. cc e, λ t. refl)
none-from_test separator (Some rest) left false e is =
    (λ t. cc t, λ none. absurd (omega (arith, ap length (is ∙ none), length-slice_split (λ octet. octet == separator) rest.now)))

-- no separator is a hexadecimal digit
abbrev LacksDigits : Separator → Type 0
LacksDigits separator = Lacks (octet_of separator) lower_digits

lacks-digits : (separator : Separator) → LacksDigits separator
lacks-digits Space = search rules
lacks-digits Comma = search rules
lacks-digits Slash = search rules
lacks-digits Point = search rules
lacks-digits Colon = search rules

digit-other : (separator : Separator) (n : ℕ) → n < 16 → (get_or lower_digits n 0 == octet_of separator) ≡ false
digit-other separator n small =
    All-from_recursion (λ octet. (octet == octet_of separator) ≡ false) lower_digits (lacks-digits separator) n 0 small

pub Lacks-encode_lower : (separator : Separator) (octets : List ℕ) → IsOctets octets → Lacks (octet_of separator) (encode_lower octets)
unfolding encode_with
Lacks-encode_lower separator [] is = tt
Lacks-encode_lower separator (o ∷ octets) is =
    (digit-other separator (o / 16) (omega (arith, is.0)), (digit-other separator (o % 16) (omega (arith, is.0)), Lacks-encode_lower separator octets is.1))

pub lacks-dash : (separator : Separator) → Lacks (octet_of separator) (codes "-")
lacks-dash Space = search rules
lacks-dash Comma = search rules
lacks-dash Slash = search rules
lacks-dash Point = search rules
lacks-dash Colon = search rules

pub Lacks-hex_word : (separator : Separator) (octets : List ℕ) → IsOctets octets → Lacks (octet_of separator) (hex_word octets)
Lacks-hex_word separator [] is = lacks-dash separator
Lacks-hex_word separator (o ∷ octets) is = Lacks-encode_lower separator (o ∷ octets) is

-- the last part, of which it is known that no separator is in it
pub last-part : (separator : ℕ) (word text : List ℕ) → Lacks separator text → word ≡ text → parts_of separator word ≡ text ∷ []
last-part separator word text lacks is = ap (parts_of separator) is ∙ parts_of-none separator text lacks

pub last-word : (separator : ℕ) (word text : List ℕ) → parts_of separator word ≡ text ∷ [] → word ≡ text
last-word separator word text e = join-parts_of separator word (text ∷ []) e

pub last-read : (separator : Separator) (word : List ℕ) (left : List (List ℕ)) (n : ℕ) (r : Result (Bor (List ℕ)) BadLine) → parts_of (octet_of separator) word ≡ left
    → IsReadBy (λ octets. octets.now) hex_word (IsWithin n) word r → IsReadBy (λ octets. octets.now) (λ octets. hex_word octets ∷ []) (IsWithin n) left r
last-read separator word left n (Ok octets) is read =
    (read.0, sym is ∙ last-part (octet_of separator) word (hex_word octets.now) (Lacks-hex_word separator octets.now read.0.0) read.1)
last-read separator word left n (Err e) is read = λ v within found. read v within (last-word (octet_of separator) word (hex_word v) (is ∙ found))
