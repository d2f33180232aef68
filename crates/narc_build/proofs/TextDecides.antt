-- What decides a text: behind its first lines stands no front of a line that may follow, whatever comes.
use Rattle.std.proofs.Common.{◌≡◌, ℕ, ◌-◌, ◌<◌, ◌≤◌, Bool, true, false, List, [], ◌∷◌, ◌++◌, length, refl, ap, ◌∙◌, arith, append_assoc, length-append}
use Rattle.std.specs.Prelude.{◌&&◌, ◌||◌, nat_eq, nat_lt}
use Rattle.std.specs.List.{list_any}
use Rattle.std.proofs.lemmas.Bool.{eqb-true, le-ltb, lt-ltb}
use Rattle.std.proofs.lemmas.List.{drop_at}
use Rattle.narc_lines.specs.Lines.{HasNoFeed, IsLine}
use Rattle.narc_build.specs.declared.limits.TheConstants.{LONGEST_LINE}
use Rattle.narc_build.specs.CaptureFront.{TextCapture, TextFront, Whole, capture_text, front_text, rest_of, is_whole, is_broken}
use Rattle.narc_build.proofs.CaptureFronts.{LineFacts, Follows, NoneFollows}

-- ---- line feeds

abbrev pub has_feed : List ℕ → Bool
has_feed l = list_any (λ octet. nat_eq octet 10) l

pub no_feed : (l : List ℕ) → HasNoFeed l → has_feed l ≡ false
no_feed [] p = refl
no_feed (o ∷ l) p = at (no_feed l p.1) (nat_eq o 10) refl where
  at : has_feed l ≡ false → (b : Bool) → nat_eq o 10 ≡ b → (b || has_feed l) ≡ false
  at later true e = absurd (p.0 (eqb-true o 10 e))
  at later false e = later

pub fed : (line later : List ℕ) → has_feed (line ++ 10 ∷ later) ≡ true
fed [] later = refl
fed (o ∷ line) later = at (nat_eq o 10) (fed line later) where
  at : (b : Bool) → has_feed (line ++ 10 ∷ later) ≡ true → (b || has_feed (line ++ 10 ∷ later)) ≡ true
  at true more = refl
  at false more = more

pub line_some : (l : List ℕ) → IsLine l → 0 < length l
line_some l p = omega (arith, ap length p.is, length-append p.line (10 ∷ []))

-- ---- the rest

pub rest_is : (f : TextFront) (rest : List ℕ) → rest_of f (front_text f ++ rest) ≡ rest
rest_is f rest = drop_at (front_text f) rest (length (front_text f)) refl

abbrev pub broken_by : (fed_ long whole some_ : Bool) → Bool
broken_by fed_ long whole some_ = fed_ || long || (whole && some_)

-- fewer octets than a line may have, and no line feed, decide nothing before the last line
pub open_decides_not : (f : TextFront) (rest : List ℕ) → is_whole f ≡ false → HasNoFeed rest → length rest < LONGEST_LINE → is_broken f (front_text f ++ rest) ≡ false
open_decides_not f rest begun none few =
    let fits : length rest ≤ LONGEST_LINE - 1 = omega arith in
    let one = no_feed rest none in
    let two = le-ltb (LONGEST_LINE - 1) (length rest) fits in
    ap (λ l. broken_by (has_feed l) (nat_lt (LONGEST_LINE - 1) (length l)) (is_whole f) (nat_lt 0 (length l))) (rest_is f rest)
    ∙ ap (λ b. broken_by b (nat_lt (LONGEST_LINE - 1) (length rest)) (is_whole f) (nat_lt 0 (length rest))) one
    ∙ ap (λ b. broken_by false b (is_whole f) (nat_lt 0 (length rest))) two
    ∙ ap (λ b. broken_by false false b (nat_lt 0 (length rest))) begun

-- nothing behind the last line decides nothing
pub none_decides_not : (f : TextFront) → is_broken f (front_text f ++ []) ≡ false
none_decides_not f =
    ap (λ l. broken_by (has_feed l) (nat_lt (LONGEST_LINE - 1) (length l)) (is_whole f) (nat_lt 0 (length l))) (rest_is f []) ∙ at (is_whole f) where
      at : (b : Bool) → broken_by false false b false ≡ false
      at true = refl
      at false = refl

-- a line that may not follow decides
pub line_decides : (f : TextFront) (line later : List ℕ) → IsLine line → is_broken f (front_text f ++ (line ++ later)) ≡ true
line_decides f line later p =
    let rest = line ++ later in
    let whole : rest ≡ p.line ++ 10 ∷ later = ap (λ l. l ++ later) p.is ∙ append_assoc p.line (10 ∷ []) later in
    let one : has_feed rest ≡ true = ap has_feed whole ∙ fed p.line later in
    ap (λ l. broken_by (has_feed l) (nat_lt (LONGEST_LINE - 1) (length l)) (is_whole f) (nat_lt 0 (length l))) (rest_is f rest)
    ∙ ap (λ b. broken_by b (nat_lt (LONGEST_LINE - 1) (length rest)) (is_whole f) (nat_lt 0 (length rest))) one

or-second : (a b c : Bool) → b ≡ true → ((a || b) || c) ≡ true
or-second true b c e = refl
or-second false b c e = ap (λ d. d || c) e

or-true : (a b : Bool) → b ≡ true → (a || b) ≡ true
or-true true b e = refl
or-true false b e = e

-- more octets than a line may have decide
pub long_decides : (f : TextFront) (rest : List ℕ) → LONGEST_LINE ≤ length rest → is_broken f (front_text f ++ rest) ≡ true
long_decides f rest long =
    let far : LONGEST_LINE - 1 < length rest = omega arith in
    let two = lt-ltb (LONGEST_LINE - 1) (length rest) far in
    ap (λ l. broken_by (has_feed l) (nat_lt (LONGEST_LINE - 1) (length l)) (is_whole f) (nat_lt 0 (length l))) (rest_is f rest)
    ∙ or-second (has_feed rest) (nat_lt (LONGEST_LINE - 1) (length rest)) (is_whole f && nat_lt 0 (length rest)) two

-- anything behind the last line decides
pub more_decides : (c : TextCapture) (rest : List ℕ) → 0 < length rest → is_broken (Whole c) (capture_text c ++ rest) ≡ true
more_decides c rest some_ =
    let three = lt-ltb 0 (length rest) some_ in
    ap (λ l. broken_by (has_feed l) (nat_lt (LONGEST_LINE - 1) (length l)) true (nat_lt 0 (length l))) (rest_is (Whole c) rest)
    ∙ or-true (has_feed rest || nat_lt (LONGEST_LINE - 1) (length rest)) (nat_lt 0 (length rest)) three

-- ---- which lines may follow

-- where the octets are the front of a line that has no end yet, none follows
pub open_follows : LineFacts → (f : TextFront) (rest : List ℕ) → ((line : List ℕ) → Follows f line → IsLine line) → HasNoFeed rest → NoneFollows f rest
open_follows facts f rest lines none line later e follows =
    let p = lines line follows in
    let whole : rest ≡ p.line ++ 10 ∷ later = e ∙ ap (λ l. l ++ later) p.is ∙ append_assoc p.line (10 ∷ []) later in
    let yes : has_feed rest ≡ true = ap has_feed whole ∙ fed p.line later in
    let no_ : has_feed rest ≡ false = no_feed rest none in
    cc
