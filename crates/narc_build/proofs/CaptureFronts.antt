-- The first lines of a capture's text: which they are is found line by line.
use Rattle.std.proofs.Common.{◌≡◌, ℕ, suc, ◌<◌, ◌≤◌, ◌^◌, ◌⊎◌, inl, inr, List, [], ◌∷◌, ◌++◌, length, map, drop, get_or, refl, sym, ap, ◌∙◌, arith, append_assoc, append-nil, length-append}
use Rattle.std.specs.Prelude.{true, false, nat_eq, flat_map}
use Rattle.std.specs.List.{AllByRecursion}
use Rattle.narc_pcap.specs.declared.header.Unit.{Unit as TimeUnit}
use Rattle.narc_lines.specs.Lines.{HasNoFeed, IsLine}
use Rattle.narc_text.specs.CaptureText.{TextEntry, IsTextEntry, unit_word, capture_line, entry_line, end_line}
use Rattle.narc_build.specs.CaptureFront.{TextCapture, TextFront, NoLine, Begun, Whole, IsTextFront, front_text, IsFrontOf}
use Rattle.narc_build.specs.BuiltLine.{IsEntryLine}

-- one item more
pub All-push : {A : Type 0} (P : A → Type 0) (l : List A) (a : A) → AllByRecursion P l → P a → AllByRecursion P (l ++ a ∷ [])
All-push P [] a each one = (one, tt)
All-push P (o ∷ l) a each one = (each.0, All-push P l a each.1 one)

-- ---- lines, one behind the other

same_line : (a b x y : List ℕ) → HasNoFeed a → HasNoFeed b → a ++ 10 ∷ x ≡ b ++ 10 ∷ y → (a ≡ b) × (x ≡ y)
same_line [] [] x y p q e = let same : x ≡ y = cc in (refl, same)
same_line [] (o ∷ b) x y p q e = let feed : o ≡ 10 = cc in absurd (q.0 feed)
same_line (o ∷ a) [] x y p q e = let feed : o ≡ 10 = cc in absurd (p.0 feed)
same_line (o ∷ a) (n ∷ b) x y p q e =
    let first : o ≡ n = cc in
    let behind : a ++ 10 ∷ x ≡ b ++ 10 ∷ y = cc in
    let more = same_line a b x y p.1 q.1 behind in
    let whole : o ∷ a ≡ n ∷ b = ap (λ k. k ∷ a) first ∙ ap (λ l. n ∷ l) more.0 in
    (whole, more.1)

-- octets begin with one line
pub one_line : (a b x y : List ℕ) → IsLine a → IsLine b → a ++ x ≡ b ++ y → (a ≡ b) × (x ≡ y)
one_line a b x y p q e =
    let whole : p.line ++ 10 ∷ x ≡ q.line ++ 10 ∷ y =
    sym (append_assoc p.line (10 ∷ []) x) ∙ ap (λ l. l ++ x) (sym p.is) ∙ e ∙ ap (λ l. l ++ y) q.is ∙ append_assoc q.line (10 ∷ []) y in
    let found = same_line p.line q.line x y p.none q.none whole in
    (p.is ∙ ap (λ l. l ++ 10 ∷ []) found.0 ∙ sym q.is, found.1)

abbrev joined : List (List ℕ) → List ℕ
joined [] = []
joined (line ∷ lines) = line ++ joined lines

joined-append : (a b : List (List ℕ)) → joined (a ++ b) ≡ joined a ++ joined b
joined-append [] b = refl
joined-append (l ∷ a) b = ap (λ m. l ++ m) (joined-append a b) ∙ sym (append_assoc l (joined a) (joined b))

abbrev AreLines : List (List ℕ) → Type 0
AreLines lines = AllByRecursion IsLine lines

AreLines-append : (a b : List (List ℕ)) → AreLines a → AreLines b → AreLines (a ++ b)
AreLines-append [] b p q = q
AreLines-append (l ∷ a) b p q = (p.0, AreLines-append a b p.1 q)

-- the lines go on behind others with this line
record GoesOn (xs ys : List (List ℕ)) (x y : List ℕ) : Type 0 where
  line : List ℕ
  lines : List (List ℕ)
  is : ys ≡ xs ++ line ∷ lines
  rest : x ≡ line ++ (joined lines ++ y)

-- of two ways to cut octets into lines and a rest, one goes on where the other stops
cut_lines : (xs ys : List (List ℕ)) (x y : List ℕ) → AreLines xs → AreLines ys → joined xs ++ x ≡ joined ys ++ y
    → (length (joined ys) ≤ length (joined xs)) ⊎ GoesOn xs ys x y
cut_lines [] [] x y p q e = inl (omega arith)
cut_lines [] (b ∷ ys) x y p q e = inr (record { line = b; lines = ys; is = refl; rest = e ∙ append_assoc b (joined ys) y })
cut_lines (a ∷ xs) [] x y p q e = inl (omega arith)
cut_lines (a ∷ xs) (b ∷ ys) x y p q e =
    let first = one_line a b (joined xs ++ x) (joined ys ++ y) p.0 q.0 (sym (append_assoc a (joined xs) x) ∙ e ∙ append_assoc b (joined ys) y) in
    elim (cut_lines xs ys x y p.1 q.1 first.1) [
      | inl few ↦ inl (omega (arith, few, length-append a (joined xs), length-append b (joined ys), ap length first.0))
      | inr more ↦ inr (record {
        line = more.line;
        lines = more.lines;
        is = ap (λ l. l ∷ ys) (sym first.0) ∙ ap (λ l. a ∷ l) more.is;
        rest = more.rest;
      })
    ]

-- ---- the lines of a text

abbrev entry_lines : List TextEntry → List (List ℕ)
entry_lines entries = map entry_line entries

abbrev head_line : TextCapture → List ℕ
head_line c = capture_line (unit_word c.unit) c.snap

abbrev last_line_of : TextCapture → List ℕ
last_line_of c = end_line (length c.entries) (length c.entries) 0 0

abbrev lines_of : TextFront → List (List ℕ)
lines_of NoLine = []
lines_of (Begun c) = head_line c ∷ entry_lines c.entries
lines_of (Whole c) = head_line c ∷ (entry_lines c.entries ++ last_line_of c ∷ [])

entries_joined : (entries : List TextEntry) → flat_map entry_line entries ≡ joined (entry_lines entries)
entries_joined [] = refl
entries_joined (e ∷ entries) = ap (λ l. entry_line e ++ l) (entries_joined entries)

text_joined : (f : TextFront) → front_text f ≡ joined (lines_of f)
text_joined NoLine = refl
text_joined (Begun c) = ap (λ l. head_line c ++ l) (entries_joined c.entries)
text_joined (Whole c) =
    let e = entry_lines c.entries in
    append_assoc (head_line c) (flat_map entry_line c.entries) (last_line_of c)
    ∙ ap (λ l. head_line c ++ (l ++ last_line_of c)) (entries_joined c.entries)
    ∙ ap (λ l. head_line c ++ (joined e ++ l)) (sym (append-nil (last_line_of c)))
    ∙ ap (λ l. head_line c ++ l) (sym (joined-append e (last_line_of c ∷ [])))

-- a line that may follow these
abbrev pub Follows : TextFront → List ℕ → Type 0
Follows NoLine line = (unit : TimeUnit) × (snap : ℕ) × (snap < 2 ^ 32) × (line ≡ capture_line (unit_word unit) snap)
Follows (Begun c) line = IsEntryLine line ⊎ (line ≡ last_line_of c)
Follows (Whole c) line = ⊥

-- no line that may follow begins the rest
abbrev pub NoneFollows : TextFront → List ℕ → Type 0
NoneFollows f rest = (line later : List ℕ) → rest ≡ line ++ later → Follows f line → ⊥

-- each line of a text is a line
pub record LineFacts : Type 0 where
  pub head : (unit : TimeUnit) (snap : ℕ) → IsLine (capture_line (unit_word unit) snap)
  pub entry : (e : TextEntry) → IsTextEntry e → IsLine (entry_line e)
  pub last : (n : ℕ) → IsLine (end_line n n 0 0)

entry_not_last : (n : ℕ) → IsEntryLine (end_line n n 0 0) → ⊥
entry_not_last n entry = let first : true ≡ false = ap (λ (l : List ℕ). nat_eq (get_or l 0 0) 101) entry.2 in cc

-- a line behind those of some entries, among those of others
among_entries : (before after : List TextEntry) (line : List ℕ) (lines : List (List ℕ)) → AllByRecursion IsTextEntry after
    → entry_lines after ≡ entry_lines before ++ line ∷ lines → IsEntryLine line
among_entries [] [] line lines valid e = cc
among_entries [] (t ∷ after) line lines valid e = let same : line ≡ entry_line t = sym (ap (λ (l : List (List ℕ)). get_or l 0 []) e) in (t, valid.0, same)
among_entries (b ∷ before) [] line lines valid e = cc
among_entries (b ∷ before) (t ∷ after) line lines valid e = among_entries before after line lines valid.1 (ap (drop 1) e)

among_all : (before after : List TextEntry) (last line : List ℕ) (lines : List (List ℕ)) → AllByRecursion IsTextEntry after
    → entry_lines after ++ last ∷ [] ≡ entry_lines before ++ line ∷ lines → IsEntryLine line ⊎ ((line ≡ last) × (length after ≡ length before) × (lines ≡ []))
among_all [] [] last line lines valid e =
    inr (sym (ap (λ (l : List (List ℕ)). get_or l 0 []) e), refl, sym (ap (drop 1) e))
among_all [] (t ∷ after) last line lines valid e = let same : line ≡ entry_line t = sym (ap (λ (l : List (List ℕ)). get_or l 0 []) e) in inl (t, valid.0, same)
among_all (b ∷ before) [] last line lines valid e =
    absurd (omega (arith, ap length e, length-append (entry_lines before) (line ∷ lines)))
among_all (b ∷ before) (t ∷ after) last line lines valid e =
    elim (among_all before after last line lines valid.1 (ap (drop 1) e)) [
      | inl entry ↦ inl entry
      | inr same ↦ inr (same.0, ap suc same.1, same.2)
    ]

-- a text that goes on behind these lines goes on with one that may follow
next_line : (f g : TextFront) (line : List ℕ) (lines : List (List ℕ)) → IsTextFront g → lines_of g ≡ lines_of f ++ line ∷ lines → Follows f line
next_line NoLine NoLine line lines valid e = cc
next_line NoLine (Begun d) line lines valid e = (d.unit, d.snap, valid.snap, sym (ap (λ (l : List (List ℕ)). get_or l 0 []) e))
next_line NoLine (Whole d) line lines valid e = (d.unit, d.snap, valid.snap, sym (ap (λ (l : List (List ℕ)). get_or l 0 []) e))
next_line (Begun c) NoLine line lines valid e = cc
next_line (Begun c) (Begun d) line lines valid e = inl (among_entries c.entries d.entries line lines valid.entries (ap (drop 1) e))
next_line (Begun c) (Whole d) line lines valid e =
    elim (among_all c.entries d.entries (last_line_of d) line lines valid.entries (ap (drop 1) e)) [
      | inl entry ↦ inl entry
      | inr same ↦ inr (same.0 ∙ ap (λ n. end_line n n 0 0) same.1)
    ]
next_line (Whole c) NoLine line lines valid e = cc
next_line (Whole c) (Begun d) line lines valid e =
    let behind = ap (drop 1) e ∙ append_assoc (entry_lines c.entries) (last_line_of c ∷ []) (line ∷ lines) in
    entry_not_last (length c.entries) (among_entries c.entries d.entries (last_line_of c) (line ∷ lines) valid.entries behind)
next_line (Whole c) (Whole d) line lines valid e =
    let behind = ap (drop 1) e ∙ append_assoc (entry_lines c.entries) (last_line_of c ∷ []) (line ∷ lines) in
    elim (among_all c.entries d.entries (last_line_of d) (last_line_of c) (line ∷ lines) valid.entries behind) [
      | inl entry ↦ entry_not_last (length c.entries) entry
      | inr same ↦ let none = same.2 in cc
    ]

entries_are_lines : LineFacts → (entries : List TextEntry) → AllByRecursion IsTextEntry entries → AreLines (entry_lines entries)
entries_are_lines facts [] valid = tt
entries_are_lines facts (e ∷ entries) valid = (facts.entry e valid.0, entries_are_lines facts entries valid.1)

are_lines : LineFacts → (f : TextFront) → IsTextFront f → AreLines (lines_of f)
are_lines facts NoLine valid = tt
are_lines facts (Begun c) valid = (facts.head c.unit c.snap, entries_are_lines facts c.entries valid.entries)
are_lines facts (Whole c) valid =
    (facts.head c.unit c.snap, AreLines-append (entry_lines c.entries) (last_line_of c ∷ []) (entries_are_lines facts c.entries valid.entries) (facts.last (length c.entries), tt))

-- the lines behind which none follows are the first lines of the octets
pub front_of_lines : LineFacts → (f : TextFront) (rest : List ℕ) → IsTextFront f → NoneFollows f rest → IsFrontOf (front_text f ++ rest) f
front_of_lines facts f rest valid none = record {
  valid = valid;
  rest = rest;
  layout = refl;
  longest = λ other more good e.
      let whole : joined (lines_of f) ++ rest ≡ joined (lines_of other) ++ more =
      ap (λ l. l ++ rest) (sym (text_joined f)) ∙ e ∙ ap (λ l. l ++ more) (text_joined other) in
      elim (cut_lines (lines_of f) (lines_of other) rest more (are_lines facts f valid) (are_lines facts other good) whole) [
        | inl few ↦ omega (arith, few, ap length (text_joined f), ap length (text_joined other))
        | inr on ↦ absurd (none on.line (joined on.lines ++ more) on.rest (next_line f other on.line on.lines good on.is))
      ];
}
