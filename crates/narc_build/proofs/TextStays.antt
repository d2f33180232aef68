-- What octets that decide are found to be, all octets that they begin are found to be.
use Rattle.std.proofs.Common.{◌≡◌, ℕ, ◌+◌, ◌-◌, ◌<◌, ◌≤◌, inl, inr, Bool, true, false, List, [], ◌∷◌, ◌++◌, length, take, drop, refl, sym, ap, ◌∙◌, subst, arith, append_assoc, append-nil, length-append, take-append-drop}
use Rattle.std.specs.Prelude.{◌&&◌, ◌||◌, nat_eq, nat_le, nat_lt, if◌then◌else◌}
use Rattle.std.proofs.lemmas.Bool.{eqb-true, ltb-true, lt-ltb, leb-true, leb-false}
use Rattle.std.proofs.lemmas.List.{take_at, take_all, take-append-le, flat_map_more}
use Rattle.std.proofs.lemmas.List.Folds.{list_any-append}
use Rattle.narc_lines.specs.Lines.{HasNoFeed, IsLine}
use Rattle.narc_lines.proofs.Feeds.{HasNoFeed-take}
use Rattle.narc_build.specs.declared.limits.TheConstants.{LONGEST_LINE}
use Rattle.narc_text.specs.CaptureText.{IsTextEntry, unit_word, capture_line, entry_line}
use Rattle.narc_build.specs.CaptureFront.{TextCapture, IsTextCapture, TextFront, NoLine, Begun, Whole, IsTextFront, begun_text, front_text, IsFrontOf, is_whole, is_all, is_broken}
use Rattle.narc_world.specs.declared.input_buffer.TheConstants.{INPUT_LIMIT}
use Rattle.narc_build.specs.declared.ending.Built.TheVariants as answer
use Rattle.narc_build.specs.BuiltLine.{empty_text}
use Rattle.narc_build.specs.Building.{text_ending}
use Rattle.narc_build.proofs.CaptureFronts.{All-push, LineFacts, Follows, NoneFollows, front_of_lines}
use Rattle.narc_build.proofs.TextDecides.{has_feed, rest_is, line_some, broken_by, open_decides_not, none_decides_not}
use Rattle.narc_build.proofs.TextFacts.{TextFacts, text_facts}
use Rattle.narc_build.proofs.TextRuns.{follows_line}
use Rattle.narc_build.proofs.TextEnded.{head_line}

each_line : LineFacts → (f : TextFront) (line : List ℕ) → Follows f line → IsLine line
each_line facts NoLine line follows = head_line facts line follows
each_line facts (Begun c) line follows = follows_line facts c line follows
each_line facts (Whole c) line follows = absurd follows

-- behind the longest front no line follows
longer : (s : List ℕ) (f g : TextFront) (line later : List ℕ) → IsFrontOf s f → IsTextFront g → front_text f ++ line ≡ front_text g → s ≡ front_text f ++ (line ++ later) → 0 < length line → ⊥
longer s f g line later is valid e whole some_ =
    let there : s ≡ front_text g ++ later = whole ∙ sym (append_assoc (front_text f) line later) ∙ ap (λ l. l ++ later) e in
    let few : length (front_text g) ≤ length (front_text f) = is.longest g later valid there in
    absurd (omega (arith, few, some_, ap length e, length-append (front_text f) line))

none_after : LineFacts → (s : List ℕ) (f : TextFront) → (is : IsFrontOf s f) → NoneFollows f is.rest
none_after facts s NoLine is line later e follows =
    let c = empty_text follows.0 follows.1 in
    let some_ = line_some line (head_line facts line follows) in
    longer s NoLine (Begun c) line later is (record { snap = follows.2; entries = tt }) (follows.3 ∙ sym (append-nil (capture_line (unit_word follows.0) follows.1))) (is.layout ∙ e) some_
none_after facts s (Begun c) is line later e (inl entry) =
    let valid : IsTextCapture c = is.valid in
    let more : TextCapture = record { unit = c.unit; snap = c.snap; entries = c.entries ++ entry.0 ∷ [] } in
    let whole : begun_text c ++ line ≡ begun_text more =
    ap (λ l. begun_text c ++ l) entry.2 ∙ flat_map_more entry_line (capture_line (unit_word c.unit) c.snap) c.entries entry.0 in
    longer s (Begun c) (Begun more) line later is (record { snap = valid.snap; entries = All-push IsTextEntry c.entries entry.0 valid.entries entry.1 }) whole
    (is.layout ∙ ap (λ l. begun_text c ++ l) e) (line_some line (follows_line facts c line (inl entry)))
none_after facts s (Begun c) is line later e (inr last) =
    longer s (Begun c) (Whole c) line later is is.valid (ap (λ l. begun_text c ++ l) last) (is.layout ∙ ap (λ l. begun_text c ++ l) e)
    (line_some line (follows_line facts c line (inr last)))
none_after facts s (Whole c) is line later e follows = follows

not_whole : (f : TextFront) (line : List ℕ) → Follows f line → is_whole f ≡ false
not_whole NoLine line follows = refl
not_whole (Begun c) line follows = refl
not_whole (Whole c) line follows = absurd follows

-- where the rest decides, no line follows it, whatever comes behind it
none_later : (facts : TextFacts) (f : TextFront) (rest more : List ℕ) → length (front_text f) ≤ INPUT_LIMIT → NoneFollows f rest → is_broken f (front_text f ++ rest) ≡ true → NoneFollows f (rest ++ more)
none_later facts f rest more shorter none broken line later e follows = at (nat_le (length line) (length rest)) refl where
  at : (b : Bool) → nat_le (length line) (length rest) ≡ b → ⊥
  at true h =
      let within : length line ≤ length rest = leb-true (length line) (length rest) h in
      let first : take (length line) rest ≡ line = sym (take-append-le (length line) rest more within) ∙ ap (take (length line)) e ∙ take_at line later (length line) refl in
      none line (drop (length line) rest) (sym (take-append-drop (length line) rest) ∙ ap (λ l. l ++ drop (length line) rest) first) follows
  at false h =
      let p = each_line facts.lines f line follows in
      let short : length rest < length line = leb-false (length line) (length rest) h in
      let size : length line ≡ length p.line + 1 = ap length p.is ∙ length-append p.line (10 ∷ []) in
      let inside : length rest ≤ length p.line = omega (arith, short, size) in
      let within : length rest ≤ length line = omega (arith, short) in
      let same : rest ≡ take (length rest) p.line =
      sym (take_at rest more (length rest) refl) ∙ ap (take (length rest)) e ∙ take-append-le (length rest) line later within
      ∙ ap (take (length rest)) p.is ∙ take-append-le (length rest) p.line (10 ∷ []) inside in
      let unfed : HasNoFeed rest = subst HasNoFeed (sym same) (HasNoFeed-take (length rest) p.line p.none) in
      let few : length rest < LONGEST_LINE = omega (arith, short, facts.line_fits f line shorter follows) in
      let no_ : is_broken f (front_text f ++ rest) ≡ false = open_decides_not f rest (not_whole f line follows) unfed few in
      cc

-- what decides decides with more behind it
broken_more : (a b w c p q r : Bool) → broken_by a b w c ≡ true → (a ≡ true → p ≡ true) → (b ≡ true → q ≡ true) → (c ≡ true → r ≡ true) → broken_by p q w r ≡ true
broken_more true b w c p q r h f g k = ap (λ x. broken_by x q w r) (f refl)
broken_more false true w c true q r h f g k = refl
broken_more false true w c false q r h f g k = ap (λ x. broken_by false x w r) (g refl)
broken_more false false true true true q r h f g k = refl
broken_more false false true true false true r h f g k = refl
broken_more false false true true false false r h f g k = k refl
broken_more false false true false p q r h f g k = cc
broken_more false false false c p q r h f g k = cc

feed_more : (a b : List ℕ) → has_feed a ≡ true → has_feed (a ++ b) ≡ true
feed_more a b h = list_any-append (λ octet. nat_eq octet 10) a b ∙ ap (λ x. x || has_feed b) h

less_more : (n : ℕ) (a b : List ℕ) → nat_lt n (length a) ≡ true → nat_lt n (length (a ++ b)) ≡ true
less_more n a b h =
    let far : n < length (a ++ b) = omega (arith, ltb-true n (length a) h, length-append a b) in
    lt-ltb n (length (a ++ b)) far

broken_still : (f : TextFront) (rest more : List ℕ) → is_broken f (front_text f ++ rest) ≡ true → is_broken f (front_text f ++ (rest ++ more)) ≡ true
broken_still f rest more h =
    let there : broken_by (has_feed rest) (nat_lt (LONGEST_LINE - 1) (length rest)) (is_whole f) (nat_lt 0 (length rest)) ≡ true =
    sym (ap (λ l. broken_by (has_feed l) (nat_lt (LONGEST_LINE - 1) (length l)) (is_whole f) (nat_lt 0 (length l))) (rest_is f rest)) ∙ h in
    ap (λ l. broken_by (has_feed l) (nat_lt (LONGEST_LINE - 1) (length l)) (is_whole f) (nat_lt 0 (length l))) (rest_is f (rest ++ more))
    ∙ broken_more _ _ (is_whole f) _ _ _ _ there (feed_more rest more) (less_more (LONGEST_LINE - 1) rest more) (less_more 0 rest more)

-- the ending
and-second : (a b : Bool) → (a && b) ≡ true → b ≡ true
and-second true b h = h
and-second false b h = cc

pub broken_ending : (s : List ℕ) (f : TextFront) → (is : IsFrontOf s f) → is_broken f s ≡ true → text_ending f s ≡ answer.Bad (length (front_text f))
broken_ending s f is broken = at (is_all f s) refl where
  at : (b : Bool) → is_all f s ≡ b → (if b then answer.Done else answer.Bad (length (front_text f))) ≡ answer.Bad (length (front_text f))
  at false h = refl
  at true h =
      let same : length (front_text f) ≡ length s = eqb-true (length (front_text f)) (length s) (and-second (is_whole f) (nat_eq (length (front_text f)) (length s)) h) in
      let empty : length is.rest ≡ 0 = omega (arith, same, ap length is.layout, length-append (front_text f) is.rest) in
      let none : is.rest ≡ [] = sym (take_all 0 is.rest (omega (arith, empty))) in
      let no_ : is_broken f s ≡ false = ap (is_broken f) (is.layout ∙ ap (λ l. front_text f ++ l) none) ∙ none_decides_not f in
      cc

-- what was found of octets that decide is found of all octets that they begin
pub record Stays (f : TextFront) (s more : List ℕ) : Type 0 where
  pub front : IsFrontOf (s ++ more) f
  pub same : text_ending f (s ++ more) ≡ text_ending f s
  pub decided : is_broken f (s ++ more) ≡ true

pub stays : (f : TextFront) (s more : List ℕ) → length s ≤ INPUT_LIMIT → IsFrontOf s f → is_broken f s ≡ true → Stays f s more
stays f s more fits is broken =
    let rest = is.rest in
    let shorter : length (front_text f) ≤ INPUT_LIMIT = omega (arith, fits, ap length is.layout, length-append (front_text f) rest) in
    let there : is_broken f (front_text f ++ rest) ≡ true = ap (is_broken f) (sym is.layout) ∙ broken in
    let layout : s ++ more ≡ front_text f ++ (rest ++ more) = ap (λ l. l ++ more) is.layout ∙ append_assoc (front_text f) rest more in
    let none = none_later text_facts f rest more shorter (none_after text_facts.lines s f is) there in
    let front_ : IsFrontOf (s ++ more) f = subst (λ l. IsFrontOf l f) (sym layout) (front_of_lines text_facts.lines f (rest ++ more) is.valid none) in
    let still : is_broken f (s ++ more) ≡ true = ap (is_broken f) layout ∙ broken_still f rest more there in
    record {
      front = front_;
      same = broken_ending (s ++ more) f front_ still ∙ sym (broken_ending s f is broken);
      decided = still;
    }
