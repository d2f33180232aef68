-- How the job `build` ends where no line follows: before the first, at a line without an end, and behind the last.
use Rattle.std.proofs.Common.{◌≡◌, ℕ, ◌+◌, ◌-◌, ◌<◌, ◌≤◌, ◌⊎◌, inl, inr, true, false, List, [], ◌∷◌, ◌++◌, length, take, Option, Result, Ok, Err, refl, sym, ap, ◌∙◌, subst, arith, append_assoc, append-nil, length-append}
use Rattle.std.specs.Prelude.{OnOk, is_err, nat_eq, if◌then◌else◌}
use Rattle.std.proofs.lemmas.Bool.{eq-eqb}
use Rattle.std.proofs.lemmas.Bool.Decides.{nat_tests}
use Rattle.narc_bits.proofs.Lists.{take-append-add}
use Rattle.narc_world.specs.declared.error.Failed.{Failed}
use Rattle.narc_world.specs.Outside.{TakesFront, IsEmptyWhereTold, Appends}
use Rattle.narc_world.specs.Intake.{IsFresh, Holds, Exceeds, taken}
use Rattle.narc_text.specs.Printing.{Passes}
use Rattle.narc_world.proofs.Fronts.{TakesFront-append}
use Rattle.narc_text.proofs.Printings.{Appends-nil}
use Rattle.narc_world.specs.declared.input_buffer.TheConstants.{INPUT_LIMIT}
use Rattle.narc_pcap.specs.Written.{Gathered}
use Rattle.narc_lines.specs.Lines.{HasNoFeed, IsLine, IsEndless}
use Rattle.narc_lines.specs.Reading.{Reading}
use Rattle.narc_lines.specs.Reading as reading
use Rattle.narc_build.specs.declared.limits.TheConstants.{LONGEST_LINE}
use Rattle.narc_text.specs.CaptureText.{end_line}
use Rattle.narc_build.specs.CaptureFront.{TextCapture, TextFront, NoLine, Begun, Whole, begun_text, capture_text, is_broken}
use Rattle.narc_build.specs.declared.ending.Built.{Built}
use Rattle.narc_build.specs.declared.ending.Built.TheVariants as answer
use Rattle.narc_reading.specs.declared.error.BadLine.{BadLine}
use Rattle.narc_lines.specs.declared.reader.NextLine.{NextLine}
use Rattle.narc_lines.specs.declared.reader.NextLine.TheVariants as next
use Rattle.narc_build.specs.BuiltLine.{IsHeaderBuilt, IsNoHeaderLine}
use Rattle.narc_build.specs.Building.{text_ending}
use Rattle.narc_build.specs.Building.{IsShown, BuildRun}
use Rattle.narc_build.specs.TextEnd.{IsTextEnded, EndsBehind}
use Rattle.narc_build.proofs.CaptureFronts.{LineFacts, Follows, NoneFollows, one_line}
use Rattle.narc_build.proofs.TextDecides.{has_feed, no_feed, fed, open_follows, line_decides, long_decides, more_decides, none_decides_not}
use Rattle.narc_build.proofs.TextSoFar.{BuildsSoFar}
use Rattle.narc_build.proofs.TextFacts.{TextFacts}
use Rattle.narc_build.proofs.TextRuns.{follows_line, took, torn}
use Rattle.narc_build.proofs.Builds.{judged_by, broken_by, stopped_by, overran_by}

-- where more octets than a line may have come without a line feed, no line follows
pub endless_follows : (f : TextFront) (rest : List ℕ) → ((line : List ℕ) → Follows f line → IsLine line × (length line ≤ LONGEST_LINE))
    → IsEndless LONGEST_LINE rest → NoneFollows f rest
endless_follows f rest lines endless line later e follows =
    let p = (lines line follows).0 in
    let few : length line ≤ LONGEST_LINE = (lines line follows).1 in
    let k = LONGEST_LINE - length line in
    let far : LONGEST_LINE ≡ length line + k = omega (arith, few) in
    let first : take LONGEST_LINE rest ≡ line ++ take k later = ap (take LONGEST_LINE) e ∙ ap (λ n. take n (line ++ later)) far ∙ take-append-add line later k in
    let whole : take LONGEST_LINE rest ≡ p.line ++ 10 ∷ take k later = first ∙ ap (λ l. l ++ take k later) p.is ∙ append_assoc p.line (10 ∷ []) (take k later) in
    let yes : has_feed (take LONGEST_LINE rest) ≡ true = ap has_feed whole ∙ fed p.line (take k later) in
    let no_ : has_feed (take LONGEST_LINE rest) ≡ false = no_feed (take LONGEST_LINE rest) endless.none in
    cc

-- more octets than a line may have
pub endless : (facts : TextFacts) (lines now : Reading) (w : Gathered) (records : ℕ) (x y z a b d : Option (List ℕ)) → (so_far : BuildsSoFar lines w records x y a b)
    → Holds lines.input now.input y z → IsEndless lines.longest now.input.hand → taken now.input ≤ INPUT_LIMIT
    → (r : Result Built Failed) → IsShown r w.octets (answer.Bad lines.input.place) b d → BuildRun x z a d r
endless facts lines now w records x y z a b d so_far holds long reach r shown =
    let text = so_far.text in
    let there : IsEndless LONGEST_LINE now.input.hand = subst (λ n. IsEndless n now.input.hand) so_far.longest long in
    let none = endless_follows (Begun text) now.input.hand (λ line f. (follows_line facts.lines text line f, facts.line_fits (Begun text) line (omega (arith, so_far.reach, so_far.place)) f)) there in
    judged_by facts.lines (Begun text) now.input.hand x z a d so_far.valid none (took facts lines now w records x y z a b d so_far holds)
    (omega (arith, reach, holds.place, so_far.place, length-append (begun_text text) now.input.hand))
    r w.octets b (answer.Bad lines.input.place) so_far.built shown (ap answer.Bad so_far.place) (inr (long_decides (Begun text) now.input.hand there.long))

-- ---- before the first line

pub head_line : LineFacts → (line : List ℕ) → Follows NoLine line → IsLine line
head_line facts line f = subst IsLine (sym f.3) (facts.head f.0 f.1)

module _ (facts : TextFacts) (fresh now : Reading) (x z a : Option (List ℕ)) (is_fresh : IsFresh fresh.input) (o : Built) where
  nothing : Passes [] [] a a
  nothing = record { pushed = []; appended = Appends-nil a; split = refl }

  all_taken : Holds fresh.input now.input x z → TakesFront now.input.hand x z
  all_taken holds = subst (λ l. TakesFront l x z) (sym (holds.hand ∙ ap (λ l. l ++ holds.pulled) is_fresh.hand)) holds.took

  few : taken now.input ≤ INPUT_LIMIT → length now.input.hand ≤ INPUT_LIMIT
  few reach = omega (arith, reach)

  pub headless_torn : Holds fresh.input now.input x z → HasNoFeed now.input.hand → IsEmptyWhereTold z → taken now.input ≤ INPUT_LIMIT
      → o ≡ answer.Bad 0 → BuildRun x z a a (Ok o)
  headless_torn holds none ended reach v =
      judged_by facts.lines NoLine now.input.hand x z a a tt (open_follows facts.lines NoLine now.input.hand (head_line facts.lines) none)
      (all_taken holds) (few reach) (Ok o) [] a (answer.Bad 0) nothing (v, Appends-nil a) refl (inl ended)

  pub headless_endless : Holds fresh.input now.input x z → IsEndless LONGEST_LINE now.input.hand → taken now.input ≤ INPUT_LIMIT
      → o ≡ answer.Bad 0 → BuildRun x z a a (Ok o)
  headless_endless holds long reach v =
      judged_by facts.lines NoLine now.input.hand x z a a tt
      (endless_follows NoLine now.input.hand (λ line f. (head_line facts.lines line f, facts.line_fits NoLine line (omega arith) f)) long)
      (all_taken holds) (few reach) (Ok o) [] a (answer.Bad 0) nothing (v, Appends-nil a) refl (inr (long_decides NoLine now.input.hand long.long))

  pub headless_fault : Holds fresh.input now.input x z → HasNoFeed now.input.hand → taken now.input ≤ INPUT_LIMIT
      → o ≡ answer.ReadFault (taken now.input) → BuildRun x z a a (Ok o)
  headless_fault holds none reach v =
      let size : taken now.input ≡ length now.input.hand = omega (arith, holds.place, is_fresh.place) in
      broken_by facts.lines NoLine now.input.hand x z a a tt (open_follows facts.lines NoLine now.input.hand (head_line facts.lines) none)
      (all_taken holds) (few reach) (Ok o) [] a (answer.ReadFault (taken now.input)) nothing (v, Appends-nil a) (ap answer.ReadFault size)

  pub headless_line : (passes : reading.Passes fresh now x z) → IsNoHeaderLine now.input.passed → taken now.input ≤ INPUT_LIMIT
      → o ≡ answer.Bad 0 → BuildRun x z a a (Ok o)
  headless_line passes no_header reach v =
      let rest = now.input.passed ++ now.input.hand in
      let none : NoneFollows NoLine rest = λ line later e f.
      let same = one_line now.input.passed line now.input.hand later passes.line (head_line facts.lines line f) e in
      no_header f.0 f.1 f.2 (same.0 ∙ f.3) in
      let took_ : TakesFront rest x z = subst (λ l. TakesFront l x z) (sym (ap (λ l. l ++ passes.pulled) is_fresh.hand) ∙ passes.hand) passes.took in
      judged_by facts.lines NoLine rest x z a a tt none took_ (omega (arith, reach, passes.place, is_fresh.place, length-append now.input.passed now.input.hand))
      (Ok o) [] a (answer.Bad 0) nothing (v, Appends-nil a) refl (inr (line_decides NoLine now.input.passed now.input.hand passes.line))

-- ---- behind the last line

all_told : (c : TextCapture) → text_ending (Whole c) (capture_text c ++ []) ≡ answer.Done
all_told c =
    let size : length (capture_text c) ≡ length (capture_text c ++ []) = ap length (sym (append-nil (capture_text c))) in
    ap (λ b. if b then answer.Done else answer.Bad (length (capture_text c))) (eq-eqb (length (capture_text c)) (length (capture_text c ++ [])) size)

not_all : (c : TextCapture) (rest : List ℕ) → 0 < length rest → text_ending (Whole c) (capture_text c ++ rest) ≡ answer.Bad (length (capture_text c))
not_all c rest some_ =
    let size : length (capture_text c ++ rest) ≡ length (capture_text c) + length rest = length-append (capture_text c) rest in
    let differs : nat_eq (length (capture_text c)) (length (capture_text c ++ rest)) ≡ false = grind (arith, nat_tests, size, some_) in
    ap (λ b. if b then answer.Done else answer.Bad (length (capture_text c))) differs

module _ (facts : TextFacts) (lines now last : Reading) (w : Gathered) (records : ℕ) (x y z u a b d : Option (List ℕ)) (so_far : BuildsSoFar lines w records x y a b)
    (passes : reading.Passes lines now y z) (is : now.input.passed ≡ end_line records records 0 0) where
  abbrev text : TextCapture
  text = so_far.text

  abbrev whole : List ℕ
  whole = capture_text text

  ended_line : begun_text text ++ now.input.passed ≡ whole
  ended_line = ap (λ l. begun_text text ++ l) (is ∙ ap (λ n. end_line n n 0 0) so_far.records_)

  took_now : TakesFront (whole ++ now.input.hand) x z
  took_now =
      subst (λ l. TakesFront l x z) (append_assoc (begun_text text) lines.input.hand passes.pulled ∙ ap (λ l. begun_text text ++ l) passes.hand
      ∙ sym (append_assoc (begun_text text) now.input.passed now.input.hand) ∙ ap (λ l. l ++ now.input.hand) ended_line)
      (TakesFront-append (begun_text text ++ lines.input.hand) passes.pulled x y z so_far.took passes.took)

  took_last : Holds now.input last.input z u → TakesFront (whole ++ last.input.hand) x u
  took_last holds =
      subst (λ l. TakesFront l x u) (append_assoc whole now.input.hand holds.pulled ∙ ap (λ l. whole ++ l) (sym holds.hand))
      (TakesFront-append (whole ++ now.input.hand) holds.pulled x z u took_now holds.took)

  took_past : (e : Exceeds now.input last.input z u) → TakesFront ((whole ++ last.input.hand) ++ e.octet ∷ []) x u
  took_past e =
      subst (λ l. TakesFront l x u)
      (append_assoc whole now.input.hand (e.pulled ++ e.octet ∷ []) ∙ ap (λ l. whole ++ l) (sym (append_assoc now.input.hand e.pulled (e.octet ∷ [])) ∙ ap (λ l. l ++ e.octet ∷ []) (sym e.hand))
      ∙ sym (append_assoc whole last.input.hand (e.octet ∷ [])))
      (TakesFront-append (whole ++ now.input.hand) (e.pulled ++ e.octet ∷ []) x z u took_now e.took)

  place_now : now.input.place ≡ length whole
  place_now = omega (arith, passes.place, so_far.place, ap length ended_line, length-append (begun_text text) now.input.passed)

  size : last.input.place ≡ now.input.place → length (whole ++ last.input.hand) ≡ taken last.input
  size place = omega (arith, place, place_now, length-append whole last.input.hand)

  none : (rest : List ℕ) → NoneFollows (Whole text) rest
  none rest line later e f = f

  ended_ok : (o : Built) → Appends w.octets b d → EndsBehind now last z u o → taken last.input ≤ INPUT_LIMIT → BuildRun x u a d (Ok o)
  ended_ok answer.Done wrote h reach =
      judged_by facts.lines (Whole text) last.input.hand x u a d so_far.valid (none last.input.hand) (took_last h.0) (omega (arith, size (h.0).place, reach))
      (Ok answer.Done) w.octets b answer.Done so_far.built (refl, wrote) (sym (all_told text) ∙ ap (λ l. text_ending (Whole text) (whole ++ l)) (sym h.1)) (inl h.2)
  ended_ok (answer.Bad at) wrote h reach =
      judged_by facts.lines (Whole text) last.input.hand x u a d so_far.valid (none last.input.hand) (took_last h.1) (omega (arith, size (h.1).place, reach))
      (Ok (answer.Bad at)) w.octets b (answer.Bad at) so_far.built (refl, wrote) (ap answer.Bad (h.0 ∙ place_now) ∙ sym (not_all text last.input.hand h.2)) (inr (more_decides text last.input.hand h.2))
  ended_ok (answer.ReadFault at) wrote h reach =
      broken_by facts.lines (Whole text) last.input.hand x u a d so_far.valid (none last.input.hand) (took_last h.1) (omega (arith, size (h.1).place, reach))
      (Ok (answer.ReadFault at)) w.octets b (answer.ReadFault at) so_far.built (refl, wrote) (ap answer.ReadFault (h.0 ∙ sym (size (h.1).place)))
  ended_ok answer.Long wrote h reach =
      overran_by facts.lines (Whole text) last.input.hand x u a d so_far.valid (none last.input.hand) (h.0).octet (took_past h.0) (size (h.0).place ∙ (h.0).reached)
      (ap (λ l. is_broken (Whole text) (whole ++ l)) h.1 ∙ none_decides_not (Whole text)) (Ok answer.Long) w.octets b answer.Long so_far.built (refl, wrote) refl

  pub ended : (r : Result Built Failed) → IsTextEnded now last z u w b d r → OnOk r (taken last.input ≤ INPUT_LIMIT) → taken now.input ≤ INPUT_LIMIT → BuildRun x u a d r
  ended (Ok o) h reach reach_now = ended_ok o h.0 h.1 reach
  ended (Err f) h reach reach_now =
      let within : length (whole ++ now.input.hand) ≤ INPUT_LIMIT = omega (arith, reach_now, place_now, length-append whole now.input.hand) in
      stopped_by facts.lines (Whole text) now.input.hand x u a d so_far.valid (none now.input.hand) (subst (λ l. TakesFront (whole ++ now.input.hand) x l) (sym h.2) took_now) within
      (Err f) w.octets b refl so_far.built h.0

-- ---- no line came

abbrev pub IsNone : NextLine → Type 0
IsNone n = (n ≡ next.End) ⊎ (n ≡ next.Torn) ⊎ (n ≡ next.Endless)

pub no_more : (facts : TextFacts) (lines now : Reading) (w : Gathered) (records : ℕ) (x y z a b d : Option (List ℕ)) → (so_far : BuildsSoFar lines w records x y a b)
    → (n : NextLine) → IsNone n → reading.IsNext lines now y z n → taken now.input ≤ INPUT_LIMIT
    → (r : Result Built Failed) → IsShown r w.octets (answer.Bad lines.input.place) b d → BuildRun x z a d r
no_more facts lines now w records x y z a b d so_far n (inl e) is reach r shown =
    let h = subst (reading.IsNext lines now y z) e is in
    torn facts lines now w records x y z a b d so_far h.0 (subst HasNoFeed (sym h.1) tt) h.2 reach r shown
no_more facts lines now w records x y z a b d so_far n (inr (inl e)) is reach r shown =
    let h = subst (reading.IsNext lines now y z) e is in
    torn facts lines now w records x y z a b d so_far h.0 h.1.none h.3 reach r shown
no_more facts lines now w records x y z a b d so_far n (inr (inr e)) is reach r shown =
    let h = subst (reading.IsNext lines now y z) e is in
    endless facts lines now w records x y z a b d so_far h.0 h.1 reach r shown

pub no_head : (facts : TextFacts) (fresh now : Reading) (x z a : Option (List ℕ)) (is_fresh : IsFresh fresh.input) (o : Built) → fresh.longest ≡ LONGEST_LINE
    → (n : NextLine) → IsNone n → reading.IsNext fresh now x z n → taken now.input ≤ INPUT_LIMIT
    → o ≡ answer.Bad 0 → BuildRun x z a a (Ok o)
no_head facts fresh now x z a is_fresh o longest n (inl e) is reach v =
    let h = subst (reading.IsNext fresh now x z) e is in
    headless_torn facts fresh now x z a is_fresh o h.0 (subst HasNoFeed (sym h.1) tt) h.2 reach v
no_head facts fresh now x z a is_fresh o longest n (inr (inl e)) is reach v =
    let h = subst (reading.IsNext fresh now x z) e is in
    headless_torn facts fresh now x z a is_fresh o h.0 h.1.none h.3 reach v
no_head facts fresh now x z a is_fresh o longest n (inr (inr e)) is reach v =
    let h = subst (reading.IsNext fresh now x z) e is in
    headless_endless facts fresh now x z a is_fresh o h.0 (subst (λ k. IsEndless k now.input.hand) longest h.1) reach v

-- the answer of a first line that is none
pub bad_head : (line : List ℕ) (w after : Gathered) (r : Result Unit BadLine) → is_err r ≡ true → IsHeaderBuilt line w after r → IsNoHeaderLine line
bad_head line w after (Ok done) e b = cc
bad_head line w after (Err f) e b = b.1
