-- The first lines of a text are all of it exactly where it is the text of a capture.
use Rattle.std.proofs.Common.{◌≡◌, ℕ, ◌≤◌, true, false, List, [], ◌∷◌, ◌++◌, length, get_or, refl, sym, ap, ◌∙◌, arith, append_assoc, append-nil, length-append}
use Rattle.std.specs.Prelude.{nat_eq, flat_map}
use Rattle.std.specs.List.{AllByRecursion}
use Rattle.std.proofs.lemmas.Bool.{eqb-true, eq-eqb}
use Rattle.std.proofs.lemmas.List.{take_all}
use Rattle.narc_text.specs.CaptureText.{TextEntry, IsTextEntry, unit_word, capture_line, entry_line, end_line}
use Rattle.narc_build.specs.BuiltCapture.{built, built_capture}
use Rattle.narc_build.specs.CaptureFront.{TextCapture, IsTextCapture, IsCaptureText, TextFront, NoLine, Begun, Whole, IsTextFront, begun_text, capture_text, front_text, IsFrontOf, is_all}
use Rattle.narc_build.proofs.CaptureFronts.{one_line}
use Rattle.narc_build.proofs.TextLines.{line_facts}

empty : (l : List ℕ) → length l ≡ 0 → l ≡ []
empty l none = sym (take_all 0 l (omega (arith, none)))

-- the first lines are a whole text, of which a capture is made
pub record IsWholeText (s : List ℕ) (f : TextFront) : Type 0 where
  pub text : TextCapture
  pub valid : IsTextCapture text
  pub is : s ≡ capture_text text
  pub made : built f ≡ built_capture text

pub whole_text : (s : List ℕ) (f : TextFront) → IsFrontOf s f → is_all f s ≡ true → IsWholeText s f
whole_text s NoLine front all = cc
whole_text s (Begun c) front all = cc
whole_text s (Whole c) front all =
    let same : length (capture_text c) ≡ length s = eqb-true (length (capture_text c)) (length s) all in
    let none = empty front.rest (omega (arith, same, ap length front.layout, length-append (capture_text c) front.rest)) in
    record {
      text = c;
      valid = front.valid;
      is = front.layout ∙ ap (λ l. capture_text c ++ l) none ∙ append-nil (capture_text c);
      made = refl;
    }

-- lines of records do not end with the last line of a text
no_last : (n : ℕ) (entries others : List TextEntry) → AllByRecursion IsTextEntry entries → AllByRecursion IsTextEntry others
    → flat_map entry_line entries ≡ flat_map entry_line others ++ end_line n n 0 0 → ⊥
no_last n [] [] valid good e = let none : false ≡ true = ap (λ (l : List ℕ). nat_eq (get_or l 0 0) 101) e in cc
no_last n [] (o ∷ others) valid good e = let none : false ≡ true = ap (λ (l : List ℕ). nat_eq (get_or l 0 0) 114) e in cc
no_last n (t ∷ entries) [] valid good e = let none : false ≡ true = ap (λ (l : List ℕ). nat_eq (get_or l 0 0) 101) e in cc
no_last n (t ∷ entries) (o ∷ others) valid good e =
    let last = end_line n n 0 0 in
    let behind = flat_map entry_line others in
    let cut = one_line (entry_line t) (entry_line o) (flat_map entry_line entries) (behind ++ last) (line_facts.entry t valid.0) (line_facts.entry o good.0)
    (e ∙ append_assoc (entry_line o) behind last) in
    no_last n entries others valid.1 good.1 cut.1

begun_not_whole : (d c : TextCapture) → IsTextCapture d → IsTextCapture c → begun_text d ≡ capture_text c → ⊥
begun_not_whole d c valid good e =
    let head = capture_line (unit_word c.unit) c.snap in
    let behind = flat_map entry_line c.entries in
    let last = end_line (length c.entries) (length c.entries) 0 0 in
    let cut = one_line (capture_line (unit_word d.unit) d.snap) head (flat_map entry_line d.entries) (behind ++ last) (line_facts.head d.unit d.snap) (line_facts.head c.unit c.snap)
    (e ∙ append_assoc head behind last) in
    no_last (length c.entries) d.entries c.entries valid.entries good.entries cut.1

all_by : (s : List ℕ) (f : TextFront) (c : TextCapture) → IsTextFront f → IsTextCapture c → front_text f ≡ capture_text c → front_text f ≡ s → is_all f s ≡ true
all_by s NoLine c valid good e same = let none : false ≡ true = ap (λ (l : List ℕ). nat_eq (get_or l 0 0) 99) e in cc
all_by s (Begun d) c valid good e same = absurd (begun_not_whole d c valid good e)
all_by s (Whole d) c valid good e same = eq-eqb (length (capture_text d)) (length s) (ap length same)

pub text_is_all : (s : List ℕ) (f : TextFront) → IsFrontOf s f → IsCaptureText s → is_all f s ≡ true
text_is_all s f front text =
    let c : TextCapture = text.0 in
    let good : IsTextCapture c = text.1 in
    let is : s ≡ capture_text c = text.2 in
    let least : length (capture_text c) ≤ length (front_text f) = front.longest (Whole c) [] good (is ∙ sym (append-nil (capture_text c))) in
    let none = empty front.rest (omega (arith, least, ap length is, ap length front.layout, length-append (front_text f) front.rest)) in
    let same : s ≡ front_text f = front.layout ∙ ap (λ l. front_text f ++ l) none ∙ append-nil (front_text f) in
    all_by s f c front.valid good (sym same ∙ is) (sym same)
