-- What a check counts, and how it ends.
use Rattle.std.proofs.Common.{◌≡◌, ℕ, zero, suc, ◌+◌, ◌<◌, Bool, true, false, List, [], ◌∷◌, ◌++◌, codes, length, Option, Some, None, Result, Ok, Err, refl, sym, ap, ◌∙◌, arith, append_assoc}
use Rattle.std.specs.Prelude.{cond, count_by, flat_map, nat_eq, slice_index, if◌then◌else◌}
use Rattle.std.specs.List.{range_with_len}
use Rattle.std.proofs.lemmas.List.{flat_map_more}
use Rattle.std.proofs.lemmas.List.Sums.{count_by-le-length}
use Rattle.narc_packet.specs.declared.field.TheConstants.{COUNT}
use Rattle.narc_packet.specs.Answer.{Answer}
use Rattle.narc_pcap.specs.declared.limit.TheConstants.{CAPTURE_LIMIT}
use Rattle.narc_pcap.specs.declared.record.End.{End}
use Rattle.narc_pcap.specs.Capture.{Entry}
use Rattle.narc_stack.specs.declared.refusal.Refusal.{Refusal}
use Rattle.narc_run.specs.declared.counts.Counts.{Counts}
use Rattle.narc_run.specs.declared.tally.Tally.{Tally}
use Rattle.narc_run.specs.Job.{Check}
use Rattle.narc_run.specs.Findings.{Told}
use Rattle.narc_run.specs.EntryJudgement.{entry_judgement, entry_judged}
use Rattle.narc_run.specs.Output.{is_refused_for, refused_line, refused_lines, count_line, check_end, checked}
use Rattle.narc_run.specs.Verdict.{records_status}
use Rattle.narc_run.specs.Tallies.{tally_of, tally_after}
use Rattle.narc_run.specs.Counting.{AreCounts, HaveRoom, AddsRefusal, refusals_of, refusal_lines, counts_lines, counts_status}
use Rattle.narc_run.proofs.Walks.{roomy, counted_on, count-push}

abbrev Judged : Type 0
Judged = Option (Result (Unit {0}) Refusal)

-- ---- one record more

tally_alike : (t : Tally) (answer : Option Answer) (judged : Judged) → entry_judgement answer ≡ entry_judged judged → tally_after t judged ≡ tally_after t answer
tally_alike t None None e = refl
tally_alike t None (Some j) e = cc
tally_alike t (Some a) None e = cc
tally_alike t (Some (Ok p)) (Some (Ok done)) e = refl
tally_alike t (Some (Ok p)) (Some (Err q)) e = cc
tally_alike t (Some (Err r)) (Some (Ok done)) e = cc
tally_alike t (Some (Err r)) (Some (Err q)) e = refl

one_if : (b : Bool) → let n : ℕ = cond b 1 0 in n ≡ (if b then 1 else 0)
one_if true = refl
one_if false = refl

refusals_alike : (field : ℕ) (entry : Entry) (answer : Option Answer) (judged : Judged) → entry_judgement answer ≡ entry_judged judged
    → let t : Told = record { entry = entry; answer = answer } in let n : ℕ = cond (is_refused_for field t) 1 0 in n ≡ refusals_of field judged
refusals_alike field entry None None e = refl
refusals_alike field entry None (Some j) e = cc
refusals_alike field entry (Some a) None e = cc
refusals_alike field entry (Some (Ok p)) (Some (Ok done)) e = refl
refusals_alike field entry (Some (Ok p)) (Some (Err q)) e = cc
refusals_alike field entry (Some (Err r)) (Some (Ok done)) e = cc
refusals_alike field entry (Some (Err r)) (Some (Err q)) e =
    let same : r.field ≡ q.field = cc in ap (λ (n : ℕ). let one : ℕ = cond (nat_eq n field) 1 0 in one) same ∙ one_if (nat_eq q.field field)

pub counted_more : (old now : Counts) (told : List Told) (entry : Entry) (answer : Option Answer) (judged : Judged) → AreCounts old told
    → entry_judgement answer ≡ entry_judged judged → now.tally ≡ tally_after old.tally judged → AddsRefusal old.refused now.refused judged
    → AreCounts now (told ++ record { entry = entry; answer = answer } ∷ [])
counted_more old now told entry answer judged are same tally adds = record {
  tally = counted_on old.tally now.tally told entry answer are.tally (tally ∙ tally_alike old.tally answer judged same);
  refused = λ field within.
      let t : Told = record { entry = entry; answer = answer } in
      adds field within ∙ ap (λ n. n + refusals_of field judged) (are.refused field within)
      ∙ sym (count-push (is_refused_for field) told t (refusals_of field judged) (refusals_alike field entry answer judged same));
}

-- each count has room
pub has_room : (counts : Counts) (told : List Told) → AreCounts counts told → length told < CAPTURE_LIMIT → HaveRoom counts
has_room counts told are few = record {
  tally = roomy counts.tally told are.tally few;
  refused = λ field within. omega (arith, are.refused field within, count_by-le-length (is_refused_for field) told, few);
}

-- ---- the lines

same_lines : (f g : ℕ → List ℕ) (a n : ℕ) → ((k : ℕ) → k < a + n → f k ≡ g k) → flat_map f (range_with_len a n) ≡ flat_map g (range_with_len a n)
same_lines f g a zero each = refl
same_lines f g a (suc n) each =
    let here : f a ≡ g a = each a (omega arith) in
    let later = same_lines f g (a + 1) n (λ k within. each k (omega (arith, within))) in
    ap (λ l. l ++ flat_map f (range_with_len (a + 1) n)) here ∙ ap (λ l. g a ++ l) later

range_more : (a n : ℕ) → range_with_len a (suc n) ≡ range_with_len a n ++ (a + n) ∷ []
range_more a zero = let same : a ≡ a + 0 = omega arith in ap (λ k. k ∷ []) same
range_more a (suc n) =
    let same : (a + 1) + n ≡ a + suc n = omega arith in
    ap (λ l. a ∷ l) (range_more (a + 1) n ∙ ap (λ k. range_with_len (a + 1) n ++ k ∷ []) same)

pub refusal_lines_none : (refused : List ℕ) → refusal_lines refused 0 ≡ []
unfolding refusal_lines
refusal_lines_none refused = refl

-- the lines of one field more
pub refusal_lines_more : (page refused : List ℕ) (n : ℕ)
    → (page ++ refusal_lines refused n) ++ refused_line (n + 1) (slice_index refused (n + 1)) ≡ page ++ refusal_lines refused (n + 1)
unfolding refusal_lines
refusal_lines_more page refused n =
    let line : ℕ → List ℕ = λ field. refused_line field (slice_index refused field) in
    let turned : n + 1 ≡ 1 + n = omega arith in
    let one : suc n ≡ n + 1 = omega arith in
    ap (λ k. (page ++ flat_map line (range_with_len 1 n)) ++ line k) turned
    ∙ flat_map_more line page (range_with_len 1 n) (1 + n)
    ∙ ap (λ l. page ++ flat_map line l) (sym (range_more 1 n))
    ∙ ap (λ k. page ++ flat_map line (range_with_len 1 k)) one

-- all lines, one behind the other
pub counts_parts : (page a b r e p q s t : List ℕ) → p ≡ page ++ a → q ≡ p ++ b → s ≡ q ++ r → t ≡ s ++ e → t ≡ page ++ (((a ++ b) ++ r) ++ e)
counts_parts page a b r e p q s t x y z w =
    let whole : t ≡ (((page ++ a) ++ b) ++ r) ++ e = cc in
    let regroup : (((page ++ a) ++ b) ++ r) ++ e ≡ page ++ (((a ++ b) ++ r) ++ e) = simp append_assoc in
    whole ∙ regroup

refused_is : (counts : Counts) (told : List Told) → AreCounts counts told → refusal_lines counts.refused COUNT ≡ refused_lines told
unfolding refusal_lines refused_lines
refused_is counts told are =
    same_lines (λ field. refused_line field (slice_index counts.refused field)) (λ field. refused_line field (count_by (is_refused_for field) told)) 1 COUNT
    (λ field within. ap (refused_line field) (are.refused field (omega (arith, within))))

pub lines_are : (counts : Counts) (told : List Told) (end : End) → AreCounts counts told → counts_lines counts.tally counts.refused end ≡ checked told end
lines_are counts told end are =
    ap (λ (t : Tally). counts_lines t counts.refused end) are.tally
    ∙ ap (λ l. (count_line (codes "packets") (tally_of told).packets ++ count_line (codes "snapped") (tally_of told).snapped ++ l) ++ check_end (length told) end) (refused_is counts told are)

pub status_is : (counts : Counts) (told : List Told) → AreCounts counts told → counts_status counts.tally ≡ records_status Check told
status_is counts told are = ap (λ (t : Tally). counts_status t) are.tally
