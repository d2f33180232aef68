-- Each record of octets has an answer.
use Rattle.std.proofs.Common.{◌≡◌, ℕ, ◌+◌, ◌≤◌, Bool, true, false, List, [], ◌∷◌, ◌++◌, length, map, Option, Some, None, Ok, Err, inl, inr, refl, sym, ap, ◌∙◌, subst, arith}
use Rattle.std.specs.List.{AllByRecursion}
use Rattle.std.proofs.lemmas.List.{map-append}
use Rattle.narc_bits.specs.Octets.{IsOctets}
use Rattle.narc_bits.specs.declared.limits.TheConstants.{MAX_FRAME}
use Rattle.narc_bits.proofs.Octets.{IsOctets-front, IsOctets-back}
use Rattle.narc_packet.specs.Answer.{Answer, IsOnlyAnswer}
use Rattle.narc_stack.proofs.FrameAnswers.{either, one_packet, never_both}
use Rattle.narc_pcap.specs.Capture.{Entry, is_snapped}
use Rattle.narc_pcap.specs.Laws.{AreRecords, size_of}
use Rattle.narc_run.specs.Findings.{Told, IsTold, AreTold, IsEntryAnswer}

pub frame_answered : (octets : List ℕ) → IsOctets octets → length octets ≤ MAX_FRAME → (answer : Answer) × IsOnlyAnswer octets answer
frame_answered octets each small = elim (either octets each small) [
  | inl p ↦ (
    Ok p.0,
    record {
      right = p.1;
      packet = λ q f. ap Ok (one_packet octets each p.0 q p.1 f);
      refused = λ r h. absurd (never_both octets each p.0 r p.1 h);
    },
  )
  | inr r ↦ (
    Err r.0,
    record {
      right = r.1;
      packet = λ q f. absurd (never_both octets each q r.0 f r.1);
      refused = λ q h. let same : Some r.0 ≡ Some q = sym r.1 ∙ h in let one : r.0 ≡ q = cc in ap Err one;
    },
  )
]

entry_answered : (e : Entry) → IsOctets e.octets → length e.octets ≤ MAX_FRAME → (answer : Option Answer) × IsEntryAnswer e answer
entry_answered e each small = at (is_snapped e.head) refl where
  at : (snapped : Bool) → is_snapped e.head ≡ snapped → (answer : Option Answer) × IsEntryAnswer e answer
  at true s = (None, s)
  at false s = let a = frame_answered e.octets each small in (Some a.0, (s, a.1))

-- the records of octets
pub all_answered : (big : Bool) (place : ℕ) (entries : List Entry) (s rest : List ℕ) → AreRecords big place entries s rest → IsOctets s
    → (told : List Told) × AreTold entries told
all_answered big place [] s rest r each = ([], record { same = refl; right = tt })
all_answered big place (e ∷ entries) s rest r each =
    let first = r.0 in
    let later = r.1 in
    let one = r.3 in
    let parts : IsOctets (first ++ later) = subst IsOctets r.2 each in
    let layout : IsOctets (one.header ++ e.octets) = subst IsOctets one.layout (IsOctets-front first later parts) in
    let small : length e.octets ≤ MAX_FRAME = omega (arith, one.frame, one.fits) in
    let a = entry_answered e (IsOctets-back one.header e.octets layout) small in
    let more = all_answered big (place + size_of e) entries later rest r.4 (IsOctets-back first later parts) in
    (record { entry = e; answer = a.0 } ∷ more.0, record { same = ap (λ l. e ∷ l) (more.1).same; right = (a.1, (more.1).right) })

All-append : {X : Type 0} (P : X → Type 0) (xs ys : List X) → AllByRecursion P xs → AllByRecursion P ys → AllByRecursion P (xs ++ ys)
All-append P [] ys a b = b
All-append P (x ∷ xs) ys a b = (a.0, All-append P xs ys a.1 b)

pub AreTold-append : (a b : List Entry) (x y : List Told) → AreTold a x → AreTold b y → AreTold (a ++ b) (x ++ y)
AreTold-append a b x y p q = record {
  same = map-append (λ (t : Told). t.entry) x y ∙ ap (λ l. l ++ map (λ (t : Told). t.entry) y) p.same ∙ ap (λ l. a ++ l) q.same;
  right = All-append IsTold x y p.right q.right;
}
