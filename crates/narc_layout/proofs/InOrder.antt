-- What stands behind a format, a second one or a tail, by the octets that stand for their values.
use Rattle.std.proofs.Common.{◌≡◌, ℕ, ◌+◌, ◌*◌, ◌-◌, ◌≤◌, ◌↔◌, ◌⊎◌, Bool, List, ◌++◌, length, drop, Some, None, refl, sym, ap, ◌∙◌, subst, arith, inl, inr}
use Rattle.std.proofs.lemmas.List.{drop_at}
use Rattle.narc_bits.specs.Octets.{IsOctets}
use Rattle.narc_bits.specs.Bits.{bits}
use Rattle.narc_bits.proofs.Numbers.{length-bits, bits-append}
use Rattle.narc_bits.proofs.Octets.{IsOctets-append, IsOctets-front, IsOctets-back, IsOctets-drop}
use Rattle.narc_format.specs.Faults.{fault_at}
use Rattle.narc_format.specs.declared.fault.Fault.{Fault}
use Rattle.narc_format.specs.Meaning.{Meaning}
use Rattle.narc_compose.specs.Seq.{Joined, LaterRefused}
use Rattle.narc_format.specs.Rows.{Row, RefusalView, first_failing}
use Rattle.narc_layout.specs.FirstFault.{IsFirstFault}
use Rattle.narc_layout.proofs.Rows.{told, judged, first_failing-front, first_failing-back, first_failing-none}
use Rattle.narc_layout.proofs.Layouts.{front_octets}
use Rattle.narc_layout.proofs.ReadLayout.{Spelled, Front, Parts, IsRead, IsJudged}

-- what both have alike
module _ {C CA CB V W : Type 0} {A : Meaning CA V} {B : Meaning CB W} {IsA : CA → V → List ℕ → Type 0} {IsB : CB → W → List ℕ → Type 0} {size_a : CA → List ℕ → ℕ}
    {rows_a : CA → (start : ℕ) → List ℕ → List Row} {rows_b : CB → (start : ℕ) → List ℕ → List Row}
    (first : C → CA) (second : C → V → CB) (RA : IsRead A IsA size_a rows_a) (RB : IsJudged B IsB rows_b)
    -- the context of the second part, read from the octets
    (context : C → List ℕ → CB) (knows : (c : C) (v : V) (o later : List ℕ) → IsOctets (o ++ later) → IsA (first c) v o → context c (o ++ later) ≡ second c v) where
  abbrev back_of : C → List ℕ → List ℕ
  back_of c x = drop (size_a (first c) x) x

  abbrev IsBoth : C → V × W → List ℕ → Type 0
  IsBoth c v = Parts (IsA (first c) v.0) (IsB (second c v.0) v.1)

  abbrev front_rows : C → (start : ℕ) → List ℕ → List Row
  front_rows c start x = rows_a (first c) start x

  abbrev back_rows : C → (start : ℕ) → List ℕ → List Row
  back_rows c start x = rows_b (context c x) (start + size_a (first c) x) (back_of c x)

  abbrev rows_both : C → (start : ℕ) → List ℕ → List Row
  rows_both c start x = front_rows c start x ++ back_rows c start x

  pub stands_both : (c : C) (v : V × W) (b : List Bool) → Joined (A.stands (first c) v.0) (B.stands (second c v.0) v.1) b ↔ Spelled (IsBoth c v) b
  stands_both c v b = (
    λ p.
        let one = (RA.stands (first c) v.0 p.front).0 p.first in
        let two = (RB.stands (second c v.0) v.1 p.back).0 p.second in
        record {
          octets = one.octets ++ two.octets;
          each = IsOctets-append one.octets two.octets one.each two.each;
          is = record { front = one.octets; back = two.octets; joined = refl; first = one.is; second = two.is };
          spelled = p.joined ∙ ap (λ l. l ++ p.back) one.spelled ∙ ap (λ l. bits one.octets ++ l) two.spelled ∙ sym (bits-append one.octets two.octets);
        },
    λ s.
        let q = s.is in
        let each = subst IsOctets q.joined s.each in
        record {
          front = bits q.front;
          back = bits q.back;
          joined = s.spelled ∙ ap bits q.joined ∙ bits-append q.front q.back;
          first = (RA.stands (first c) v.0 (bits q.front)).1 (record { octets = q.front; each = IsOctets-front q.front q.back each; is = q.first; spelled = refl });
          second = (RB.stands (second c v.0) v.1 (bits q.back)).1 (record { octets = q.back; each = IsOctets-back q.front q.back each; is = q.second; spelled = refl });
        },
  )

  -- where x begins with the octets of v, v is its value, and the rest is behind
  pub record Cut (c : C) (x : List ℕ) (v : V) (front later : List ℕ) : Type 0 where
    pub context_is : context c x ≡ second c v
    pub size : size_a (first c) x ≡ length front
    pub back : back_of c x ≡ later

  pub cut : (c : C) (x : List ℕ) (v : V) (front later : List ℕ) → IsOctets x → IsA (first c) v front → x ≡ front ++ later → Cut c x v front later
  cut c x v front later each is joined =
      let r = RA.reads (first c) v front later (subst IsOctets joined each) is in
      let size : size_a (first c) x ≡ length front = ap (size_a (first c)) joined ∙ r in
      record {
        context_is = ap (context c) joined ∙ knows c v front later (subst IsOctets joined each) is;
        size = size;
        back = ap (λ k. drop k x) size ∙ ap (drop (length front)) joined ∙ drop_at front later (length front) refl;
      }

  pub each_back : (c : C) (x : List ℕ) → IsOctets x → IsOctets (back_of c x)
  each_back c x each = IsOctets-drop (size_a (first c) x) x each

  refused_later : (c : C) (start : ℕ) (x : List ℕ) → IsOctets x → (f : Fault) → LaterRefused (A.stands (first c)) (λ v. B.refuses (second c v)) (bits x) f → IsFirstFault start (rows_both c start x) f
  refused_later c start x each f p =
      let one = (RA.stands (first c) p.value p.front).0 p.first in
      let here = front_octets x one.octets p.back each one.each (p.joined ∙ ap (λ l. l ++ p.back) one.spelled) in
      let beyond = drop (length one.octets) x in
      let k = cut c x p.value one.octets beyond each one.is here.0 in
      let passed = (RA.passes (first c) start x each).1 (record { found = p.value; front = one.octets; later = beyond; is = one.is; joined = here.0 }) in
      let refused : B.refuses (second c p.value) (bits (back_of c x)) p.fault = subst (λ l. B.refuses (second c p.value) l p.fault) (here.1 ∙ ap bits (sym k.back)) p.second in
      let there : B.refuses (context c x) (bits (back_of c x)) p.fault = subst (λ d. B.refuses d (bits (back_of c x)) p.fault) (sym k.context_is) refused in
      let j = (RB.refuses (context c x) (start + size_a (first c) x) (back_of c x) (each_back c x each) p.fault).0 there in
      let place : start + size_a (first c) x + j.octet ≡ start + (length one.octets + j.octet) = omega (arith, k.size) in
      let field : f.field ≡ p.fault.field = ap (λ (h : Fault). h.field) p.moved in
      record {
        octet = length one.octets + j.octet;
        first = first_failing-back (front_rows c start x) (back_rows c start x) passed ∙ j.first ∙ ap (told p.fault.field) place ∙ ap (λ n. told n (start + (length one.octets + j.octet))) (sym field);
        place = omega (arith, ap (λ (h : Fault). h.at) p.moved, j.place, ap length one.spelled, length-bits one.octets);
      }

  refused_second : (c : C) (start : ℕ) (x : List ℕ) → IsOctets x → (f : Fault) → IsFirstFault start (rows_both c start x) f → first_failing (front_rows c start x) ≡ None → LaterRefused (A.stands (first c)) (λ v. B.refuses (second c v)) (bits x) f
  refused_second c start x each f h none =
      let p = (RA.passes (first c) start x each).0 none in
      let k = cut c x p.found p.front p.later each p.is p.joined in
      let n = length p.front in
      let two = sym (first_failing-back (front_rows c start x) (back_rows c start x) none) ∙ h.first in
      let place : start + size_a (first c) x ≤ start + h.octet = RB.places (context c x) (start + size_a (first c) x) (back_of c x) (record { field = f.field; at = start + h.octet }) two in
      let inner = h.octet - n in
      let far : start + h.octet ≡ start + size_a (first c) x + inner = omega (arith, place, k.size) in
      let fault : Fault = record { field = f.field; at = 8 * inner } in
      let refused = (RB.refuses (context c x) (start + size_a (first c) x) (back_of c x) (each_back c x each) fault).1 (record { octet = inner; first = two ∙ ap (told f.field) far; place = refl }) in
      let here : B.refuses (second c p.found) (bits (back_of c x)) fault = subst (λ d. B.refuses d (bits (back_of c x)) fault) k.context_is refused in
      let moved : f.at ≡ 8 * inner + length (bits p.front) = omega (arith, place, h.place, k.size, length-bits p.front) in
      record {
        value = p.found;
        front = bits p.front;
        back = bits p.later;
        joined = ap bits p.joined ∙ bits-append p.front p.later;
        first = (RA.stands (first c) p.found (bits p.front)).1 (record { octets = p.front; each = IsOctets-front p.front p.later (subst IsOctets p.joined each); is = p.is; spelled = refl });
        fault = fault;
        second = subst (λ l. B.refuses (second c p.found) (bits l) fault) k.back here;
        moved = ap (fault_at f.field) moved;
      }

  pub refuses_both : (c : C) (start : ℕ) (x : List ℕ) → IsOctets x → (f : Fault) → (A.refuses (first c) (bits x) f ⊎ LaterRefused (A.stands (first c)) (λ v. B.refuses (second c v)) (bits x) f) ↔ IsFirstFault start (rows_both c start x) f
  refuses_both c start x each f = (
    elim [
      | inl p ↦ let h = (RA.refuses (first c) start x each f).0 p in record { octet = h.octet; first = first_failing-front (front_rows c start x) (back_rows c start x) _ h.first; place = h.place }
      | inr p ↦ refused_later c start x each f p
    ],
    λ h. elim (judged (front_rows c start x)) [
      | inl p ↦
          let same = sym (first_failing-front (front_rows c start x) (back_rows c start x) p.refusal p.first) ∙ h.first in
          inl ((RA.refuses (first c) start x each f).1 (record { octet = h.octet; first = p.first ∙ same; place = h.place }))
      | inr none ↦ inr (refused_second c start x each f h none)
    ],
  )

  pub places_both : (c : C) (start : ℕ) (x : List ℕ) (r : RefusalView) → first_failing (rows_both c start x) ≡ Some r → start ≤ r.at
  places_both c start x r h = elim (judged (front_rows c start x)) [
    | inl p ↦ RA.places (first c) start x r (p.first ∙ (sym (first_failing-front (front_rows c start x) (back_rows c start x) p.refusal p.first) ∙ h))
    | inr none ↦ omega (arith, RB.places (context c x) (start + size_a (first c) x) (back_of c x) r (sym (first_failing-back (front_rows c start x) (back_rows c start x) none) ∙ h))
  ]

  pub passes_parts : (c : C) (start : ℕ) (x : List ℕ) → IsOctets x → (first_failing (rows_both c start x) ≡ None) ↔ (Front (IsA (first c)) x × (first_failing (back_rows c start x) ≡ None))
  passes_parts c start x each = (
    λ h. let one = first_failing-none (front_rows c start x) (back_rows c start x) h in ((RA.passes (first c) start x each).0 one, sym (first_failing-back (front_rows c start x) (back_rows c start x) one) ∙ h),
    λ p. first_failing-back (front_rows c start x) (back_rows c start x) ((RA.passes (first c) start x each).1 p.0) ∙ p.1,
  )
