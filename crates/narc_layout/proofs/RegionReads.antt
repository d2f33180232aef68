-- Octets and rows of a tail in a region.
use Rattle.std.proofs.Common.{◌≡◌, ℕ, ◌+◌, ◌≤◌, ◌↔◌, Bool, true, false, List, [], ◌∷◌, ◌++◌, length, take, drop, None, refl, sym, ap, ◌∙◌, subst, arith, inl, inr, length-append, length-take, take-append-drop}
use Rattle.std.proofs.lemmas.List.{take_at}
use Rattle.std.proofs.lemmas.Bool.{lt-ltb, le-ltb, ltb-true, ltb-false}
use Rattle.narc_bits.specs.Octets.{IsOctets, is_shorter}
use Rattle.narc_bits.specs.Bits.{bits}
use Rattle.narc_bits.proofs.Numbers.{length-bits}
use Rattle.narc_bits.proofs.Octets.{IsOctets-take}
use Rattle.narc_bits.proofs.Scans.{bits-take}
use Rattle.narc_format.specs.Faults.{fault_at}
use Rattle.narc_format.specs.declared.fault.Fault.{Fault}
use Rattle.narc_format.specs.Meaning.{Meaning}
use Rattle.narc_list.specs.Region.{region}
use Rattle.narc_format.specs.Rows.{Row, row, first_failing}
use Rattle.narc_layout.specs.FirstFault.{IsFirstFault}
use Rattle.narc_layout.proofs.Rows.{told, judged, first_failing-front, first_failing-back, first_failing-none}
use Rattle.narc_layout.proofs.ReadLayout.{Spelled, Front, IsRead, IsTailRead}
use Rattle.narc_layout.proofs.RuleReads.{one_more, none_more, one_fails, fails_one}

-- a tail in a region
module _ {C V : Type 0} {F : Meaning C V} {Is : C → V → List ℕ → Type 0} {rows : C → (start : ℕ) → List ℕ → List Row}
    (octets_of : C → ℕ) (R : IsTailRead F Is rows) where
  abbrev InRegion : C → V → List ℕ → Type 0
  InRegion c v o = (length o ≡ octets_of c) × Is c v o

  abbrev part_of : C → List ℕ → List ℕ
  part_of c x = take (octets_of c) x

  abbrev region_rows : C → (start : ℕ) → List ℕ → List Row
  region_rows c start x = (row 0 start (is_shorter x (octets_of c)) ∷ []) ++ rows c start (part_of c x)

  region_stands : (c : C) (v : V) (b : List Bool) → (region octets_of F).stands c v b ↔ Spelled (InRegion c v) b
  unfolding region
  region_stands c v b = (
    λ p.
        let s = (R.stands c v b).0 p.stood in
        record { octets = s.octets; each = s.each; is = (omega (arith, p.size, ap length s.spelled, length-bits s.octets), s.is); spelled = s.spelled },
    λ s. record {
      size = omega (arith, ap length s.spelled, length-bits s.octets, s.is.0);
      stood = (R.stands c v b).1 (record { octets = s.octets; each = s.each; is = s.is.1; spelled = s.spelled });
    },
  )

  region_passes : (c : C) (start : ℕ) (x : List ℕ) → IsOctets x → (first_failing (region_rows c start x) ≡ None) ↔ Front (InRegion c) x
  region_passes c start x each = (
    λ h.
        let few = row 0 start (is_shorter x (octets_of c)) ∷ [] in
        let one = first_failing-none few (rows c start (part_of c x)) h in
        let room = ltb-false (length x) (octets_of c) (one_more 0 start (is_shorter x (octets_of c)) one) in
        let two = sym (first_failing-back few (rows c start (part_of c x)) one) ∙ h in
        let p = (R.passes c start (part_of c x) (IsOctets-take (octets_of c) x each)).0 two in
        record { found = p.0; front = part_of c x; later = drop (octets_of c) x; is = (omega (arith, length-take (octets_of c) x, room), p.1); joined = sym (take-append-drop (octets_of c) x) },
    λ p.
        let few = row 0 start (is_shorter x (octets_of c)) ∷ [] in
        let cut : part_of c x ≡ p.front = ap (take (octets_of c)) p.joined ∙ take_at p.front p.later (octets_of c) p.is.0 in
        let room : octets_of c ≤ length x = omega (arith, ap length p.joined, length-append p.front p.later, p.is.0) in
        first_failing-back few (rows c start (part_of c x)) (none_more 0 start (is_shorter x (octets_of c)) (le-ltb (length x) (octets_of c) room))
        ∙ (R.passes c start (part_of c x) (IsOctets-take (octets_of c) x each)).1 (p.found, subst (Is c p.found) (sym cut) p.is.1),
  )

  region_refuses : (c : C) (start : ℕ) (x : List ℕ) → IsOctets x → (f : Fault) → (region octets_of F).refuses c (bits x) f ↔ IsFirstFault start (region_rows c start x) f
  unfolding region
  region_refuses c start x each f = (
    elim [
      | inl p ↦
          let few = row 0 start (is_shorter x (octets_of c)) ∷ [] in
          let short = lt-ltb (length x) (octets_of c) (omega (arith, p.few, length-bits x)) in
          let place : start ≡ start + 0 = omega arith in
          record {
            octet = 0;
            first = first_failing-front few (rows c start (part_of c x)) (record { field = 0; at = start }) (fails_one 0 start (is_shorter x (octets_of c)) short) ∙ ap (told 0) place ∙ ap (λ n. told n (start + 0)) (sym (ap (λ (g : Fault). g.field) p.is));
            place = ap (λ (g : Fault). g.at) p.is;
          }
      | inr p ↦
          let few = row 0 start (is_shorter x (octets_of c)) ∷ [] in
          let room : octets_of c ≤ length x = omega (arith, p.enough, length-bits x) in
          let h = (R.refuses c start (part_of c x) (IsOctets-take (octets_of c) x each) f).0 (subst (λ l. F.refuses c l f) (sym (bits-take x (octets_of c) room)) p.refused) in
          record { octet = h.octet; first = first_failing-back few (rows c start (part_of c x)) (none_more 0 start (is_shorter x (octets_of c)) (le-ltb (length x) (octets_of c) room)) ∙ h.first; place = h.place }
    ],
    λ h. at (is_shorter x (octets_of c)) refl h,
  ) where
    at : (short : Bool) → is_shorter x (octets_of c) ≡ short → IsFirstFault start (region_rows c start x) f → (region octets_of F).refuses c (bits x) f
    at true e h =
        let few = row 0 start (is_shorter x (octets_of c)) ∷ [] in
        let o = one_fails 0 start (is_shorter x (octets_of c)) (record { field = f.field; at = start + h.octet }) (fails_one 0 start (is_shorter x (octets_of c)) e ∙ sym (first_failing-front few (rows c start (part_of c x)) (record { field = 0; at = start }) (fails_one 0 start (is_shorter x (octets_of c)) e)) ∙ h.first) in
        let place : f.at ≡ 0 = omega (arith, h.place, o.at_is) in
        inl (record { few = omega (arith, ltb-true (length x) (octets_of c) e, length-bits x); is = ap (λ n. fault_at n f.at) o.field_is ∙ ap (fault_at 0) place })
    at false e h =
        let few = row 0 start (is_shorter x (octets_of c)) ∷ [] in
        let room = ltb-false (length x) (octets_of c) e in
        let two = sym (first_failing-back few (rows c start (part_of c x)) (none_more 0 start (is_shorter x (octets_of c)) e)) ∙ h.first in
        let refused = (R.refuses c start (part_of c x) (IsOctets-take (octets_of c) x each) f).1 (record { octet = h.octet; first = two; place = h.place }) in
        inr (record { enough = omega (arith, room, length-bits x); refused = subst (λ l. F.refuses c l f) (bits-take x (octets_of c) (omega (arith, room))) refused })

  pub region_read : IsRead (region octets_of F) InRegion (λ c x. octets_of c) region_rows
  region_read = record {
    stands = region_stands;
    refuses = region_refuses;
    passes = region_passes;
    reads = λ c v o later each h. sym h.0;
    places = λ c start x r h.
        let few = row 0 start (is_shorter x (octets_of c)) ∷ [] in
        elim (judged few) [
          | inl p ↦ omega (arith, (one_fails 0 start (is_shorter x (octets_of c)) r (p.first ∙ (sym (first_failing-front few (rows c start (part_of c x)) p.refusal p.first) ∙ h))).at_is)
          | inr none ↦ R.places c start (part_of c x) r (sym (first_failing-back few (rows c start (part_of c x)) none) ∙ h)
        ];
  }
