-- Two layouts, one behind the other.
use Rattle.std.proofs.Common.{◌≡◌, ℕ, ◌+◌, ◌-◌, ◌*◌, ◌≤◌, ◌↔◌, Bool, ◌&&◌, List, ◌++◌, length, drop, Some, None, refl, sym, ap, ◌∙◌, subst, append_assoc, arith, inl, inr, length-append}
use Rattle.std.proofs.lemmas.List.{drop_at, drop-drop}
use Rattle.narc_bits.specs.Octets.{IsOctets}
use Rattle.narc_bits.specs.Bits.{bits}
use Rattle.narc_bits.proofs.Numbers.{length-bits, bits-append}
use Rattle.narc_bits.proofs.Octets.{IsOctets-append, IsOctets-drop}
use Rattle.narc_format.specs.Faults.{fault_at, later_by}
use Rattle.narc_format.specs.declared.fault.Fault.{Fault}
use Rattle.narc_format.specs.Meaning.{Meaning}
use Rattle.narc_compose.specs.Seq.{seq, LaterRefused}
use Rattle.narc_compose.specs.SeqLaws.{seq_laws}
use Rattle.narc_format.specs.Rows.{Row, RefusalView, first_failing}
use Rattle.narc_layout.specs.FirstFault.{IsFirstFault}
use Rattle.narc_compose.specs.Both.{both}
use Rattle.narc_layout.proofs.Rows.{Fails, told, judged, first_failing-front, first_failing-back, first_failing-none}
use Rattle.narc_layout.proofs.Layouts.{IsShaped, IsLayout, Begins, front_octets}

module _ {V W : Type 0} {A : Meaning (Unit {0}) V} {B : Meaning (Unit {0}) W} {InA : V → Type 0} {InB : W → Type 0} {octets_a : V → List ℕ} {octets_b : W → List ℕ} {m n : ℕ}
    {rows_a rows_b : (start skip : ℕ) → List ℕ → List Row} (LA : IsLayout A InA octets_a m rows_a) (LB : IsLayout B InB octets_b n rows_b) where
  abbrev InBoth : V × W → Type 0
  InBoth v = InA v.0 × InB v.1

  abbrev octets_both : V × W → List ℕ
  octets_both v = octets_a v.0 ++ octets_b v.1

  abbrev rows_both : (start skip : ℕ) → List ℕ → List Row
  rows_both start skip x = rows_a start skip x ++ rows_b start (skip + m) x

  -- what is behind the first part
  behind : (skip : ℕ) (x later : List ℕ) (v : V) → InA v → drop skip x ≡ octets_a v ++ later → drop (skip + m) x ≡ later
  behind skip x later v range joined =
      sym (drop-drop m skip x) ∙ ap (drop m) joined ∙ drop_at (octets_a v) later m (LA.shape.sized v range)

  begins_both : (skip : ℕ) (x : List ℕ) → Begins InA octets_a (drop skip x) → Begins InB octets_b (drop (skip + m) x) → Begins InBoth octets_both (drop skip x)
  begins_both skip x p q = record {
    found = (p.found, q.found);
    in_range = (p.in_range, q.in_range);
    later = q.later;
    joined = p.joined ∙ ap (λ l. octets_a p.found ++ l) (sym (behind skip x p.later p.found p.in_range p.joined) ∙ q.joined) ∙ sym (append_assoc (octets_a p.found) (octets_b q.found) q.later);
  }

  begins_first : (x : List ℕ) → Begins InBoth octets_both x → Begins InA octets_a x
  begins_first x p = record { found = p.found.0; in_range = p.in_range.0; later = octets_b p.found.1 ++ p.later; joined = p.joined ∙ append_assoc (octets_a p.found.0) (octets_b p.found.1) p.later }

  begins_second : (skip : ℕ) (x : List ℕ) → Begins InBoth octets_both (drop skip x) → Begins InB octets_b (drop (skip + m) x)
  unfolding begins_first
  begins_second skip x p = record {
    found = p.found.1;
    in_range = p.in_range.1;
    later = p.later;
    joined = behind skip x (octets_b p.found.1 ++ p.later) p.found.0 p.in_range.0 (begins_first (drop skip x) p).joined;
  }

  passes_both : (start skip : ℕ) (x : List ℕ) → IsOctets x → (first_failing (rows_both start skip x) ≡ None) ↔ Begins InBoth octets_both (drop skip x)
  passes_both start skip x each = (
    λ h.
        let first = first_failing-none (rows_a start skip x) (rows_b start (skip + m) x) h in
        let second = sym (first_failing-back (rows_a start skip x) (rows_b start (skip + m) x) first) ∙ h in
        begins_both skip x ((LA.refusals.passes start skip x each).0 first) ((LB.refusals.passes start (skip + m) x each).0 second),
    λ p.
        first_failing-back (rows_a start skip x) (rows_b start (skip + m) x) ((LA.refusals.passes start skip x each).1 (begins_first (drop skip x) p))
        ∙ (LB.refusals.passes start (skip + m) x each).1 (begins_second skip x p),
  )

  stands_both : (v : V × W) (b : List Bool) → (both A B).stands tt v b ↔ (InBoth v × (b ≡ bits (octets_both v)))
  unfolding seq
  stands_both v b = (
    λ p.
        let first = (LA.shape.stands v.0 p.front).0 p.first in
        let second = (LB.shape.stands v.1 p.back).0 p.second in
        ((first.0, second.0), p.joined ∙ ap (λ l. l ++ p.back) first.1 ∙ ap (λ l. bits (octets_a v.0) ++ l) second.1 ∙ sym (bits-append (octets_a v.0) (octets_b v.1))),
    λ h. record {
      front = bits (octets_a v.0);
      back = bits (octets_b v.1);
      joined = h.1 ∙ bits-append (octets_a v.0) (octets_b v.1);
      first = (LA.shape.stands v.0 (bits (octets_a v.0))).1 (h.0.0, refl);
      second = (LB.shape.stands v.1 (bits (octets_b v.1))).1 (h.0.1, refl);
    },
  )

  refused_later : (start skip : ℕ) (x : List ℕ) → IsOctets x → (v : V) (later : List Bool) (f g : Fault) → InA v → bits (drop skip x) ≡ bits (octets_a v) ++ later
      → B.refuses tt later g → f ≡ later_by (length (bits (octets_a v))) g → IsFirstFault (start + skip) (rows_both start skip x) f
  refused_later start skip x each v later f g range joined refused moved =
      let cut = front_octets (drop skip x) (octets_a v) later (IsOctets-drop skip x each) (LA.shape.each v range) joined in
      let rest = behind skip x (drop (length (octets_a v)) (drop skip x)) v range cut.0 in
      let first = (LA.refusals.passes start skip x each).1 (record { found = v; in_range = range; later = drop (length (octets_a v)) (drop skip x); joined = cut.0 }) in
      let here = subst (λ l. B.refuses tt l g) (cut.1 ∙ ap bits (sym rest)) refused in
      let k = (LB.refusals.refuses start (skip + m) x each g).0 here in
      let place : start + (skip + m) + k.octet ≡ start + skip + (m + k.octet) = omega arith in
      let same : f.field ≡ g.field = ap (λ (h : Fault). h.field) moved in
      record {
        octet = m + k.octet;
        first = first_failing-back (rows_a start skip x) (rows_b start (skip + m) x) first ∙ k.first ∙ ap (told g.field) place ∙ ap (λ p. told p (start + skip + (m + k.octet))) (sym same);
        place = omega (arith, ap (λ (h : Fault). h.at) moved, k.place, length-bits (octets_a v), LA.shape.sized v range);
      }

  refused_first : (start skip : ℕ) (x : List ℕ) → IsOctets x → (f : Fault) → IsFirstFault (start + skip) (rows_both start skip x) f → Fails (rows_a start skip x) → A.refuses tt (bits (drop skip x)) f
  refused_first start skip x each f h p =
      let same = sym (first_failing-front (rows_a start skip x) (rows_b start (skip + m) x) p.refusal p.first) ∙ h.first in
      (LA.refusals.refuses start skip x each f).1 (record { octet = h.octet; first = p.first ∙ same; place = h.place })

  refused_second : (start skip : ℕ) (x : List ℕ) → IsOctets x → (f : Fault) → IsFirstFault (start + skip) (rows_both start skip x) f → first_failing (rows_a start skip x) ≡ None
      → LaterRefused (A.stands tt) (λ v. B.refuses tt) (bits (drop skip x)) f
  refused_second start skip x each f h none =
      let p = (LA.refusals.passes start skip x each).0 none in
      let second = sym (first_failing-back (rows_a start skip x) (rows_b start (skip + m) x) none) ∙ h.first in
      let place : start + (skip + m) ≤ start + skip + h.octet = LB.refusals.places start (skip + m) x (record { field = f.field; at = start + skip + h.octet }) second in
      let inner = h.octet - m in
      let far : start + skip + h.octet ≡ start + (skip + m) + inner = omega (arith, place) in
      let fault : Fault = record { field = f.field; at = 8 * inner } in
      let refused = (LB.refusals.refuses start (skip + m) x each fault).1 (record { octet = inner; first = second ∙ ap (told f.field) far; place = refl }) in
      let moved : f.at ≡ 8 * inner + length (bits (octets_a p.found)) = omega (arith, place, h.place, length-bits (octets_a p.found), LA.shape.sized p.found p.in_range) in
      record {
        value = p.found;
        front = bits (octets_a p.found);
        back = bits p.later;
        joined = ap bits p.joined ∙ bits-append (octets_a p.found) p.later;
        first = (LA.shape.stands p.found (bits (octets_a p.found))).1 (p.in_range, refl);
        fault = fault;
        second = subst (λ l. B.refuses tt (bits l) fault) (behind skip x p.later p.found p.in_range p.joined) refused;
        moved = ap (fault_at f.field) moved;
      }

  refuses_both : (start skip : ℕ) (x : List ℕ) → IsOctets x → (f : Fault) → (both A B).refuses tt (bits (drop skip x)) f ↔ IsFirstFault (start + skip) (rows_both start skip x) f
  unfolding seq
  refuses_both start skip x each f = (
    elim [
      | inl p ↦
          let h = (LA.refusals.refuses start skip x each f).0 p in
          record { octet = h.octet; first = first_failing-front (rows_a start skip x) (rows_b start (skip + m) x) _ h.first; place = h.place }
      | inr p ↦
          let first = (LA.shape.stands p.value p.front).0 p.first in
          refused_later start skip x each p.value p.back f p.fault first.0 (p.joined ∙ ap (λ l. l ++ p.back) first.1) p.second (p.moved ∙ ap (λ l. later_by (length l) p.fault) first.1)
    ],
    λ h. elim (judged (rows_a start skip x)) [
      | inl p ↦ inl (refused_first start skip x each f h p)
      | inr none ↦ inr (refused_second start skip x each f h none)
    ],
  )

  places_both : (start skip : ℕ) (x : List ℕ) (r : RefusalView) → first_failing (rows_both start skip x) ≡ Some r → start + skip ≤ r.at
  places_both start skip x r h = elim (judged (rows_a start skip x)) [
    | inl p ↦
        let same = sym (first_failing-front (rows_a start skip x) (rows_b start (skip + m) x) p.refusal p.first) ∙ h in
        LA.refusals.places start skip x r (p.first ∙ same)
    | inr none ↦ omega (arith, LB.refusals.places start (skip + m) x r (sym (first_failing-back (rows_a start skip x) (rows_b start (skip + m) x) none) ∙ h))
  ]

  pair_alike : (v w : V × W) → A.alike v.0 w.0 × B.alike v.1 w.1 → v ≡ w
  pair_alike v w h = ap (λ a. (a, v.1)) (LA.shape.alike v.0 w.0 h.0) ∙ ap (λ b. (w.0, b)) (LB.shape.alike v.1 w.1 h.1)

  shape_both : IsShaped (both A B) InBoth octets_both (m + n)
  unfolding seq
  shape_both = record {
    laws = seq_laws (λ c. c) (λ c v. c) (λ c. Unit {0}) A B LA.shape.laws LB.shape.laws;
    sound = record {
      first_sound = LA.shape.sound;
      second_sound = LB.shape.sound;
      carries = record { first_valid = λ c ok. LA.shape.valid; second_valid = λ c v ok a. LB.shape.valid; same = λ c v w a. refl };
      meets = λ h. LA.shape.whole;
    };
    valid = tt;
    whole = ap (λ w. w && B.whole) LA.shape.whole ∙ LB.shape.whole;
    depth = omega (arith, LA.shape.depth, LB.shape.depth);
    alike = pair_alike;
    admits = λ v. (λ a. ((LA.shape.admits v.0).0 a.1, (LB.shape.admits v.1).0 a.2), λ h. (tt, (LA.shape.admits v.0).1 h.0, (LB.shape.admits v.1).1 h.1));
    stands = stands_both;
    sized = λ v h. length-append (octets_a v.0) (octets_b v.1) ∙ omega (arith, LA.shape.sized v.0 h.0, LB.shape.sized v.1 h.1);
    each = λ v h. IsOctets-append (octets_a v.0) (octets_b v.1) (LA.shape.each v.0 h.0) (LB.shape.each v.1 h.1);
  }

  pub both_layout : IsLayout (both A B) InBoth octets_both (m + n) rows_both
  both_layout = record { shape = shape_both; refusals = record { refuses = refuses_both; passes = passes_both; places = places_both } }
