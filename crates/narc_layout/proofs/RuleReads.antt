-- Octets and rows of one row behind others, and of a sum.
use Rattle.std.proofs.Common.{◌≡◌, ℕ, ◌+◌, ◌*◌, ◌/◌, ◌↔◌, ◌⊎◌, Bool, true, false, not, List, [], ◌∷◌, ◌++◌, length, take, drop, ◌%◌, Some, None, IsTrue, refl, sym, ap, ◌∙◌, subst, arith, inl, inr}
use Rattle.std.proofs.lemmas.List.{take_at}
use Rattle.narc_bits.specs.Octets.{IsOctets}
use Rattle.narc_bits.specs.Bits.{bits, octets_of_bits}
use Rattle.narc_bits.proofs.Numbers.{length-bits, bits-append}
use Rattle.narc_bits.proofs.Octets.{IsOctets-front}
use Rattle.narc_bits.proofs.Spelled.{bits_same, bits-octets_of_bits, IsOctets-octets_of_bits}
use Rattle.narc_format.specs.Faults.{fault_at}
use Rattle.narc_format.specs.declared.fault.Fault.{Fault}
use Rattle.narc_format.specs.Meaning.{Meaning}
use Rattle.narc_bits.specs.InternetSum.{total, is_good_sum, IsGoodTotal}
use Rattle.narc_bits.proofs.Sums.{total-append}
use Rattle.narc_sum.specs.Checked.{checked}
use Rattle.narc_format.specs.Rows.{Row, RefusalView, row, first_failing}
use Rattle.narc_layout.specs.FirstFault.{IsFirstFault}
use Rattle.narc_layout.proofs.Rows.{told, judged, first_failing-front, first_failing-back, first_failing-none}
use Rattle.narc_layout.proofs.Layouts.{front_octets}
use Rattle.narc_layout.proofs.ReadLayout.{Spelled, Front, IsRead}

-- the octets of a sum
octets_again : (o : List ℕ) → IsOctets o → octets_of_bits (length (bits o) / 8) (bits o) ≡ o
octets_again o each =
    let n = length (bits o) / 8 in
    bits_same (octets_of_bits n (bits o)) o (IsOctets-octets_of_bits n (bits o)) each (bits-octets_of_bits n (bits o) (omega (arith, length-bits o)))

is_false : (a : Bool) → not a ≡ true → a ≡ false
is_false true h = cc
is_false false h = refl

pub is_not : (a : Bool) → a ≡ false → not a ≡ true
is_not true h = cc
is_not false h = refl

pub is_right : (a : Bool) → not a ≡ false → a ≡ true
is_right true h = refl
is_right false h = cc

pub not_bad : (a : Bool) → a ≡ true → not a ≡ false
not_bad true h = refl
not_bad false h = cc

-- one row behind others
pub one_more : (field at : ℕ) (t : Bool) → first_failing (row field at t ∷ []) ≡ None → t ≡ false
one_more field at true h = cc
one_more field at false h = refl

pub none_more : (field at : ℕ) (t : Bool) → t ≡ false → first_failing (row field at t ∷ []) ≡ None
none_more field at true h = cc
none_more field at false h = refl

pub record OneRow (field at : ℕ) (t : Bool) (r : RefusalView) : Type 0 where
  pub fails : t ≡ true
  pub field_is : r.field ≡ field
  pub at_is : r.at ≡ at

pub one_fails : (field at : ℕ) (t : Bool) (r : RefusalView) → first_failing (row field at t ∷ []) ≡ Some r → OneRow field at t r
one_fails field at true r h =
    let failing : RefusalView = record { field = field; at = at } in
    let same : failing ≡ r = cc in
    record { fails = refl; field_is = ap (λ (q : RefusalView). q.field) (sym same); at_is = ap (λ (q : RefusalView). q.at) (sym same) }
one_fails field at false r h = cc

pub fails_one : (field at : ℕ) (t : Bool) → t ≡ true → first_failing (row field at t ∷ []) ≡ told field at
fails_one field at true h = refl
fails_one field at false h = cc

-- a format whose octets are accepted, by a test
module _ {C V : Type 0} (header_of : C → ℕ → List ℕ) (hole : ℕ) (F : Meaning C V) where
  abbrev pub summed : C → List Bool → List ℕ
  summed c b = let n = length b / 8 in header_of c n ++ octets_of_bits n b

  pub record IsSealed (accepts : C → List Bool → Bool) (c : C) (v : V) (b : List Bool) : Type 0 where
    pub stood : F.stands c v b
    pub good : IsTrue (accepts c b)

  -- a front stands, and is not accepted
  pub record HasBadSum (accepts : C → List Bool → Bool) (c : C) (b : List Bool) (f : Fault) : Type 0 where
    pub value : V
    pub front : List Bool
    pub back : List Bool
    pub joined : b ≡ front ++ back
    pub stood : F.stands c value front
    pub bad : accepts c front ≡ false
    pub is : f ≡ fault_at 0 (8 * hole)

-- a sum over what was read
module _ {C V : Type 0} {F : Meaning C V} {Is : C → V → List ℕ → Type 0} {size : C → List ℕ → ℕ} {rows : C → (start : ℕ) → List ℕ → List Row}
    (header_of : C → ℕ → List ℕ) (hole : ℕ) (R : IsRead F Is size rows)
    -- what is accepted of the bits, and the same of the octets; and a rule that reads F and accepts this
    (accepts : C → List Bool → Bool) (good : C → List ℕ → Bool) (good_bits : (c : C) (o : List ℕ) → IsOctets o → accepts c (bits o) ≡ good c o)
    (m : Meaning C V)
    (m_stands : (c : C) (v : V) (b : List Bool) → m.stands c v b ↔ IsSealed header_of hole F accepts c v b)
    (m_refuses : (c : C) (b : List Bool) (f : Fault) → m.refuses c b f ↔ (F.refuses c b f ⊎ HasBadSum header_of hole F accepts c b f)) where
  abbrev IsChecked : C → V → List ℕ → Type 0
  IsChecked c v o = Is c v o × IsTrue (good c o)

  abbrev sum_row : C → (start : ℕ) → List ℕ → List Row
  sum_row c start x = row 0 (start + hole) (not (good c (take (size c x) x))) ∷ []

  abbrev sum_rows : C → (start : ℕ) → List ℕ → List Row
  sum_rows c start x = rows c start x ++ sum_row c start x

  checked_stands : (c : C) (v : V) (b : List Bool) → m.stands c v b ↔ Spelled (IsChecked c v) b
  checked_stands c v b = (
    λ q.
        let p = (m_stands c v b).0 q in
        let s = (R.stands c v b).0 p.stood in
        record { octets = s.octets; each = s.each; is = (s.is, sym (good_bits c s.octets s.each) ∙ ap (accepts c) (sym s.spelled) ∙ p.good); spelled = s.spelled },
    λ s. (m_stands c v b).1 (record {
      stood = (R.stands c v b).1 (record { octets = s.octets; each = s.each; is = s.is.0; spelled = s.spelled });
      good = ap (accepts c) s.spelled ∙ good_bits c s.octets s.each ∙ s.is.1;
    }),
  )

  -- the octets that were read
  front_is : (c : C) (x : List ℕ) → IsOctets x → (p : Front (Is c) x) → take (size c x) x ≡ p.front
  front_is c x each p =
      let r = R.reads c p.found p.front p.later (subst IsOctets p.joined each) p.is in
      ap (λ k. take k x) (ap (size c) p.joined ∙ r) ∙ ap (take (length p.front)) p.joined ∙ take_at p.front p.later (length p.front) refl

  checked_passes : (c : C) (start : ℕ) (x : List ℕ) → IsOctets x → (first_failing (sum_rows c start x) ≡ None) ↔ Front (IsChecked c) x
  checked_passes c start x each = (
    λ h.
        let one = first_failing-none (rows c start x) (sum_row c start x) h in
        let two = sym (first_failing-back (rows c start x) (sum_row c start x) one) ∙ h in
        let p = (R.passes c start x each).0 one in
        let sum = is_right (good c (take (size c x) x)) (one_more 0 (start + hole) (not (good c (take (size c x) x))) two) in
        record { found = p.found; front = p.front; later = p.later; is = (p.is, ap (good c) (sym (front_is c x each p)) ∙ sum); joined = p.joined },
    λ q.
        let p : Front (Is c) x = record { found = q.found; front = q.front; later = q.later; is = q.is.0; joined = q.joined } in
        first_failing-back (rows c start x) (sum_row c start x) ((R.passes c start x each).1 p)
        ∙ none_more 0 (start + hole) (not (good c (take (size c x) x))) (not_bad (good c (take (size c x) x)) (ap (good c) (front_is c x each p) ∙ q.is.1)),
  )

  checked_refuses : (c : C) (start : ℕ) (x : List ℕ) → IsOctets x → (f : Fault) → m.refuses c (bits x) f ↔ IsFirstFault start (sum_rows c start x) f
  checked_refuses c start x each f = (
    λ r. elim ((m_refuses c (bits x) f).0 r) [
      | inl p ↦ let h = (R.refuses c start x each f).0 p in record { octet = h.octet; first = first_failing-front (rows c start x) (sum_row c start x) _ h.first; place = h.place }
      | inr q ↦
          let s = (R.stands c q.value q.front).0 q.stood in
          let here = front_octets x s.octets q.back each s.each (q.joined ∙ ap (λ l. l ++ q.back) s.spelled) in
          let p : Front (Is c) x = record { found = q.value; front = s.octets; later = drop (length s.octets) x; is = s.is; joined = here.0 } in
          let bad : good c (take (size c x) x) ≡ false = ap (good c) (front_is c x each p) ∙ sym (good_bits c s.octets s.each) ∙ ap (accepts c) (sym s.spelled) ∙ q.bad in
          record {
            octet = hole;
            first = first_failing-back (rows c start x) (sum_row c start x) ((R.passes c start x each).1 p) ∙ fails_one 0 (start + hole) (not (good c (take (size c x) x))) (is_not (good c (take (size c x) x)) bad) ∙ ap (λ n. told n (start + hole)) (sym (ap (λ (g : Fault). g.field) q.is));
            place = ap (λ (g : Fault). g.at) q.is;
          }
    ],
    λ h. (m_refuses c (bits x) f).1 (elim (judged (rows c start x)) [
      | inl p ↦
          let same = sym (first_failing-front (rows c start x) (sum_row c start x) p.refusal p.first) ∙ h.first in
          inl ((R.refuses c start x each f).1 (record { octet = h.octet; first = p.first ∙ same; place = h.place }))
      | inr none ↦
          let p = (R.passes c start x each).0 none in
          let o = one_fails 0 (start + hole) (not (good c (take (size c x) x))) (record { field = f.field; at = start + h.octet }) (sym (first_failing-back (rows c start x) (sum_row c start x) none) ∙ h.first) in
          let in_front : IsOctets p.front = IsOctets-front p.front p.later (subst IsOctets p.joined each) in
          let place : f.at ≡ 8 * hole = omega (arith, h.place, o.at_is) in
          inr (record {
            value = p.found;
            front = bits p.front;
            back = bits p.later;
            joined = ap bits p.joined ∙ bits-append p.front p.later;
            stood = (R.stands c p.found (bits p.front)).1 (record { octets = p.front; each = in_front; is = p.is; spelled = refl });
            bad = good_bits c p.front in_front ∙ ap (good c) (sym (front_is c x each p)) ∙ is_false (good c (take (size c x) x)) o.fails;
            is = ap (λ n. fault_at n f.at) o.field_is ∙ ap (fault_at 0) place;
          })
    ]),
  )

  pub sealed_read : IsRead m IsChecked size sum_rows
  sealed_read = record {
    stands = checked_stands;
    refuses = checked_refuses;
    passes = checked_passes;
    reads = λ c v o later each h. R.reads c v o later each h.0;
    places = λ c start x r h. elim (judged (rows c start x)) [
      | inl p ↦ R.places c start x r (p.first ∙ (sym (first_failing-front (rows c start x) (sum_row c start x) p.refusal p.first) ∙ h))
      | inr none ↦ omega (arith, (one_fails 0 (start + hole) (not (good c (take (size c x) x))) r (sym (first_failing-back (rows c start x) (sum_row c start x) none) ∙ h)).at_is)
    ];
  }

-- the Internet sum, behind a pseudo header of an even number of octets
module _ {C V : Type 0} {F : Meaning C V} {Is : C → V → List ℕ → Type 0} {size : C → List ℕ → ℕ} {rows : C → (start : ℕ) → List ℕ → List Row}
    (header_of : C → ℕ → List ℕ) (even : (c : C) (n : ℕ) → length (header_of c n) % 2 ≡ 0) (hole : ℕ) (R : IsRead F Is size rows) where
  abbrev pub good_sum : C → List ℕ → Bool
  good_sum c o = is_good_sum (header_of c (length o) ++ o)

  abbrev is_good : C → List Bool → Bool
  is_good c b = is_good_sum (summed header_of hole F c b)

  sum_bits : (c : C) (o : List ℕ) → IsOctets o → is_good c (bits o) ≡ good_sum c o
  sum_bits c o each =
      let n : length (bits o) / 8 ≡ length o = omega (arith, length-bits o) in
      ap (λ l. is_good_sum (header_of c (length (bits o) / 8) ++ l)) (octets_again o each) ∙ ap (λ k. is_good_sum (header_of c k ++ o)) n

  -- the total of both, which the rule judges
  sum_is : (c : C) (b : List Bool) → total (summed header_of hole F c b) ≡ total (header_of c (length b / 8)) + total (octets_of_bits (length b / 8) b)
  sum_is c b = total-append (header_of c (length b / 8)) (octets_of_bits (length b / 8) b) (even c (length b / 8))

  rule_good : (c : C) (b : List Bool) → IsGoodTotal (total (header_of c (length b / 8)) + total (octets_of_bits (length b / 8) b)) ↔ IsTrue (is_good c b)
  rule_good c b = (
    λ g. subst IsGoodTotal (sym (sum_is c b)) g,
    λ h. subst IsGoodTotal (sum_is c b) h,
  )

  not_good : (c : C) (b : List Bool) (t : Bool) → is_good c b ≡ t → (IsGoodTotal (total (header_of c (length b / 8)) + total (octets_of_bits (length b / 8) b)) → ⊥) → t ≡ false
  not_good c b true e bad = absurd (bad ((rule_good c b).1 e))
  not_good c b false e bad = refl

  never : (t : Bool) → t ≡ false → IsTrue t → ⊥
  never true e h = cc
  never false e h = cc

  pub checked_read : IsRead (checked header_of hole F) (λ c v o. Is c v o × IsTrue (good_sum c o)) size (λ c start x. rows c start x ++ row 0 (start + hole) (not (good_sum c (take (size c x) x))) ∷ [])
  unfolding checked
  checked_read = sealed_read header_of hole R is_good good_sum sum_bits (checked header_of hole F)
      (λ c v b. (λ p. record { stood = p.stood; good = (rule_good c b).0 p.passed }, λ s. record { stood = s.stood; passed = (rule_good c b).1 s.good }))
      (λ c b f. (
        elim [
          | inl p ↦ inl p
          | inr q ↦ inr (record { value = q.value; front = q.front; back = q.back; joined = q.joined; stood = q.stood; bad = not_good c q.front (is_good c q.front) refl q.failed; is = q.is })
        ],
        elim [
          | inl p ↦ inl p
          | inr q ↦ inr (record { value = q.value; front = q.front; back = q.back; joined = q.joined; stood = q.stood; failed = λ g. never (is_good c q.front) q.bad ((rule_good c q.front).0 g); is = q.is })
        ],
      ))
