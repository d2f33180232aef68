-- Octets and rows of a checksum that may be absent, and of a tail with a checksum.
use Rattle.std.proofs.Common.{◌≡◌, ℕ, ◌+◌, ◌*◌, ◌-◌, ◌/◌, ◌%◌, ◌≤◌, ◌↔◌, ◌⊎◌, Bool, true, false, not, ◌&&◌, ◌||◌, List, [], ◌∷◌, ◌++◌, length, take, drop, nat_eq, nat_lt, IsTrue, refl, sym, ap, ◌∙◌, subst, arith, inl, inr, length-drop}
use Rattle.std.proofs.lemmas.Bool.{and_parts, and_from, ltb-true, lt-ltb, eqb-true}
use Rattle.narc_bits.specs.Octets.{IsOctets, number_of, number_at}
use Rattle.narc_bits.specs.Bits.{bits, number_of_bits, octets_of_bits}
use Rattle.narc_bits.specs.InternetSum.{total, is_good_total, IsGoodTotal, is_good_sum}
use Rattle.narc_bits.proofs.Numbers.{length-bits, number_of_bits-bits_of_number_lt}
use Rattle.narc_bits.proofs.Octets.{IsOctets-take, IsOctets-drop}
use Rattle.narc_bits.proofs.Scans.{bits-take, bits-drop}
use Rattle.narc_bits.proofs.Spelled.{bits_same}
use Rattle.narc_bits.proofs.Sums.{total-append}
use Rattle.narc_format.specs.Faults.{fault_at}
use Rattle.narc_format.specs.declared.fault.Fault.{Fault}
use Rattle.narc_format.specs.Meaning.{Meaning}
use Rattle.narc_format.specs.Rows.{Row, row}
use Rattle.narc_sum.specs.Checked.{checked_or_none, checked_tail}
use Rattle.narc_layout.specs.FirstFault.{IsFirstFault}
use Rattle.narc_bits.proofs.NetworkOrder.{number_of_lt, bits-number_of}
use Rattle.narc_layout.proofs.Rows.{told, judged, first_failing-front, first_failing-back, first_failing-none}
use Rattle.narc_layout.proofs.ReadLayout.{Spelled, IsRead, IsTailRead}
use Rattle.narc_layout.proofs.RuleReads.{one_more, none_more, one_fails, fails_one, sealed_read, is_right, not_bad}
use Rattle.narc_layout.proofs.TestRead.{octets_again}

-- the sum behind a pseudo header of an even number of octets
pub good_behind : (p o : List ℕ) → length p % 2 ≡ 0 → is_good_total (total p + total o) ≡ is_good_sum (p ++ o)
good_behind p o even = ap is_good_total (sym (total-append p o even))

-- the word in the hole is 0, which says that there is no sum
abbrev pub has_no_sum : (hole : ℕ) → List Bool → Bool
has_no_sum hole b = nat_eq (number_of_bits (take 16 (drop (8 * hole) b))) 0

number_of_octets : (l : List ℕ) → IsOctets l → number_of_bits (bits l) ≡ number_of l
number_of_octets l each = ap number_of_bits (bits-number_of l each) ∙ number_of_bits-bits_of_number_lt (8 * length l) (number_of l) (number_of_lt l each)

-- the word in the hole of octets
pub word_in_hole : (hole : ℕ) (o : List ℕ) → IsOctets o → hole + 2 ≤ length o → has_no_sum hole (bits o) ≡ nat_eq (number_at o hole 2) 0
word_in_hole hole o each room =
    let back = drop hole o in
    let two : hole + 2 - hole ≡ 2 = omega arith in
    let cut : take 16 (drop (8 * hole) (bits o)) ≡ bits (take 2 back) =
    ap (take 16) (sym (bits-drop o hole (omega (arith, room)))) ∙ sym (bits-take back 2 (omega (arith, room, length-drop hole o))) in
    ap (λ n. nat_eq n 0) (ap number_of_bits cut ∙ number_of_octets (take 2 back) (IsOctets-take 2 back (IsOctets-drop hole o each)) ∙ ap (λ k. number_of (take k back)) (sym two))

-- a fact that is asked where a test holds
pub where_true : {P : Type 0} (t good : Bool) → (P → IsTrue good) → (IsTrue t → P) → IsTrue (not t || good)
where_true true good to h = to (h refl)
where_true false good to h = refl

pub where_holds : {P : Type 0} (t good : Bool) → (IsTrue good → P) → IsTrue (not t || good) → IsTrue t → P
where_holds true good to h judged = to h
where_holds false good to h judged = cc

pub or_true : (a b : Bool) → (a ≡ true) ⊎ IsTrue b → IsTrue (a || b)
or_true true b h = refl
or_true false b (inl h) = cc
or_true false b (inr h) = h

pub or_cases : (a b : Bool) → IsTrue (a || b) → (a ≡ true) ⊎ IsTrue b
or_cases true b h = inl refl
or_cases false b h = inr h

-- what is no fact is a test that fails
fails_test : {P : Type 0} (t : Bool) → P ↔ IsTrue t → (P → ⊥) → t ≡ false
fails_test true same bad = absurd (bad (same.1 refl))
fails_test false same bad = refl

fact_fails : {P : Type 0} (t : Bool) → P ↔ IsTrue t → t ≡ false → P → ⊥
fact_fails t same e h = two t e (same.0 h) where
  two : (t : Bool) → t ≡ false → IsTrue t → ⊥
  two true e h = cc
  two false e h = cc

-- the sums of bits and of octets, behind that of their pseudo header
module _ {C : Type 0} (pseudo_of : C → ℕ → List ℕ) where
  abbrev pub sum_of_bits : C → List Bool → ℕ
  sum_of_bits c b = let n = length b / 8 in total (pseudo_of c n) + total (octets_of_bits n b)

  abbrev pub sum_of_octets : C → List ℕ → ℕ
  sum_of_octets c o = total (pseudo_of c (length o)) + total o

  pub sum_again : (c : C) (o : List ℕ) → IsOctets o → sum_of_bits c (bits o) ≡ sum_of_octets c o
  sum_again c o each =
      let n : length (bits o) / 8 ≡ length o = omega (arith, length-bits o) in
      ap (λ l. total (pseudo_of c (length (bits o) / 8)) + total l) (octets_again o each) ∙ ap (λ k. total (pseudo_of c k) + total o) n

  -- the sum is good, or there is none, or it is not judged
  abbrev pub is_good_or_none : (judges : C → Bool) (hole : ℕ) → C → List ℕ → Bool
  is_good_or_none judges hole c o = not (judges c) || (has_no_sum hole (bits o) || is_good_total (sum_of_octets c o))

  -- the sum is good or not judged, of at most 65,535 octets
  abbrev pub is_short_and_good : (judges : C → Bool) → C → List ℕ → Bool
  is_short_and_good judges c o = nat_lt (length o) 65536 && (not (judges c) || is_good_total (sum_of_octets c o))

-- a format with a sum that may be absent
module _ {C V : Type 0} {F : Meaning C V} {Is : C → V → List ℕ → Type 0} {size : C → List ℕ → ℕ} {rows : C → (start : ℕ) → List ℕ → List Row}
    (pseudo_of : C → ℕ → List ℕ) (hole : ℕ) (judges : C → Bool) (R : IsRead F Is size rows) where
  abbrev has_good : C → List Bool → Bool
  has_good c b = has_no_sum hole b || is_good_total (sum_of_bits pseudo_of c b)

  abbrev accepts : C → List Bool → Bool
  accepts c b = not (judges c) || has_good c b

  rule_accepts : (c : C) (b : List Bool) → (IsTrue (judges c) → (number_of_bits (take 16 (drop (8 * hole) b)) ≡ 0) ⊎ IsGoodTotal (sum_of_bits pseudo_of c b)) ↔ IsTrue (accepts c b)
  rule_accepts c b =
      let word = number_of_bits (take 16 (drop (8 * hole) b)) in
      let sum = sum_of_bits pseudo_of c b in (
        where_true (judges c) (has_good c b) (λ h. or_true (nat_eq word 0) (is_good_total sum) (elim h [ inl e ↦ inl (ap (λ n. nat_eq n 0) e) | inr g ↦ inr g ])),
        where_holds (judges c) (has_good c b) (λ h. elim (or_cases (nat_eq word 0) (is_good_total sum) h) [ inl e ↦ inl (eqb-true word 0 e) | inr g ↦ inr g ]),
      )

  pub checked_or_none_read : IsRead (checked_or_none pseudo_of hole F judges) (λ c v o. Is c v o × IsTrue (is_good_or_none pseudo_of judges hole c o)) size
      (λ c start x. rows c start x ++ row 0 (start + hole) (not (is_good_or_none pseudo_of judges hole c (take (size c x) x))) ∷ [])
  unfolding checked_or_none
  checked_or_none_read = sealed_read pseudo_of hole R accepts (is_good_or_none pseudo_of judges hole) (λ c o each. ap (λ n. not (judges c) || (has_no_sum hole (bits o) || is_good_total n)) (sum_again pseudo_of c o each)) (checked_or_none pseudo_of hole F judges)
      (λ c v b. (λ p. record { stood = p.stood; good = (rule_accepts c b).0 p.passed }, λ s. record { stood = s.stood; passed = (rule_accepts c b).1 s.good }))
      (λ c b f. (
        elim [
          | inl p ↦ inl p
          | inr q ↦ inr (record { value = q.value; front = q.front; back = q.back; joined = q.joined; stood = q.stood; bad = fails_test (accepts c q.front) (rule_accepts c q.front) q.failed; is = q.is })
        ],
        elim [
          | inl p ↦ inl p
          | inr q ↦ inr (record { value = q.value; front = q.front; back = q.back; joined = q.joined; stood = q.stood; failed = fact_fails (accepts c q.front) (rule_accepts c q.front) q.bad; is = q.is })
        ],
      ))

-- a tail with a sum
module _ {C V : Type 0} {F : Meaning C V} {Is : C → V → List ℕ → Type 0} {rows : C → (start : ℕ) → List ℕ → List Row} (pseudo_of : C → ℕ → List ℕ) (hole : ℕ) (judges : C → Bool) (R : IsTailRead F Is rows) where
  abbrev good : C → List ℕ → Bool
  good c o = is_short_and_good pseudo_of judges c o

  abbrev sum_row : C → (start : ℕ) → List ℕ → List Row
  sum_row c start x = row 0 (start + hole) (not (good c x)) ∷ []

  -- both facts, of bits and of octets
  to_octets : (c : C) (o : List ℕ) → IsOctets o → length (bits o) ≤ 8 * 65535 → (IsTrue (judges c) → IsGoodTotal (sum_of_bits pseudo_of c (bits o))) → good c o ≡ true
  to_octets c o each short g =
      let sum = is_good_total (sum_of_octets pseudo_of c o) in
      and_from (nat_lt (length o) 65536) (not (judges c) || sum) (lt-ltb (length o) 65536 (omega (arith, short, length-bits o)))
      (where_true (judges c) sum (λ h. ap is_good_total (sym (sum_again pseudo_of c o each)) ∙ h) g)

  to_bits : (c : C) (o : List ℕ) → IsOctets o → good c o ≡ true → (length (bits o) ≤ 8 * 65535) × (IsTrue (judges c) → IsGoodTotal (sum_of_bits pseudo_of c (bits o)))
  to_bits c o each h =
      let sum = is_good_total (sum_of_octets pseudo_of c o) in
      let p = and_parts (nat_lt (length o) 65536) (not (judges c) || sum) h in
      (omega (arith, ltb-true (length o) 65536 p.0, length-bits o), where_holds (judges c) sum (λ k. ap is_good_total (sum_again pseudo_of c o each) ∙ k) p.1)

  sum_fails : (a : Bool) → (a ≡ true → ⊥) → not a ≡ true
  sum_fails true h = absurd (h refl)
  sum_fails false h = refl

  never_both : (a : Bool) → not a ≡ true → a ≡ true → ⊥
  never_both true h k = cc
  never_both false h k = cc

  checked_stands : (c : C) (v : V) (b : List Bool) → (checked_tail pseudo_of hole F judges).stands c v b ↔ Spelled (λ o. Is c v o × IsTrue (good c o)) b
  unfolding checked_tail
  checked_stands c v b = (
    λ p.
        let s = (R.stands c v b).0 p.stood in
        let sum = to_octets c s.octets s.each (omega (arith, p.passed.short, ap length s.spelled)) (λ judged. subst (λ l. IsGoodTotal (sum_of_bits pseudo_of c l)) s.spelled (p.passed.good judged)) in
        record { octets = s.octets; each = s.each; is = (s.is, sum); spelled = s.spelled },
    λ s.
        let h = to_bits c s.octets s.each s.is.1 in
        record {
          stood = (R.stands c v b).1 (record { octets = s.octets; each = s.each; is = s.is.0; spelled = s.spelled });
          passed = record { short = omega (arith, h.0, ap length s.spelled); good = λ judged. subst (λ l. IsGoodTotal (sum_of_bits pseudo_of c l)) (sym s.spelled) (h.1 judged) };
        },
  )

  checked_refuses : (c : C) (start : ℕ) (x : List ℕ) → IsOctets x → (f : Fault) → (checked_tail pseudo_of hole F judges).refuses c (bits x) f ↔ IsFirstFault start (rows c start x ++ sum_row c start x) f
  unfolding checked_tail
  checked_refuses c start x each f = (
    elim [
      | inl p ↦ let h = (R.refuses c start x each f).0 p in record { octet = h.octet; first = first_failing-front (rows c start x) (sum_row c start x) _ h.first; place = h.place }
      | inr q ↦
          let s = (R.stands c q.value (bits x)).0 q.stood in
          let same : s.octets ≡ x = bits_same s.octets x s.each each (sym s.spelled) in
          let passed = (R.passes c start x each).1 (q.value, subst (Is c q.value) same s.is) in
          let bad = sum_fails (good c x) (λ h. let g = to_bits c x each h in q.failed (record { short = g.0; good = g.1 })) in
          record {
            octet = hole;
            first = first_failing-back (rows c start x) (sum_row c start x) passed ∙ fails_one 0 (start + hole) (not (good c x)) bad ∙ ap (λ n. told n (start + hole)) (sym (ap (λ (g : Fault). g.field) q.is));
            place = ap (λ (g : Fault). g.at) q.is;
          }
    ],
    λ h. elim (judged (rows c start x)) [
      | inl p ↦
          let same = sym (first_failing-front (rows c start x) (sum_row c start x) p.refusal p.first) ∙ h.first in
          inl ((R.refuses c start x each f).1 (record { octet = h.octet; first = p.first ∙ same; place = h.place }))
      | inr none ↦
          let p = (R.passes c start x each).0 none in
          let o = one_fails 0 (start + hole) (not (good c x)) (record { field = f.field; at = start + h.octet }) (sym (first_failing-back (rows c start x) (sum_row c start x) none) ∙ h.first) in
          let place : f.at ≡ 8 * hole = omega (arith, h.place, o.at_is) in
          inr (record {
            value = p.0;
            stood = (R.stands c p.0 (bits x)).1 (record { octets = x; each = each; is = p.1; spelled = refl });
            failed = λ k. never_both (good c x) o.fails (to_octets c x each k.short k.good);
            is = ap (λ n. fault_at n f.at) o.field_is ∙ ap (fault_at 0) place;
          })
    ],
  )

  pub checked_tail_read : IsTailRead (checked_tail pseudo_of hole F judges) (λ c v o. Is c v o × IsTrue (is_short_and_good pseudo_of judges c o)) (λ c start x. rows c start x ++ row 0 (start + hole) (not (is_short_and_good pseudo_of judges c x)) ∷ [])
  checked_tail_read = record {
    stands = checked_stands;
    refuses = checked_refuses;
    passes = λ c start x each. (
      λ h.
          let one = first_failing-none (rows c start x) (sum_row c start x) h in
          let two = sym (first_failing-back (rows c start x) (sum_row c start x) one) ∙ h in
          let p = (R.passes c start x each).0 one in
          (p.0, (p.1, is_right (good c x) (one_more 0 (start + hole) (not (good c x)) two))),
      λ p. first_failing-back (rows c start x) (sum_row c start x) ((R.passes c start x each).1 (p.0, p.1.0)) ∙ none_more 0 (start + hole) (not (good c x)) (not_bad (good c x) p.1.1),
    );
    places = λ c start x r h. elim (judged (rows c start x)) [
      | inl p ↦ R.places c start x r (p.first ∙ (sym (first_failing-front (rows c start x) (sum_row c start x) p.refusal p.first) ∙ h))
      | inr none ↦ omega (arith, (one_fails 0 (start + hole) (not (good c x)) r (sym (first_failing-back (rows c start x) (sum_row c start x) none) ∙ h)).at_is)
    ];
  }
