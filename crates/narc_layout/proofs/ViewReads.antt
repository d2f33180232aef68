-- Octets and rows of a gap, a measured tail, a view and free octets.
use Rattle.std.proofs.Common.{◌≡◌, ℕ, ◌+◌, ◌*◌, ◌/◌, ◌<◌, ◌≤◌, ◌↔◌, Bool, List, [], ◌∷◌, ◌++◌, length, take, drop, None, refl, sym, ap, ◌∙◌, subst, append_assoc, arith, inl, inr, length-append, length-take, take-append-drop}
use Rattle.std.proofs.lemmas.Bool.{lt-ltb, le-ltb, ltb-true, ltb-false}
use Rattle.narc_bits.specs.Octets.{IsOctets, is_shorter}
use Rattle.narc_bits.specs.Bits.{bits, octets_of_bits}
use Rattle.narc_bits.proofs.Numbers.{length-bits, bits-append}
use Rattle.narc_bits.proofs.Octets.{IsOctets-append, IsOctets-front}
use Rattle.narc_bits.proofs.Spelled.{bits-octets_of_bits, IsOctets-octets_of_bits, length-octets_of_bits}
use Rattle.narc_format.specs.Faults.{fault_at}
use Rattle.narc_format.specs.declared.fault.Fault.{Fault}
use Rattle.narc_format.specs.Meaning.{Meaning}
use Rattle.narc_compose.specs.Strip.{stripped}
use Rattle.narc_list.specs.Bytes.{all_octets}
use Rattle.narc_list.specs.Pad.{padding}
use Rattle.narc_compose.specs.Gap.{gapped}
use Rattle.narc_compose.specs.Measured.{measured}
use Rattle.narc_format.specs.Rows.{Row, row, first_failing}
use Rattle.narc_layout.specs.FirstFault.{IsFirstFault}
use Rattle.narc_layout.proofs.Rows.{told, judged, first_failing-front, first_failing-back, first_failing-none}
use Rattle.narc_layout.proofs.Layouts.{front_octets}
use Rattle.narc_layout.proofs.ReadLayout.{Spelled, Front, Parts, IsRead, IsTailRead}
use Rattle.narc_layout.proofs.RuleReads.{one_more, none_more, one_fails, fails_one}

-- 16 free bits behind k octets
module _ {C V : Type 0} {F : Meaning C V} {Is : C → V → List ℕ → Type 0} {size : C → List ℕ → ℕ} {rows : C → (start : ℕ) → List ℕ → List Row} (k : ℕ) (fixed : (c : C) (x : List ℕ) → size c x ≡ k) (R : IsRead F Is size rows) where
  abbrev IsGapped : C → V → List ℕ → Type 0
  IsGapped c v = Parts (Is c v) (λ w. length w ≡ 2)

  abbrev lacks : C → (start : ℕ) → List ℕ → List Row
  lacks c start x = row 0 (start + k) (is_shorter x (k + 2)) ∷ []

  abbrev gap_rows : C → (start : ℕ) → List ℕ → List Row
  gap_rows c start x = rows c start x ++ lacks c start x

  front_size : (c : C) (x : List ℕ) → IsOctets x → (p : Front (Is c) x) → length p.front ≡ k
  front_size c x each p = sym (R.reads c p.found p.front p.later (subst IsOctets p.joined each) p.is) ∙ fixed c (p.front ++ p.later)

  own_size : (c : C) (v : V) (o : List ℕ) → IsOctets o → Is c v o → length o ≡ k
  own_size c v o each is = front_size c (o ++ []) (IsOctets-append o [] each tt) (record { found = v; front = o; later = []; is = is; joined = refl })

  gap_stands : (c : C) (v : V) (b : List Bool) → (gapped (8 * k) F).stands c v b ↔ Spelled (IsGapped c v) b
  unfolding gapped
  gap_stands c v b = (
    λ p.
        let s = (R.stands c v p.front).0 p.stood in
        let w = octets_of_bits 2 p.word in
        record {
          octets = s.octets ++ w;
          each = IsOctets-append s.octets w s.each (IsOctets-octets_of_bits 2 p.word);
          is = record { front = s.octets; back = w; joined = refl; first = s.is; second = length-octets_of_bits 2 p.word };
          spelled = p.joined ∙ ap (λ l. l ++ p.word) s.spelled ∙ ap (λ l. bits s.octets ++ l) (sym (bits-octets_of_bits 2 p.word p.size)) ∙ sym (bits-append s.octets w);
        },
    λ s.
        let q = s.is in
        record {
          front = bits q.front;
          word = bits q.back;
          joined = s.spelled ∙ ap bits q.joined ∙ bits-append q.front q.back;
          stood = (R.stands c v (bits q.front)).1 (record { octets = q.front; each = IsOctets-front q.front q.back (subst IsOctets q.joined s.each); is = q.first; spelled = refl });
          size = omega (arith, length-bits q.back, q.second);
        },
  )

  gap_passes : (c : C) (start : ℕ) (x : List ℕ) → IsOctets x → (first_failing (gap_rows c start x) ≡ None) ↔ Front (IsGapped c) x
  gap_passes c start x each = (
    λ h.
        let one = first_failing-none (rows c start x) (lacks c start x) h in
        let two = sym (first_failing-back (rows c start x) (lacks c start x) one) ∙ h in
        let room = ltb-false (length x) (k + 2) (one_more 0 (start + k) (is_shorter x (k + 2)) two) in
        let p = (R.passes c start x each).0 one in
        let w = take 2 p.later in
        record {
          found = p.found;
          front = p.front ++ w;
          later = drop 2 p.later;
          is = record { front = p.front; back = w; joined = refl; first = p.is; second = omega (arith, length-take 2 p.later, ap length p.joined, length-append p.front p.later, front_size c x each p, room) };
          joined = p.joined ∙ ap (λ l. p.front ++ l) (sym (take-append-drop 2 p.later)) ∙ sym (append_assoc p.front w (drop 2 p.later));
        },
    λ q.
        let p : Front (Is c) x = record { found = q.found; front = q.is.front; later = q.is.back ++ q.later; is = q.is.first; joined = q.joined ∙ ap (λ l. l ++ q.later) q.is.joined ∙ append_assoc q.is.front q.is.back q.later } in
        let room : k + 2 ≤ length x = omega (arith, ap length p.joined, length-append q.is.front (q.is.back ++ q.later), length-append q.is.back q.later, q.is.second, front_size c x each p) in
        first_failing-back (rows c start x) (lacks c start x) ((R.passes c start x each).1 p) ∙ none_more 0 (start + k) (is_shorter x (k + 2)) (le-ltb (length x) (k + 2) room),
  )

  gap_refuses : (c : C) (start : ℕ) (x : List ℕ) → IsOctets x → (f : Fault) → (gapped (8 * k) F).refuses c (bits x) f ↔ IsFirstFault start (gap_rows c start x) f
  unfolding gapped
  gap_refuses c start x each f = (
    elim [
      | inl p ↦ let h = (R.refuses c start x each f).0 p in record { octet = h.octet; first = first_failing-front (rows c start x) (lacks c start x) _ h.first; place = h.place }
      | inr q ↦
          let s = (R.stands c q.value q.front).0 q.stood in
          let here = front_octets x s.octets q.back each s.each (q.joined ∙ ap (λ l. l ++ q.back) s.spelled) in
          let p : Front (Is c) x = record { found = q.value; front = s.octets; later = drop (length s.octets) x; is = s.is; joined = here.0 } in
          let few : length x < k + 2 = omega (arith, q.few, ap length here.1, length-bits (drop (length s.octets) x), ap length here.0, length-append s.octets (drop (length s.octets) x), front_size c x each p) in
          record {
            octet = k;
            first = first_failing-back (rows c start x) (lacks c start x) ((R.passes c start x each).1 p) ∙ fails_one 0 (start + k) (is_shorter x (k + 2)) (lt-ltb (length x) (k + 2) few) ∙ ap (λ n. told n (start + k)) (sym (ap (λ (g : Fault). g.field) q.is));
            place = ap (λ (g : Fault). g.at) q.is;
          }
    ],
    λ h. elim (judged (rows c start x)) [
      | inl p ↦
          let same = sym (first_failing-front (rows c start x) (lacks c start x) p.refusal p.first) ∙ h.first in
          inl ((R.refuses c start x each f).1 (record { octet = h.octet; first = p.first ∙ same; place = h.place }))
      | inr none ↦
          let p = (R.passes c start x each).0 none in
          let o = one_fails 0 (start + k) (is_shorter x (k + 2)) (record { field = f.field; at = start + h.octet }) (sym (first_failing-back (rows c start x) (lacks c start x) none) ∙ h.first) in
          let few = ltb-true (length x) (k + 2) o.fails in
          let place : f.at ≡ 8 * k = omega (arith, h.place, o.at_is) in
          inr (record {
            value = p.found;
            front = bits p.front;
            back = bits p.later;
            joined = ap bits p.joined ∙ bits-append p.front p.later;
            stood = (R.stands c p.found (bits p.front)).1 (record { octets = p.front; each = IsOctets-front p.front p.later (subst IsOctets p.joined each); is = p.is; spelled = refl });
            few = omega (arith, few, ap length p.joined, length-append p.front p.later, front_size c x each p, length-bits p.later);
            is = ap (λ n. fault_at n f.at) o.field_is ∙ ap (fault_at 0) place;
          })
    ],
  )

  pub gap_read : IsRead (gapped (8 * k) F) IsGapped (λ c x. k + 2) gap_rows
  gap_read = record {
    stands = gap_stands;
    refuses = gap_refuses;
    passes = gap_passes;
    reads = λ c v o later each q.
        let in_front : IsOctets q.front = IsOctets-front q.front q.back (subst IsOctets q.joined (IsOctets-front o later each)) in
        omega (arith, ap length q.joined, length-append q.front q.back, q.second, own_size c v q.front in_front q.first);
    places = λ c start x r h. elim (judged (rows c start x)) [
      | inl p ↦ R.places c start x r (p.first ∙ (sym (first_failing-front (rows c start x) (lacks c start x) p.refusal p.first) ∙ h))
      | inr none ↦ omega (arith, (one_fails 0 (start + k) (is_shorter x (k + 2)) r (sym (first_failing-back (rows c start x) (lacks c start x) none) ∙ h)).at_is)
    ];
  }

-- a tail that is told its octets
module _ {C D V : Type 0} (measured_of : C → ℕ → D) (written_of : C → D) (valid : C → Type 0) {F : Meaning D V} {Is : D → V → List ℕ → Type 0} {rows : D → (start : ℕ) → List ℕ → List Row} (R : IsTailRead F Is rows) where
  octets_in : (o : List ℕ) → length (bits o) / 8 ≡ length o
  octets_in o = omega (arith, length-bits o)

  abbrev IsMeasured : C → V → List ℕ → Type 0
  IsMeasured c v o = Is (measured_of c (length o)) v o

  pub measured_read : IsTailRead (measured measured_of written_of valid F) IsMeasured (λ c start x. rows (measured_of c (length x)) start x)
  unfolding measured
  measured_read = record {
    stands = λ c v b. (
      λ p.
          let s = (R.stands (measured_of c (length b / 8)) v b).0 p in
          let n : length b / 8 ≡ length s.octets = ap (λ l. length l / 8) s.spelled ∙ octets_in s.octets in
          record { octets = s.octets; each = s.each; is = subst (λ k. Is (measured_of c k) v s.octets) n s.is; spelled = s.spelled },
      λ s.
          let n : length s.octets ≡ length b / 8 = sym (ap (λ l. length l / 8) s.spelled ∙ octets_in s.octets) in
          (R.stands (measured_of c (length b / 8)) v b).1 (record { octets = s.octets; each = s.each; is = subst (λ k. Is (measured_of c k) v s.octets) n s.is; spelled = s.spelled }),
    );
    refuses = λ c start x each f. (
      λ p. (R.refuses (measured_of c (length x)) start x each f).0 (subst (λ k. F.refuses (measured_of c k) (bits x) f) (octets_in x) p),
      λ h. subst (λ k. F.refuses (measured_of c k) (bits x) f) (sym (octets_in x)) ((R.refuses (measured_of c (length x)) start x each f).1 h),
    );
    passes = λ c start x each. R.passes (measured_of c (length x)) start x each;
    places = λ c start x. R.places (measured_of c (length x)) start x;
  }

-- values seen as others
pub stripped_tail_read : {C W V : Type 0} (see : W → V) (choose : C → V → W) (alike : V → V → Type 0) {F : Meaning C W} {Is : C → W → List ℕ → Type 0} {rows : C → (start : ℕ) → List ℕ → List Row}
    → IsTailRead F Is rows → IsTailRead (stripped see choose alike F) (λ c v o. (w : W) × Is c w o × (see w ≡ v)) rows
unfolding stripped
stripped_tail_read see choose alike R = record {
  stands = λ c v b. (
    λ p. let s = (R.stands c p.raw b).0 p.holds in record { octets = s.octets; each = s.each; is = (p.raw, s.is, p.is); spelled = s.spelled },
    λ s. record { raw = s.is.0; holds = (R.stands c s.is.0 b).1 (record { octets = s.octets; each = s.each; is = s.is.1; spelled = s.spelled }); is = s.is.2 },
  );
  refuses = R.refuses;
  passes = λ c start x each. (λ h. let p = (R.passes c start x each).0 h in (see p.0, (p.0, p.1, refl)), λ p. (R.passes c start x each).1 (p.1.0, p.1.1));
  places = R.places;
}

-- all octets
pub all_octets_read : IsTailRead all_octets (λ c v o. o ≡ v.now) (λ c start x. [])
unfolding all_octets
all_octets_read = record {
  stands = λ c v b. (
    λ p. record { octets = v.now; each = p.0; is = refl; spelled = p.1 },
    λ s. (subst IsOctets s.is s.each, s.spelled ∙ ap bits s.is),
  );
  refuses = λ c start x each f. (λ p. absurd p, λ h. let e = h.first in cc);
  passes = λ c start x each. (λ h. (record { ref_ptr = (0, 0); now = x }, refl), λ p. refl);
  places = λ c start x r h. cc;
}

-- any octets
pub padding_read : IsTailRead padding (λ c v o. Unit {0}) (λ c start x. [])
unfolding padding
padding_read = record {
  stands = λ c v b. (
    λ p. record { octets = octets_of_bits (length b / 8) b; each = IsOctets-octets_of_bits (length b / 8) b; is = tt; spelled = sym (bits-octets_of_bits (length b / 8) b (omega (arith, p))) },
    λ s. omega (arith, ap length s.spelled, length-bits s.octets),
  );
  refuses = λ c start x each f. (λ p. absurd p, λ h. let e = h.first in cc);
  passes = λ c start x each. (λ h. (tt, tt), λ p. refl);
  places = λ c start x r h. cc;
}

-- the same of a format
pub stripped_read : {C W V : Type 0} (see : W → V) (choose : C → V → W) (alike : V → V → Type 0) {F : Meaning C W} {Is : C → W → List ℕ → Type 0} {size : C → List ℕ → ℕ} {rows : C → (start : ℕ) → List ℕ → List Row}
    → IsRead F Is size rows → IsRead (stripped see choose alike F) (λ c v o. (w : W) × Is c w o × (see w ≡ v)) size rows
unfolding stripped
stripped_read see choose alike R = record {
  stands = λ c v b. (
    λ p. let s = (R.stands c p.raw b).0 p.holds in record { octets = s.octets; each = s.each; is = (p.raw, s.is, p.is); spelled = s.spelled },
    λ s. record { raw = s.is.0; holds = (R.stands c s.is.0 b).1 (record { octets = s.octets; each = s.each; is = s.is.1; spelled = s.spelled }); is = s.is.2 },
  );
  refuses = R.refuses;
  passes = λ c start x each. (
    λ h. let p = (R.passes c start x each).0 h in record { found = see p.found; front = p.front; later = p.later; is = (p.found, p.is, refl); joined = p.joined },
    λ p. (R.passes c start x each).1 (record { found = p.is.0; front = p.front; later = p.later; is = p.is.1; joined = p.joined }),
  );
  reads = λ c v o later each h. R.reads c h.0 o later each h.1;
  places = R.places;
}

-- octets told otherwise
pub read_as : {C V : Type 0} {m : Meaning C V} {Is Other : C → V → List ℕ → Type 0} {size other_size : C → List ℕ → ℕ} {rows : C → (start : ℕ) → List ℕ → List Row}
    → IsRead m Is size rows → ((c : C) (v : V) (o : List ℕ) → IsOctets o → Is c v o ↔ Other c v o)
    → ((c : C) (v : V) (o later : List ℕ) → IsOctets (o ++ later) → Other c v o → other_size c (o ++ later) ≡ length o) → IsRead m Other other_size rows
read_as R same reads = record {
  stands = λ c v b. (
    λ p. let s = (R.stands c v b).0 p in record { octets = s.octets; each = s.each; is = (same c v s.octets s.each).0 s.is; spelled = s.spelled },
    λ s. (R.stands c v b).1 (record { octets = s.octets; each = s.each; is = (same c v s.octets s.each).1 s.is; spelled = s.spelled }),
  );
  refuses = R.refuses;
  passes = λ c start x each. (
    λ h.
        let p = (R.passes c start x each).0 h in
        record { found = p.found; front = p.front; later = p.later; is = (same c p.found p.front (IsOctets-front p.front p.later (subst IsOctets p.joined each))).0 p.is; joined = p.joined },
    λ p.
        let is = (same c p.found p.front (IsOctets-front p.front p.later (subst IsOctets p.joined each))).1 p.is in
        (R.passes c start x each).1 (record { found = p.found; front = p.front; later = p.later; is = is; joined = p.joined }),
  );
  reads = reads;
  places = R.places;
}
