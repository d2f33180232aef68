-- Formats by the octets that stand for their values, of any length, and refused by rows.
use Rattle.std.proofs.Common.{◌≡◌, ℕ, ◌+◌, ◌≤◌, ◌↔◌, Bool, List, ◌++◌, length, Some, None, refl, sym, ap, ◌∙◌, subst, arith}
use Rattle.narc_bits.specs.Octets.{IsOctets}
use Rattle.narc_bits.specs.Bits.{bits}
use Rattle.narc_format.specs.declared.fault.Fault.{Fault}
use Rattle.narc_format.specs.Meaning.{Meaning}
use Rattle.narc_format.specs.Rows.{Row, RefusalView, first_failing}
use Rattle.narc_layout.specs.FirstFault.{IsFirstFault}
use Rattle.narc_layout.proofs.ContextLayouts.{IsLayout}

-- the bits of octets of this kind
pub record Spelled (Is : List ℕ → Type 0) (b : List Bool) : Type 0 where
  pub octets : List ℕ
  pub each : IsOctets octets
  pub is : Is octets
  pub spelled : b ≡ bits octets

-- the octets begin with those of some value
pub record Front {V : Type 0} (Is : V → List ℕ → Type 0) (x : List ℕ) : Type 0 where
  pub found : V
  pub front : List ℕ
  pub later : List ℕ
  pub is : Is found front
  pub joined : x ≡ front ++ later

-- octets of one kind, and behind them octets of another
pub record Parts (First Second : List ℕ → Type 0) (o : List ℕ) : Type 0 where
  pub front : List ℕ
  pub back : List ℕ
  pub joined : o ≡ front ++ back
  pub first : First front
  pub second : Second back

-- which octets are a value, how many of x, and the rows that judge x, which begins at the octet `start` of the frame
pub record IsRead {C V : Type 0} (m : Meaning C V) (Is : C → V → List ℕ → Type 0) (size : C → List ℕ → ℕ) (rows : C → (start : ℕ) → List ℕ → List Row) : Type 0 where
  pub stands : (c : C) (v : V) (b : List Bool) → m.stands c v b ↔ Spelled (Is c v) b
  pub refuses : (c : C) (start : ℕ) (x : List ℕ) → IsOctets x → (f : Fault) → m.refuses c (bits x) f ↔ IsFirstFault start (rows c start x) f
  pub passes : (c : C) (start : ℕ) (x : List ℕ) → IsOctets x → (first_failing (rows c start x) ≡ None) ↔ Front (Is c) x
  pub reads : (c : C) (v : V) (o later : List ℕ) → IsOctets (o ++ later) → Is c v o → size c (o ++ later) ≡ length o
  pub places : (c : C) (start : ℕ) (x : List ℕ) (r : RefusalView) → first_failing (rows c start x) ≡ Some r → start ≤ r.at

-- the same of a tail, which has all of x
pub record IsTailRead {C V : Type 0} (m : Meaning C V) (Is : C → V → List ℕ → Type 0) (rows : C → (start : ℕ) → List ℕ → List Row) : Type 0 where
  pub stands : (c : C) (v : V) (b : List Bool) → m.stands c v b ↔ Spelled (Is c v) b
  pub refuses : (c : C) (start : ℕ) (x : List ℕ) → IsOctets x → (f : Fault) → m.refuses c (bits x) f ↔ IsFirstFault start (rows c start x) f
  pub passes : (c : C) (start : ℕ) (x : List ℕ) → IsOctets x → (first_failing (rows c start x) ≡ None) ↔ ((v : V) × Is c v x)
  pub places : (c : C) (start : ℕ) (x : List ℕ) (r : RefusalView) → first_failing (rows c start x) ≡ Some r → start ≤ r.at

-- which octets are a value, and the rows that judge x: what is known of a format and of a tail alike
pub record IsJudged {C V : Type 0} (m : Meaning C V) (Is : C → V → List ℕ → Type 0) (rows : C → (start : ℕ) → List ℕ → List Row) : Type 0 where
  pub stands : (c : C) (v : V) (b : List Bool) → m.stands c v b ↔ Spelled (Is c v) b
  pub refuses : (c : C) (start : ℕ) (x : List ℕ) → IsOctets x → (f : Fault) → m.refuses c (bits x) f ↔ IsFirstFault start (rows c start x) f
  pub places : (c : C) (start : ℕ) (x : List ℕ) (r : RefusalView) → first_failing (rows c start x) ≡ Some r → start ≤ r.at

pub read_judged : {C V : Type 0} {m : Meaning C V} {Is : C → V → List ℕ → Type 0} {size : C → List ℕ → ℕ} {rows : C → (start : ℕ) → List ℕ → List Row} → IsRead m Is size rows → IsJudged m Is rows
read_judged R = record { stands = R.stands; refuses = R.refuses; places = R.places }

pub tail_judged : {C V : Type 0} {m : Meaning C V} {Is : C → V → List ℕ → Type 0} {rows : C → (start : ℕ) → List ℕ → List Row} → IsTailRead m Is rows → IsJudged m Is rows
tail_judged R = record { stands = R.stands; refuses = R.refuses; places = R.places }

-- a layout is read
module _ {C V : Type 0} {m : Meaning C V} {Ok : C → Type 0} {InRange : C → V → Type 0} {octets_of : V → List ℕ} {n : ℕ} {value : (skip : ℕ) → List ℕ → V} {rows : C → (start skip : ℕ) → List ℕ → List Row}
    (L : IsLayout m Ok InRange octets_of n value rows) where
  abbrev IsLaid : C → V → List ℕ → Type 0
  IsLaid c v o = InRange c v × (o ≡ octets_of v)

  from_start : (c : C) (start : ℕ) (x : List ℕ) (f : Fault) → IsFirstFault (start + 0) (rows c start 0 x) f → IsFirstFault start (rows c start 0 x) f
  from_start c start x f h = let e : start + 0 ≡ start = omega arith in subst (λ s. IsFirstFault s (rows c start 0 x) f) e h

  to_start : (c : C) (start : ℕ) (x : List ℕ) (f : Fault) → IsFirstFault start (rows c start 0 x) f → IsFirstFault (start + 0) (rows c start 0 x) f
  to_start c start x f h = let e : start ≡ start + 0 = omega arith in subst (λ s. IsFirstFault s (rows c start 0 x) f) e h

  pub read_layout : IsRead m IsLaid (λ c x. n) (λ c start x. rows c start 0 x)
  read_layout = record {
    stands = λ c v b. (
      λ p. let h = (L.shape.stands c v b).0 p in record { octets = octets_of v; each = L.shape.each c v h.0; is = (h.0, refl); spelled = h.1 },
      λ s. (L.shape.stands c v b).1 (s.is.0, s.spelled ∙ ap bits s.is.1),
    );
    refuses = λ c start x each f. (
      λ p. from_start c start x f ((L.refusals.refuses c start 0 x each f).0 p),
      λ h. (L.refusals.refuses c start 0 x each f).1 (to_start c start x f h),
    );
    passes = λ c start x each. (
      λ h. let p = (L.refusals.passes c start 0 x each).0 h in record { found = p.found; front = octets_of p.found; later = p.later; is = (p.in_range, refl); joined = p.joined },
      λ p. (L.refusals.passes c start 0 x each).1 (record { found = p.found; in_range = p.is.0; later = p.later; joined = p.joined ∙ ap (λ l. l ++ p.later) p.is.1 }),
    );
    reads = λ c v o later each h. sym (ap length h.1 ∙ L.shape.sized c v h.0);
    places = λ c start x r h. omega (arith, L.refusals.places c start 0 x r h);
  }
