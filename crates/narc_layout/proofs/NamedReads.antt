-- Octets and rows of a name.
use Rattle.std.proofs.Common.{◌≡◌, ℕ, ◌+◌, ◌≤◌, ◌↔◌, Bool, true, false, List, [], ◌∷◌, map, nat_eq, if◌then◌else◌, Option, Some, None, refl, sym, ap, ◌∙◌, arith}
use Rattle.narc_bits.specs.Bits.{bits}
use Rattle.narc_format.specs.Faults.{fault_at, named_by}
use Rattle.narc_format.specs.declared.fault.Fault.{Fault}
use Rattle.narc_format.specs.Meaning.{Meaning}
use Rattle.narc_compose.specs.Changed.{Changed}
use Rattle.narc_compose.specs.Named.{named}
use Rattle.narc_format.specs.Rows.{Row, RefusalView, first_failing}
use Rattle.narc_layout.specs.FirstFault.{IsFirstFault}
use Rattle.narc_layout.proofs.Rows.{told}
use Rattle.narc_layout.proofs.ReadLayout.{IsRead, IsTailRead}

-- rows whose unnamed refusals get a field
abbrev pub renamed : (field : ℕ) → RefusalView → RefusalView
renamed field r = record { field = if nat_eq r.field 0 then field else r.field; at = r.at }

abbrev pub rename : (field : ℕ) → List Row → List Row
rename field rows = map (λ (r : Row). record { refusal = renamed field r.refusal; fails = r.fails }) rows

abbrev pub renamed_option : (field : ℕ) → Option RefusalView → Option RefusalView
renamed_option field None = None
renamed_option field (Some r) = Some (renamed field r)

if_renamed : (field : ℕ) (t : Bool) (r : RefusalView) (o p : Option RefusalView) → p ≡ renamed_option field o → (if t then Some (renamed field r) else p) ≡ renamed_option field (if t then Some r else o)
if_renamed field true r o p h = refl
if_renamed field false r o p h = h

pub first_failing-rename : (field : ℕ) (rows : List Row) → first_failing (rename field rows) ≡ renamed_option field (first_failing rows)
first_failing-rename field [] = refl
first_failing-rename field (r ∷ rows) = if_renamed field r.fails r.refusal (first_failing rows) (first_failing (rename field rows)) (first_failing-rename field rows)

none_renamed : (field : ℕ) (o : Option RefusalView) → renamed_option field o ≡ None → o ≡ None
none_renamed field None h = refl
none_renamed field (Some r) h = cc

some_renamed : (field : ℕ) (o : Option RefusalView) (r : RefusalView) → renamed_option field o ≡ Some r → (s : RefusalView) × (o ≡ Some s) × (renamed field s ≡ r)
some_renamed field None r h = cc
some_renamed field (Some s) r h = (s, refl, (let same : renamed field s ≡ r = cc in same))

module _ (field : ℕ) (rows : List Row) where
  pub rename_none : (first_failing (rename field rows) ≡ None) ↔ (first_failing rows ≡ None)
  rename_none = (
    λ h. none_renamed field (first_failing rows) (sym (first_failing-rename field rows) ∙ h),
    λ h. first_failing-rename field rows ∙ ap (renamed_option field) h,
  )

  pub rename_place : (start : ℕ) → ((r : RefusalView) → first_failing rows ≡ Some r → start ≤ r.at) → (r : RefusalView) → first_failing (rename field rows) ≡ Some r → start ≤ r.at
  rename_place start places r h =
      let s = some_renamed field (first_failing rows) r (sym (first_failing-rename field rows) ∙ h) in
      omega (arith, places s.0 s.1, ap (λ (q : RefusalView). q.at) s.2)

  pub rename_fault : (start : ℕ) (refuses : Fault → Type 0) → ((f : Fault) → refuses f ↔ IsFirstFault start rows f) → (f : Fault) → Changed (named_by field) refuses f ↔ IsFirstFault start (rename field rows) f
  rename_fault start refuses judged_by f = (
    λ p.
        let h = (judged_by p.inner).0 p.refused in
        record {
          octet = h.octet;
          first = first_failing-rename field rows ∙ ap (renamed_option field) h.first ∙ ap (λ n. told n (start + h.octet)) (sym (ap (λ (g : Fault). g.field) p.is));
          place = ap (λ (g : Fault). g.at) p.is ∙ h.place;
        },
    λ h.
        let s = some_renamed field (first_failing rows) (record { field = f.field; at = start + h.octet }) (sym (first_failing-rename field rows) ∙ h.first) in
        let at_is : s.0.at ≡ start + h.octet = ap (λ (q : RefusalView). q.at) s.2 in
        record {
          inner = fault_at s.0.field f.at;
          refused = (judged_by (fault_at s.0.field f.at)).1 (record { octet = h.octet; first = s.1 ∙ ap (told s.0.field) at_is; place = h.place });
          is = ap (λ n. fault_at n f.at) (sym (ap (λ (q : RefusalView). q.field) s.2));
        },
  )

pub named_read : {C V : Type 0} {F : Meaning C V} {Is : C → V → List ℕ → Type 0} {size : C → List ℕ → ℕ} {rows : C → (start : ℕ) → List ℕ → List Row} (field : ℕ) → IsRead F Is size rows → IsRead (named field F) Is size (λ c start x. rename field (rows c start x))
unfolding named
named_read {F = F} {rows = rows} field R = record {
  stands = R.stands;
  refuses = λ c start x each f. rename_fault field (rows c start x) start (F.refuses c (bits x)) (R.refuses c start x each) f;
  passes = λ c start x each. (λ h. (R.passes c start x each).0 ((rename_none field (rows c start x)).0 h), λ p. (rename_none field (rows c start x)).1 ((R.passes c start x each).1 p));
  reads = R.reads;
  places = λ c start x. rename_place field (rows c start x) start (R.places c start x);
}

pub named_tail_read : {C V : Type 0} {F : Meaning C V} {Is : C → V → List ℕ → Type 0} {rows : C → (start : ℕ) → List ℕ → List Row} (field : ℕ) → IsTailRead F Is rows → IsTailRead (named field F) Is (λ c start x. rename field (rows c start x))
unfolding named
named_tail_read {F = F} {rows = rows} field R = record {
  stands = R.stands;
  refuses = λ c start x each f. rename_fault field (rows c start x) start (F.refuses c (bits x)) (R.refuses c start x each) f;
  passes = λ c start x each. (λ h. (R.passes c start x each).0 ((rename_none field (rows c start x)).0 h), λ p. (rename_none field (rows c start x)).1 ((R.passes c start x each).1 p));
  places = λ c start x. rename_place field (rows c start x) start (R.places c start x);
}
