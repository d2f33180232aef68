-- The first row that fails.
use Rattle.std.proofs.Common.{◌≡◌, ℕ, ◌+◌, ◌⊎◌, ◌↔◌, Bool, true, false, List, [], ◌∷◌, ◌++◌, Option, Some, None, refl, sym, ap, ◌∙◌, subst, arith, inl, inr}
use Rattle.std.specs.Prelude.{if◌then◌else◌}
use Rattle.narc_format.specs.Faults.{fault_at}
use Rattle.narc_format.specs.declared.fault.Fault.{Fault}
use Rattle.narc_format.specs.Rows.{Row, RefusalView, row, first_failing}
use Rattle.narc_layout.specs.FirstFault.{IsFirstFault}

pub record Fails (rows : List Row) : Type 0 where
  pub refusal : RefusalView
  pub first : first_failing rows ≡ Some refusal

-- some row fails, or none
pub judged : (rows : List Row) → Fails rows ⊎ (first_failing rows ≡ None)
judged rows = cases (first_failing rows) refl where
  cases : (o : Option RefusalView) → first_failing rows ≡ o → Fails rows ⊎ (first_failing rows ≡ None)
  cases (Some r) e = inl (record { refusal = r; first = e })
  cases None e = inr e

front_at : (fails : Bool) (x r : RefusalView) (o p : Option RefusalView) → (o ≡ Some r → p ≡ Some r) → (if fails then Some x else o) ≡ Some r → (if fails then Some x else p) ≡ Some r
front_at true x r o p more h = h
front_at false x r o p more h = more h

back_at : (fails : Bool) (x : RefusalView) (o p q : Option RefusalView) → (o ≡ None → p ≡ q) → (if fails then Some x else o) ≡ None → (if fails then Some x else p) ≡ q
back_at true x o p q more h = cc
back_at false x o p q more h = more h

none_at : (fails : Bool) (x : RefusalView) (o p : Option RefusalView) → (p ≡ None → o ≡ None) → (if fails then Some x else p) ≡ None → (if fails then Some x else o) ≡ None
none_at true x o p more h = cc
none_at false x o p more h = more h

-- a row that fails in front comes first
pub first_failing-front : (p q : List Row) (r : RefusalView) → first_failing p ≡ Some r → first_failing (p ++ q) ≡ Some r
first_failing-front [] q r h = cc
first_failing-front (x ∷ p) q r h = front_at x.fails x.refusal r (first_failing p) (first_failing (p ++ q)) (first_failing-front p q r) h

-- where no row in front fails, the others decide
pub first_failing-back : (p q : List Row) → first_failing p ≡ None → first_failing (p ++ q) ≡ first_failing q
first_failing-back [] q h = refl
first_failing-back (x ∷ p) q h = back_at x.fails x.refusal (first_failing p) (first_failing (p ++ q)) (first_failing q) (first_failing-back p q) h

-- where none fails of all, none fails in front
pub first_failing-none : (p q : List Row) → first_failing (p ++ q) ≡ None → first_failing p ≡ None
first_failing-none [] q h = refl
first_failing-none (x ∷ p) q h = none_at x.fails x.refusal (first_failing p) (first_failing (p ++ q)) (first_failing-none p q) h

-- the refusal of a field at a place
abbrev pub told : (field at : ℕ) → Option RefusalView
told field at = Some (record { field = field; at = at })

-- of one row
pub one_row : (field at : ℕ) (fails : Bool) (f : Fault) → ((fails ≡ true) × (f ≡ fault_at field 0)) ↔ IsFirstFault at (row field at fails ∷ []) f
one_row field at fails f = (forth fails, back fails) where
  forth : (fails : Bool) → (fails ≡ true) × (f ≡ fault_at field 0) → IsFirstFault at (row field at fails ∷ []) f
  forth true h = subst (IsFirstFault at (row field at true ∷ [])) (sym h.1) (record { octet = 0; first = ap (told field) (omega arith); place = refl })
  forth false h = cc

  back : (fails : Bool) → IsFirstFault at (row field at fails ∷ []) f → (fails ≡ true) × (f ≡ fault_at field 0)
  back true h =
      let failing : RefusalView = record { field = field; at = at } in
      let found : RefusalView = record { field = f.field; at = at + h.octet } in
      let same : failing ≡ found = cc in
      let start : f.at ≡ 0 = omega (arith, h.place, ap (λ (r : RefusalView). r.at) same) in
      (refl, ap (λ (r : RefusalView). fault_at r.field f.at) (sym same) ∙ ap (fault_at field) start)
  back false h = cc

pub one_row_none : (field at : ℕ) (fails : Bool) → (first_failing (row field at fails ∷ []) ≡ None) ↔ (fails ≡ false)
one_row_none field at true = (λ h. cc, λ h. cc)
one_row_none field at false = (λ h. refl, λ h. refl)
