-- Tests and rows that judge alike, and what they say of a tail.
use Rattle.std.proofs.Common.{◌≡◌, ℕ, ◌+◌, ◌≤◌, ◌↔◌, Bool, true, false, not, ◌&&◌, ◌||◌, List, ◌∷◌, length, drop, refl, sym, ap, ◌∙◌, subst, arith, length-drop}
use Rattle.std.proofs.lemmas.Bool.{lt-ltb, ltb-true}
use Rattle.narc_bits.specs.Octets.{IsOctets, is_shorter}
use Rattle.narc_bits.specs.Bits.{bits}
use Rattle.narc_bits.proofs.Spelled.{bits_same}
use Rattle.narc_format.specs.declared.fault.Fault.{Fault}
use Rattle.narc_format.specs.Meaning.{Meaning}
use Rattle.narc_format.specs.Rows.{Row, row, first_failing}
use Rattle.narc_layout.specs.FirstFault.{IsFirstFault}
use Rattle.narc_layout.proofs.ReadLayout.{IsTailRead}

-- tests that hold together are the same
pub same_test : (a b : Bool) → (a ≡ true → b ≡ true) → (b ≡ true → a ≡ true) → a ≡ b
same_test true b h k = sym (h refl)
same_test false true h k = k refl
same_test false false h k = refl

pub same_fail : (a b : Bool) → (a ≡ false → b ≡ false) → (b ≡ false → a ≡ false) → a ≡ b
same_fail false b h k = sym (h refl)
same_fail true false h k = k refl
same_fail true true h k = refl

-- what is behind k octets has fewer than m
pub shorter-drop : (k m : ℕ) (x : List ℕ) → 1 ≤ m → is_shorter (drop k x) m ≡ is_shorter x (k + m)
shorter-drop k m x some =
    same_test (is_shorter (drop k x) m) (is_shorter x (k + m)) (λ h. lt-ltb (length x) (k + m) (omega (arith, ltb-true (length (drop k x)) m h, length-drop k x)))
    (λ h. lt-ltb (length (drop k x)) m (omega (arith, some, ltb-true (length x) (k + m) h, length-drop k x)))

pub or_assoc : (a b c : Bool) → (a || (b || c)) ≡ ((a || b) || c)
or_assoc true b c = refl
or_assoc false b c = refl

pub not_true : (a : Bool) → not a ≡ true → a ≡ false
not_true true h = cc
not_true false h = refl

pub not_and : (a b : Bool) → not (a && b) ≡ (not a || not b)
not_and true b = refl
not_and false b = refl

pub not_or : (a b : Bool) → not (a || b) ≡ (not a && not b)
not_or true b = refl
not_or false b = refl

pub not_not : (a : Bool) → not (not a) ≡ a
not_not true = refl
not_not false = refl

-- a row that judges as another, in front of rows that judge alike where it passes
pub row_same : (name p q : ℕ) (a b : Bool) (rows others : List Row) → p ≡ q → a ≡ b → (b ≡ false → first_failing rows ≡ first_failing others) → first_failing (row name p a ∷ rows) ≡ first_failing (row name q b ∷ others)
row_same name p q a b rows others place same rest = ap (λ k. first_failing (row name k a ∷ rows)) place ∙ ap (λ t. first_failing (row name q t ∷ rows)) same ∙ behind b rest where
  behind : (t : Bool) → (t ≡ false → first_failing rows ≡ first_failing others) → first_failing (row name q t ∷ rows) ≡ first_failing (row name q t ∷ others)
  behind true rest = refl
  behind false rest = rest refl

-- a row that passes
pub row_passes : (name p : ℕ) (a : Bool) (rows : List Row) → a ≡ false → first_failing (row name p a ∷ rows) ≡ first_failing rows
row_passes name p true rows h = cc
row_passes name p false rows h = refl

-- rows that judge alike refuse with the same fault
pub fault_same : (start : ℕ) (rows others : List Row) (f : Fault) → first_failing rows ≡ first_failing others → IsFirstFault start rows f → IsFirstFault start others f
fault_same start rows others f same h = record { octet = h.octet; first = sym same ∙ h.first; place = h.place }

-- octets of a tail are judged by rows that judge as its own
pub refused_by : {C V : Type 0} {m : Meaning C V} {Is : C → V → List ℕ → Type 0} {rows : C → (start : ℕ) → List ℕ → List Row} → IsTailRead m Is rows → (c : C) (start : ℕ) (x : List ℕ) → IsOctets x
    → (others : List Row) → first_failing (rows c start x) ≡ first_failing others → (f : Fault) → m.refuses c (bits x) f ↔ IsFirstFault start others f
refused_by {rows = rows} R c start x each others same f = (
  λ p. fault_same start (rows c start x) others f same ((R.refuses c start x each f).0 p),
  λ h. (R.refuses c start x each f).1 (fault_same start others (rows c start x) f (sym same) h),
)

-- octets of a tail stand where they are a value's
pub stands_as : {C V : Type 0} {m : Meaning C V} {Is : C → V → List ℕ → Type 0} {rows : C → (start : ℕ) → List ℕ → List Row} → IsTailRead m Is rows → (c : C) (v : V) (o : List ℕ) → IsOctets o → m.stands c v (bits o) ↔ Is c v o
stands_as {Is = Is} R c v o each = (
  λ p. let s = (R.stands c v (bits o)).0 p in subst (Is c v) (bits_same s.octets o s.each each (sym s.spelled)) s.is,
  λ h. (R.stands c v (bits o)).1 (record { octets = o; each = each; is = h; spelled = refl }),
)
