-- The layout of a single field, with its name or without one (field 0), in a context.
use Rattle.std.proofs.Common.{◌≡◌, ℕ, ◌+◌, ◌≤◌, ◌↔◌, Bool, true, false, List, [], ◌∷◌, ◌++◌, drop, Some, None, refl, ap, ◌∙◌, arith}
use Rattle.narc_bits.specs.Octets.{IsOctets}
use Rattle.narc_bits.specs.Bits.{bits}
use Rattle.narc_format.specs.Faults.{named_by, unnamed_fault}
use Rattle.narc_format.specs.declared.fault.Fault.{Fault}
use Rattle.narc_format.specs.declared.field.TheConstants.{LAST}
use Rattle.narc_format.specs.Meaning.{Meaning}
use Rattle.narc_compose.specs.Named.{named}
use Rattle.narc_compose.specs.NamedLaws.{named_laws}
use Rattle.narc_format.specs.Rows.{Row, RefusalView, row, first_failing}
use Rattle.narc_layout.specs.FirstFault.{IsFirstFault}
use Rattle.narc_layout.proofs.Layouts.{Begins}
use Rattle.narc_layout.proofs.Rows.{one_row, one_row_none}
use Rattle.narc_layout.proofs.ContextLayouts.{IsShaped, IsLayout}

-- it is refused, without a name, exactly where a test of what is behind `skip` octets of x fails
pub record IsUnnamed {C V : Type 0} (m : Meaning C V) (InRange : C → V → Type 0) (octets_of : V → List ℕ) (value : (skip : ℕ) → List ℕ → V) (fails : C → (skip : ℕ) → List ℕ → Bool) : Type 0 where
  pub refuses : (c : C) (skip : ℕ) (x : List ℕ) → IsOctets x → (f : Fault) → m.refuses c (bits (drop skip x)) f ↔ ((fails c skip x ≡ true) × (f ≡ unnamed_fault))
  pub passes : (c : C) (skip : ℕ) (x : List ℕ) → IsOctets x → (fails c skip x ≡ false) ↔ Begins (InRange c) octets_of (drop skip x)
  pub reads : (c : C) (skip : ℕ) (x : List ℕ) (v : V) (later : List ℕ) → InRange c v → drop skip x ≡ octets_of v ++ later → value skip x ≡ v

place_of : (field at : ℕ) (t : Bool) (r : RefusalView) → first_failing (row field at t ∷ []) ≡ Some r → at ≤ r.at
place_of field at true r h = let failing : RefusalView = record { field = field; at = at } in let same : failing ≡ r = cc in omega (arith, ap (λ (q : RefusalView). q.at) same)
place_of field at false r h = cc

module _ {C V : Type 0} {m : Meaning C V} {Ok : C → Type 0} {InRange : C → V → Type 0} {octets_of : V → List ℕ} {size : ℕ} {value : (skip : ℕ) → List ℕ → V} {fails : C → (skip : ℕ) → List ℕ → Bool}
    (S : IsShaped m Ok InRange octets_of size) (U : IsUnnamed m InRange octets_of value fails) where
  abbrev one : (field : ℕ) → C → (start skip : ℕ) → List ℕ → List Row
  one field c start skip x = row field (start + skip) (fails c skip x) ∷ []

  passes_one : (field : ℕ) (c : C) (start skip : ℕ) (x : List ℕ) → IsOctets x → (first_failing (one field c start skip x) ≡ None) ↔ Begins (InRange c) octets_of (drop skip x)
  passes_one field c start skip x each = (
    λ h. (U.passes c skip x each).0 ((one_row_none field (start + skip) (fails c skip x)).0 h),
    λ p. (one_row_none field (start + skip) (fails c skip x)).1 ((U.passes c skip x each).1 p),
  )

  pub unnamed_layout : IsLayout m Ok InRange octets_of size value (one 0)
  unnamed_layout = record {
    shape = S;
    refusals = record {
      refuses = λ c start skip x each f. (
        λ p. (one_row 0 (start + skip) (fails c skip x) f).0 ((U.refuses c skip x each f).0 p),
        λ h. (U.refuses c skip x each f).1 ((one_row 0 (start + skip) (fails c skip x) f).1 h),
      );
      passes = passes_one 0;
      places = λ c start skip x. place_of 0 (start + skip) (fails c skip x);
      reads = U.reads;
    };
  }

  module _ (field : ℕ) (some : 1 ≤ field) (known : field ≤ LAST) where
    shape_named : IsShaped (named field m) Ok InRange octets_of size
    unfolding named
    shape_named = record {
      laws = named_laws field m S.laws;
      sound = record { part_sound = S.sound; some = some; known = known };
      valid = S.valid;
      whole = S.whole;
      depth = S.depth;
      alike = S.alike;
      admits = S.admits;
      stands = S.stands;
      sized = S.sized;
      each = S.each;
    }

    refuses_named : (c : C) (start skip : ℕ) (x : List ℕ) → IsOctets x → (f : Fault) → (named field m).refuses c (bits (drop skip x)) f ↔ IsFirstFault (start + skip) (one field c start skip x) f
    unfolding named
    refuses_named c start skip x each f = (
      λ p. let h = (U.refuses c skip x each p.inner).0 p.refused in (one_row field (start + skip) (fails c skip x) f).0 (h.0, p.is ∙ ap (named_by field) h.1),
      λ h. let p = (one_row field (start + skip) (fails c skip x) f).1 h in record { inner = unnamed_fault; refused = (U.refuses c skip x each unnamed_fault).1 (p.0, refl); is = p.1 },
    )

    pub named_layout : IsLayout (named field m) Ok InRange octets_of size value (one field)
    named_layout = record { shape = shape_named; refusals = record { refuses = refuses_named; passes = passes_one field; places = λ c start skip x. place_of field (start + skip) (fails c skip x); reads = U.reads } }
