-- What a format of numbers that have names promises.
use Rattle.std.specs.List.{AllByRecursion}
use Rattle.std.proofs.Common.{◌∷◌, [], if◌then◌else◌, eqb, true, false, ap, ◌∙◌, ◌≡◌, ℕ, ◌<◌, ◌^◌, ◌⊎◌, List, Bool, Option, Some, None, refl, sym, subst, arith, inl, inr}
use Rattle.std.proofs.lemmas.Bool.{cases_lt, eqb-true}
use Rattle.narc_format.specs.Faults.{unnamed_fault}
use Rattle.narc_format.specs.Meaning.{Meaning}
use Rattle.narc_format.specs.Laws.{Laws, HasFront, IsRefused}
use Rattle.narc_format.specs.Widths.{IsWide}
use Rattle.narc_scalar.specs.RejectedLaws.{one_fault-rejects, within-rejects, never_both-rejects}
use Rattle.narc_scalar.specs.Names.{enumerated, IsExact, IsNumberOf, named_in}

-- a table of rows is exact where each row has its value's number, and each value is found by its number
module _ {V : Type 0} (number : V → ℕ) where
  found_at : (row : ℕ × V) (later : Option V) (n : ℕ) (v : V) → number row.1 ≡ row.0 → (later ≡ Some v → number v ≡ n) → (same : Bool) → eqb n row.0 ≡ same → (if same then Some row.1 else later) ≡ Some v → number v ≡ n
  found_at row later n v first rest true h e = let value : row.1 ≡ v = cc in ap number (sym value) ∙ first ∙ sym (eqb-true n row.0 h)
  found_at row later n v first rest false h e = rest e

  found : (rows : List (ℕ × V)) → AllByRecursion (λ row. number row.1 ≡ row.0) rows → (n : ℕ) (v : V) → named_in rows n ≡ Some v → number v ≡ n
  found [] all n v e = cc
  found (row ∷ rows) all n v e = found_at row (named_in rows n) n v all.0 (found rows all.1 n v) (eqb n row.0) refl e

  pub exact_table : (rows : List (ℕ × V)) → AllByRecursion (λ row. number row.1 ≡ row.0) rows → ((v : V) → named_in rows (number v) ≡ Some v) → IsExact (named_in rows) number
  exact_table rows all each n small v = (found rows all n v, λ e. ap (named_in rows) (sym e) ∙ each v)

module _ {V : Type 0} (name : ℕ → Option V) (number : V → ℕ) (exact : IsExact name number) where
  -- one number names at most one value
  one_value : (v w : V) (n : ℕ) → n < 2 ^ 64 → number v ≡ n → number w ≡ n → v ≡ w
  one_value v w n small p q =
      let first : name n ≡ Some v = (exact n small v).1 p in
      let second : name n ≡ Some w = (exact n small w).1 q in
      cc

  -- a number without a name is no value's
  pub no_value : (n : ℕ) → name n ≡ None → (v : V) → IsNumberOf number n v → ⊥
  no_value n none v h = let named : name n ≡ Some v = (exact n h.small v).1 h.is in cc

  module _ (F : Meaning (Unit {0}) ℕ) where
    -- what the format read, the table decides
    judged : (b : List Bool) (r : HasFront (F.stands tt) b) → r.found < 2 ^ 64 → (o : Option V) → name r.found ≡ o → HasFront ((enumerated number F).stands tt) b ⊎ IsRefused ((enumerated number F).refuses tt b)
    unfolding enumerated
    judged b r small (Some v) e =
        let is : number v ≡ r.found = (exact r.found small v).0 e in
        inl (record { found = v; used = r.used; later = r.later; joined = r.joined; stood = subst (λ n. (n < 2 ^ 64) × F.stands tt n r.used) (sym is) (small, r.stood) })
    judged b r small None e = inr (record { fault = unnamed_fault; refused = inr (record { found = r.found; used = r.used; later = r.later; joined = r.joined; stood = r.stood; rejected = no_value r.found e }, refl) })

    judged_any : (b : List Bool) (r : HasFront (F.stands tt) b) → HasFront ((enumerated number F).stands tt) b ⊎ IsRefused ((enumerated number F).refuses tt b)
    unfolding enumerated
    judged_any b r = elim (cases_lt r.found (2 ^ 64)) [
      | inl small ↦ judged b r small (name r.found) refl
      | inr large ↦ inr (record { fault = unnamed_fault; refused = inr (record { found = r.found; used = r.used; later = r.later; joined = r.joined; stood = r.stood; rejected = λ v h. absurd (omega (arith, h.small)) }, refl) })
    ]

    pub enumerated_laws : Laws F → Laws (enumerated number F)
    unfolding enumerated
    enumerated_laws L = record {
      one_reading = λ s c v w x y d e p q h.
          let r = L.one_reading s.format tt (number v) (number w) x y d e p.1 q.1 h in
          (r.0, one_value v w (number w) q.0 (s.same (number v) (number w) r.1) refl);
      admitted = λ s c valid v b p. (p.0, L.admitted s.format tt valid (number v) b p.1);
      spelling_stands = λ s c valid v a. (a.0, L.spelling_stands s.format tt valid (number v) a.1);
      read_or_refused = λ s c valid b fits. elim (L.read_or_refused s.format tt valid b fits) [
        | inl r ↦ judged_any b r
        | inr r ↦ inr (record { fault = r.fault; refused = inl r.refused })
      ];
      never_both = λ s c v x e f p q. never_both-rejects F L s.format (λ n. (w : V) → IsNumberOf number n w → ⊥) (number v) x e f
          (λ n alike none. let same : number v ≡ n = s.same (number v) n alike in none v (record { small = subst (λ k. k < 2 ^ 64) same p.0; is = same })) p.1 q;
      one_fault = λ s c b f g p q. one_fault-rejects F L s.format (λ n. (w : V) → IsNumberOf number n w → ⊥) b f g p q;
      within = λ s c b f p. within-rejects F L s.format (λ n. (w : V) → IsNumberOf number n w → ⊥) b f p;
      whole_octets = λ s whole c v b p. L.whole_octets s.format whole tt (number v) b p.1;
    }

module _ {V : Type 0} (number : V → ℕ) (F : Meaning (Unit {0}) ℕ) where
  pub enumerated_is_wide : (width : ℕ) → IsWide F width → IsWide (enumerated number F) width
  unfolding enumerated
  enumerated_is_wide width W = record {
    sized = λ s c v b p. W.sized s.format tt (number v) b p.1;
    refused = λ s c valid b fits h. let r = W.refused s.format tt valid b fits h in record { fault = r.fault; refused = inl r.refused };
  }
