-- What holds of each format of whose values some are rejected.
use Rattle.std.proofs.Common.{◌≡◌, ◌≤◌, List, Bool, ◌++◌, length, sym, ap, ◌∙◌, subst, arith, inl, inr}
use Rattle.narc_format.specs.declared.fault.Fault.{Fault}
use Rattle.narc_format.specs.Meaning.{Meaning}
use Rattle.narc_format.specs.Laws.{Laws}
use Rattle.narc_scalar.specs.Rejected.{HasRejected, Rejects}

module _ {V : Type 0} (F : Meaning (Unit {0}) V) (L : Laws F) (s : F.sound) (IsRejected : V → Type 0) where
  -- bits of which a value was read are not refused by the format
  read_and_refused : (b : List Bool) (f : Fault) → HasRejected (F.stands tt) IsRejected b → F.refuses tt b f → ⊥
  read_and_refused b f p q = L.never_both s tt p.found p.used p.later f p.stood (subst (λ l. F.refuses tt l f) p.joined q)

  pub one_fault-rejects : (b : List Bool) (f g : Fault) → Rejects F IsRejected b f → Rejects F IsRejected b g → f ≡ g
  one_fault-rejects b f g (inl p) (inl q) = L.one_fault s tt b f g p q
  one_fault-rejects b f g (inl p) (inr q) = absurd (read_and_refused b f q.0 p)
  one_fault-rejects b f g (inr p) (inl q) = absurd (read_and_refused b g p.0 q)
  one_fault-rejects b f g (inr p) (inr q) = p.1 ∙ sym q.1

  pub within-rejects : (b : List Bool) (f : Fault) → Rejects F IsRejected b f → f.at ≤ length b
  within-rejects b f (inl p) = L.within s tt b f p
  within-rejects b f (inr p) = omega (arith, ap (λ (g : Fault). g.at) p.1)

  -- a value that is not alike to any that is rejected
  pub never_both-rejects : (v : V) (x e : List Bool) (f : Fault) → ((w : V) → F.alike v w → IsRejected w → ⊥) → F.stands tt v x → Rejects F IsRejected (x ++ e) f → ⊥
  never_both-rejects v x e f kept p (inl q) = L.never_both s tt v x e f p q
  never_both-rejects v x e f kept p (inr q) =
      let r = q.0 in
      kept r.found (L.one_reading s tt v r.found x r.used e r.later p r.stood r.joined).1 r.rejected
