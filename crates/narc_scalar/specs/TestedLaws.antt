-- What a tested format promises.
use Rattle.std.proofs.Common.{◌≡◌, ℕ, ◌⊎◌, List, Bool, true, false, refl, inl, inr}
use Rattle.narc_format.specs.Faults.{unnamed_fault}
use Rattle.narc_format.specs.Meaning.{Meaning}
use Rattle.narc_format.specs.Laws.{Laws, HasFront, IsRefused}
use Rattle.narc_format.specs.Widths.{IsWide}
use Rattle.narc_scalar.specs.RejectedLaws.{one_fault-rejects, within-rejects, never_both-rejects}
use Rattle.narc_scalar.specs.Tested.{tested}

module _ {C V : Type 0} (holds : C → V → Bool) (F : Meaning (Unit {0}) V) where
  -- what the format read, the test decides
  judged : (c : C) (b : List Bool) (r : HasFront (F.stands tt) b) (passes : Bool) → holds c r.found ≡ passes → HasFront ((tested holds F).stands c) b ⊎ IsRefused ((tested holds F).refuses c b)
  unfolding tested
  judged c b r true e = inl (record { found = r.found; used = r.used; later = r.later; joined = r.joined; stood = (r.stood, e) })
  judged c b r false e = inr (record { fault = unnamed_fault; refused = inr (record { found = r.found; used = r.used; later = r.later; joined = r.joined; stood = r.stood; rejected = e }, refl) })

  pub tested_laws : Laws F → Laws (tested holds F)
  unfolding tested
  tested_laws L = record {
    one_reading = λ s c v w x y d e p q h. L.one_reading s.format tt v w x y d e p.0 q.0 h;
    admitted = λ s c valid v b p. (L.admitted s.format tt valid v b p.0, p.1);
    spelling_stands = λ s c valid v a. (L.spelling_stands s.format tt valid v a.0, a.1);
    read_or_refused = λ s c valid b fits. elim (L.read_or_refused s.format tt valid b fits) [
      | inl r ↦ judged c b r (holds c r.found) refl
      | inr r ↦ inr (record { fault = r.fault; refused = inl r.refused })
    ];
    never_both = λ s c v x e f p q. never_both-rejects F L s.format (λ w. holds c w ≡ false) v x e f (λ w same fails. cc (s.steady c v w same, fails, p.1)) p.0 q;
    one_fault = λ s c b f g p q. one_fault-rejects F L s.format (λ w. holds c w ≡ false) b f g p q;
    within = λ s c b f p. within-rejects F L s.format (λ w. holds c w ≡ false) b f p;
    whole_octets = λ s whole c v b p. L.whole_octets s.format whole tt v b p.0;
  }

  pub tested_is_wide : (width : ℕ) → IsWide F width → IsWide (tested holds F) width
  unfolding tested
  tested_is_wide width W = record {
    sized = λ s c v b p. W.sized s.format tt v b p.0;
    refused = λ s c valid b fits h. let r = W.refused s.format tt valid b fits h in record { fault = r.fault; refused = inl r.refused };
  }
