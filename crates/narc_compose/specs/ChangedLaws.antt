-- The laws of a format whose faults are told otherwise, from its own.
use Rattle.std.proofs.Common.{◌≡◌, ℕ, ◌≤◌, ◌⊎◌, length, refl, sym, ap, ◌∙◌, arith, inl, inr}
use Rattle.narc_format.specs.declared.fault.Fault.{Fault}
use Rattle.narc_format.specs.Meaning.{Meaning}
use Rattle.narc_format.specs.Laws.{Laws, TailLaws, IsRefused}
use Rattle.narc_compose.specs.Changed.{Changed}

-- a change that leaves the place, or moves it back
module _ (change : Fault → Fault) (back : (f : Fault) → (change f).at ≤ f.at) where
  told : {X : Type 0} {refuses : Fault → Type 0} → X ⊎ IsRefused refuses → X ⊎ IsRefused (Changed change refuses)
  told (inl found) = inl found
  told (inr r) = inr (record { fault = change r.fault; refused = record { inner = r.fault; refused = r.refused; is = refl } })

  one_told : {refuses : Fault → Type 0} → ((f g : Fault) → refuses f → refuses g → f ≡ g) → (f g : Fault) → Changed change refuses f → Changed change refuses g → f ≡ g
  one_told one f g p q = p.is ∙ ap change (one p.inner q.inner p.refused q.refused) ∙ sym q.is

  told_within : {refuses : Fault → Type 0} (n : ℕ) → ((f : Fault) → refuses f → f.at ≤ n) → (f : Fault) → Changed change refuses f → f.at ≤ n
  told_within n within f p = omega (arith, within p.inner p.refused, back p.inner, ap (λ (h : Fault). h.at) p.is)

  module _ {C V : Type 0} {S : Type 0} (F : Meaning C V) (sound : S → F.sound) where
    pub changed_laws : Laws F → Laws (record F { refuses = λ c b f. Changed change (F.refuses c b) f; sound = S })
    changed_laws L = record {
      one_reading = λ s. L.one_reading (sound s);
      admitted = λ s. L.admitted (sound s);
      spelling_stands = λ s. L.spelling_stands (sound s);
      read_or_refused = λ s c ok b fits. told (L.read_or_refused (sound s) c ok b fits);
      never_both = λ s c v x e f p q. L.never_both (sound s) c v x e q.inner p q.refused;
      one_fault = λ s c b. one_told (L.one_fault (sound s) c b);
      within = λ s c b. told_within (length b) (L.within (sound s) c b);
      whole_octets = λ s. L.whole_octets (sound s);
    }

    pub changed_tail_laws : TailLaws F → TailLaws (record F { refuses = λ c b f. Changed change (F.refuses c b) f; sound = S })
    changed_tail_laws L = record {
      one_reading = λ s. L.one_reading (sound s);
      admitted = λ s. L.admitted (sound s);
      spelling_stands = λ s. L.spelling_stands (sound s);
      read_or_refused = λ s c ok b fits. told (L.read_or_refused (sound s) c ok b fits);
      never_both = λ s c v b f p q. L.never_both (sound s) c v b q.inner p q.refused;
      one_fault = λ s c b. one_told (L.one_fault (sound s) c b);
      within = λ s c b. told_within (length b) (L.within (sound s) c b);
    }
