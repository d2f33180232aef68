-- The laws of a format and a tail behind it.
use Rattle.std.specs.Prelude.{◌⊎◌, Bool, true, List, refl}
use Rattle.std.proofs.Common.{sym, ◌∙◌, subst, inl, inr}
use Rattle.narc_format.specs.Meaning.{Meaning}
use Rattle.narc_format.specs.Laws.{Laws, TailLaws, Fits, HasFront, HasValue, IsRefused}
use Rattle.narc_compose.specs.Seq.{Joined, SeqTailSound, seq_tail}
use Rattle.narc_compose.specs.Cuts.{cut, behind, refused_later, admitted_in_order, spelling_in_order, one_fault_in_order, within_in_order, ready, fits_behind}

module _ {C CA CB VA VB : Type 0} (first : C → CA) (second : C → VA → CB) (valid : C → Type 0) (A : Meaning CA VA) (B : Meaning CB VB) (LA : Laws A) (LB : TailLaws B) where
  one_in_order : SeqTailSound first second valid A B → (c : C) (v w : VA × VB) (b : List Bool)
      → Joined (A.stands (first c) v.0) (B.stands (second c v.0) v.1) b → Joined (A.stands (first c) w.0) (B.stands (second c w.0) w.1) b
      → A.alike v.0 w.0 × B.alike v.1 w.1
  one_in_order s c v w b p q =
      let k = cut s.carries LA s.first_sound c v.0 w.0 p.front q.front p.back q.back p.first q.first (sym p.joined ∙ q.joined) in
      let there = subst (λ z. B.stands z w.1 q.back) (sym k.context) q.second in
      (k.alike, LB.one_reading s.second_sound (second c v.0) v.1 w.1 p.back p.second (subst (B.stands (second c v.0) w.1) (sym k.back) there))

  read_second : SeqTailSound first second valid A B → (c : C) → valid c → (b : List Bool) → Fits true b → (front : HasFront (A.stands (first c)) b)
      → HasValue (B.stands (second c front.found)) front.later ⊎ IsRefused (B.refuses (second c front.found) front.later)
  read_second s c ok b fits front =
      LB.read_or_refused s.second_sound (second c front.found) (ready s.carries LA s.first_sound c ok front.found front.used front.stood) front.later
      (fits_behind b front.used front.later front.joined fits (λ a. a) (λ a. LA.whole_octets s.first_sound s.meets (first c) front.found front.used front.stood))

  read_in_order : SeqTailSound first second valid A B → (c : C) → valid c → (b : List Bool) → Fits true b
      → HasValue ((seq_tail first second valid A B).stands c) b ⊎ IsRefused ((seq_tail first second valid A B).refuses c b)
  unfolding seq_tail
  read_in_order s c ok b fits = elim (LA.read_or_refused s.first_sound (first c) (s.carries.first_valid c ok) b (record { small = fits.small; octets = λ a. fits.octets refl })) [
    | inr r ↦ inr (record { fault = r.fault; refused = inl r.refused })
    | inl front ↦ elim (read_second s c ok b fits front) [
      | inl back ↦ inl (record {
        found = (front.found, back.found);
        stood = record { front = front.used; back = front.later; joined = front.joined; first = front.stood; second = back.stood };
      })
      | inr r ↦ inr (refused_later s.carries LA s.first_sound c front.found b front.used front.later front.joined front.stood r)
    ]
  ]

  pub seq_tail_laws : TailLaws (seq_tail first second valid A B)
  unfolding seq_tail
  seq_tail_laws = record {
    one_reading = one_in_order;
    admitted = λ s c ok v b p. admitted_in_order s.carries LA s.first_sound c (LB.admitted s.second_sound) ok v b p;
    spelling_stands = λ s c ok v a. spelling_in_order s.carries LA s.first_sound c (LB.spelling_stands s.second_sound) v a;
    read_or_refused = read_in_order;
    never_both = λ s c v b f p q.
        let r = behind s.carries LA s.first_sound c v.0 p.front p.back f p.first (subst (λ l. (seq_tail first second valid A B).refuses c l f) p.joined q) in
        LB.never_both s.second_sound (second c v.0) v.1 p.back r.inner p.second r.refused;
    one_fault = λ s c. one_fault_in_order s.carries LA s.first_sound c (LB.one_fault s.second_sound);
    within = λ s c. within_in_order s.carries LA s.first_sound c (LB.within s.second_sound);
  }
