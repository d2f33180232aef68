-- The laws of two formats, one behind the other.
use Rattle.std.specs.Prelude.{ℕ, ◌+◌, ◌≡◌, ◌⊎◌, Bool, ◌||◌, List, ◌++◌, length, refl}
use Rattle.std.proofs.Common.{sym, ap, ◌∙◌, subst, arith, inl, inr, length-append, append_assoc}
use Rattle.narc_format.specs.Meaning.{Meaning}
use Rattle.narc_format.specs.Laws.{Laws, Fits, HasFront, IsRefused}
use Rattle.narc_format.specs.Widths.{IsWide}
use Rattle.narc_format.proofs.Widths.{wide-sized}
use Rattle.narc_compose.specs.Seq.{Joined, SeqSound, seq}
use Rattle.narc_compose.specs.Conditions.{and_left, and_right, or_left, or_right}
use Rattle.narc_compose.specs.Cuts.{cut, behind, refused_later, admitted_in_order, spelling_in_order, one_fault_in_order, within_in_order, ready, fits_behind}

module _ {C CA CB VA VB : Type 0} (first : C → CA) (second : C → VA → CB) (valid : C → Type 0) (A : Meaning CA VA) (B : Meaning CB VB) (LA : Laws A) (LB : Laws B) where
  one_in_order : SeqSound first second valid A B → (c : C) (v w : VA × VB) (x y d e : List Bool)
      → Joined (A.stands (first c) v.0) (B.stands (second c v.0) v.1) x → Joined (A.stands (first c) w.0) (B.stands (second c w.0) w.1) y
      → x ++ d ≡ y ++ e → (x ≡ y) × (A.alike v.0 w.0 × B.alike v.1 w.1)
  one_in_order s c v w x y d e p q h =
      let list : p.front ++ (p.back ++ d) ≡ q.front ++ (q.back ++ e) =
      sym (append_assoc p.front p.back d) ∙ ap (λ l. l ++ d) (sym p.joined) ∙ h ∙ ap (λ l. l ++ e) q.joined ∙ append_assoc q.front q.back e in
      let k = cut s.carries LA s.first_sound c v.0 w.0 p.front q.front (p.back ++ d) (q.back ++ e) p.first q.first list in
      let there = subst (λ z. B.stands z w.1 q.back) (sym k.context) q.second in
      let one = LB.one_reading s.second_sound (second c v.0) v.1 w.1 p.back q.back d e p.second there k.back in
      (p.joined ∙ ap (λ l. l ++ p.back) k.front ∙ ap (λ l. q.front ++ l) one.0 ∙ sym q.joined, (k.alike, one.1))

  read_second : SeqSound first second valid A B → (c : C) → valid c → (b : List Bool) → Fits (A.aligned || B.aligned) b → (front : HasFront (A.stands (first c)) b)
      → HasFront (B.stands (second c front.found)) front.later ⊎ IsRefused (B.refuses (second c front.found) front.later)
  read_second s c ok b fits front =
      LB.read_or_refused s.second_sound (second c front.found) (ready s.carries LA s.first_sound c ok front.found front.used front.stood) front.later
      (fits_behind b front.used front.later front.joined fits (or_right A.aligned B.aligned) (λ a. LA.whole_octets s.first_sound (s.meets a) (first c) front.found front.used front.stood))

  read_in_order : SeqSound first second valid A B → (c : C) → valid c → (b : List Bool) → Fits (A.aligned || B.aligned) b
      → HasFront ((seq first second valid A B).stands c) b ⊎ IsRefused ((seq first second valid A B).refuses c b)
  unfolding seq
  read_in_order s c ok b fits = elim (LA.read_or_refused s.first_sound (first c) (s.carries.first_valid c ok) b (record { small = fits.small; octets = λ a. fits.octets (or_left A.aligned B.aligned a) })) [
    | inr r ↦ inr (record { fault = r.fault; refused = inl r.refused })
    | inl front ↦ elim (read_second s c ok b fits front) [
      | inl back ↦ inl (record {
        found = (front.found, back.found);
        used = front.used ++ back.used;
        later = back.later;
        joined = front.joined ∙ ap (λ l. front.used ++ l) back.joined ∙ sym (append_assoc front.used back.used back.later);
        stood = record { front = front.used; back = back.used; joined = refl; first = front.stood; second = back.stood };
      })
      | inr r ↦ inr (refused_later s.carries LA s.first_sound c front.found b front.used front.later front.joined front.stood r)
    ]
  ]

  pub seq_laws : Laws (seq first second valid A B)
  unfolding seq
  seq_laws = record {
    one_reading = one_in_order;
    admitted = λ s c ok v b p. admitted_in_order s.carries LA s.first_sound c (LB.admitted s.second_sound) ok v b p;
    spelling_stands = λ s c ok v a. spelling_in_order s.carries LA s.first_sound c (LB.spelling_stands s.second_sound) v a;
    read_or_refused = read_in_order;
    never_both = λ s c v x e f p q.
        let list = ap (λ l. l ++ e) p.joined ∙ append_assoc p.front p.back e in
        let r = behind s.carries LA s.first_sound c v.0 p.front (p.back ++ e) f p.first (subst (λ l. (seq first second valid A B).refuses c l f) list q) in
        LB.never_both s.second_sound (second c v.0) v.1 p.back e r.inner p.second r.refused;
    one_fault = λ s c. one_fault_in_order s.carries LA s.first_sound c (LB.one_fault s.second_sound);
    within = λ s c. within_in_order s.carries LA s.first_sound c (LB.within s.second_sound);
    whole_octets = λ s w c v b p.
        let front = LA.whole_octets s.first_sound (and_left A.whole B.whole w) (first c) v.0 p.front p.first in
        let back = LB.whole_octets s.second_sound (and_right A.whole B.whole w) (second c v.0) v.1 p.back p.second in
        omega (arith, front, back, ap length p.joined, length-append p.front p.back);
  }

  pub seq_is_wide : (m n : ℕ) → IsWide A m → IsWide B n → IsWide (seq first second valid A B) (m + n)
  unfolding seq
  seq_is_wide m n V W = wide-sized seq_laws (λ s c v b p.
      omega (arith, ap length p.joined, length-append p.front p.back, V.sized s.first_sound (first c) v.0 p.front p.first, W.sized s.second_sound (second c v.0) v.1 p.back p.second))
