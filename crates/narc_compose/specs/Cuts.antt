-- One list, cut behind the first of two parts.
use Rattle.std.specs.Prelude.{◌≡◌, ◌+◌, ◌%◌, ◌≤◌, ◌⊎◌, Bool, List, ◌++◌, length, IsTrue, refl}
use Rattle.std.proofs.Common.{sym, ap, ◌∙◌, subst, arith, inl, inr, length-append}
use Rattle.std.proofs.lemmas.List.{append_cancel_left}
use Rattle.narc_format.specs.Faults.{later_by}
use Rattle.narc_format.specs.declared.fault.Fault.{Fault}
use Rattle.narc_format.specs.Meaning.{Meaning}
use Rattle.narc_format.specs.Laws.{Laws, Fits, IsRefused}
use Rattle.narc_compose.specs.Seq.{Joined, LaterRefused, Carries}

module _ {C CA CB VA VB : Type 0} {first : C → CA} {second : C → VA → CB} {valid : C → Type 0} {A : Meaning CA VA} {B : Meaning CB VB} (carries : Carries first second valid A B) (L : Laws A) (sound : A.sound) (c : C) where
  -- two cuts of one list are the same
  pub record Cut (v w : VA) (x y d e : List Bool) : Type 0 where
    pub front : x ≡ y
    pub back : d ≡ e
    pub alike : A.alike v w
    pub context : second c v ≡ second c w

  pub cut : (v w : VA) (x y d e : List Bool) → A.stands (first c) v x → A.stands (first c) w y → x ++ d ≡ y ++ e → Cut v w x y d e
  cut v w x y d e p q h =
      let one = L.one_reading sound (first c) v w x y d e p q h in
      record { front = one.0; back = append_cancel_left y d e (ap (λ l. l ++ d) (sym one.0) ∙ h); alike = one.1; context = carries.same c v w one.1 }

  -- the refusal of what is behind a front that stands
  pub record Behind (v : VA) (x d : List Bool) (f : Fault) : Type 0 where
    pub inner : Fault
    pub refused : B.refuses (second c v) d inner
    pub moved : f ≡ later_by (length x) inner

  abbrev pub Refusal : List Bool → Fault → Type 0
  Refusal b f = A.refuses (first c) b f ⊎ LaterRefused (A.stands (first c)) (λ v. B.refuses (second c v)) b f

  pub behind : (v : VA) (x d : List Bool) (f : Fault) → A.stands (first c) v x → Refusal (x ++ d) f → Behind v x d f
  behind v x d f p (inl q) = absurd (L.never_both sound (first c) v x d f p q)
  behind v x d f p (inr q) =
      let k = cut v q.value x q.front d q.back p q.first q.joined in
      let here : B.refuses (second c v) q.back q.fault = subst (λ z. B.refuses z q.back q.fault) (sym k.context) q.second in
      record { inner = q.fault; refused = subst (λ l. B.refuses (second c v) l q.fault) (sym k.back) here; moved = q.moved ∙ ap (λ l. later_by (length l) q.fault) (sym k.front) }

  one_later : ((z : CB) (b : List Bool) (f g : Fault) → B.refuses z b f → B.refuses z b g → f ≡ g)
      → (b : List Bool) (f g : Fault) → LaterRefused (A.stands (first c)) (λ v. B.refuses (second c v)) b f → Refusal b g → f ≡ g
  one_later one b f g p q =
      let r = behind p.value p.front p.back g p.first (subst (λ l. Refusal l g) p.joined q) in
      p.moved ∙ ap (later_by (length p.front)) (one (second c p.value) p.back p.fault r.inner p.second r.refused) ∙ sym r.moved

  pub one_fault_in_order : ((z : CB) (b : List Bool) (f g : Fault) → B.refuses z b f → B.refuses z b g → f ≡ g)
      → (b : List Bool) (f g : Fault) → Refusal b f → Refusal b g → f ≡ g
  one_fault_in_order one b f g (inl p) (inl q) = L.one_fault sound (first c) b f g p q
  one_fault_in_order one b f g (inl p) (inr q) = sym (one_later one b g f q (inl p))
  one_fault_in_order one b f g (inr p) q = one_later one b f g p q

  pub within_in_order : ((z : CB) (b : List Bool) (f : Fault) → B.refuses z b f → f.at ≤ length b) → (b : List Bool) (f : Fault) → Refusal b f → f.at ≤ length b
  within_in_order within b f (inl p) = L.within sound (first c) b f p
  within_in_order within b f (inr p) = omega (arith, within (second c p.value) p.back p.fault p.second, ap (λ (h : Fault). h.at) p.moved, ap length p.joined, length-append p.front p.back)

  pub refused_later : (v : VA) (b x d : List Bool) → b ≡ x ++ d → A.stands (first c) v x → IsRefused (B.refuses (second c v) d) → IsRefused (Refusal b)
  refused_later v b x d h p r = record {
    fault = later_by (length x) r.fault;
    refused = inr (record { value = v; front = x; back = d; joined = h; first = p; fault = r.fault; second = r.refused; moved = refl });
  }

  pub admitted_in_order : ((z : CB) → B.valid z → (v : VB) (b : List Bool) → B.stands z v b → B.admits z v)
      → valid c → (v : VA × VB) (b : List Bool) → Joined (A.stands (first c) v.0) (B.stands (second c v.0) v.1) b → valid c × A.admits (first c) v.0 × B.admits (second c v.0) v.1
  admitted_in_order admitted ok v b p =
      let a = L.admitted sound (first c) (carries.first_valid c ok) v.0 p.front p.first in
      (ok, a, admitted (second c v.0) (carries.second_valid c v.0 ok a) v.1 p.back p.second)

  pub spelling_in_order : ((z : CB) → B.valid z → (v : VB) → B.admits z v → B.stands z v (B.spelling z v))
      → (v : VA × VB) → valid c × A.admits (first c) v.0 × B.admits (second c v.0) v.1
      → Joined (A.stands (first c) v.0) (B.stands (second c v.0) v.1) (A.spelling (first c) v.0 ++ B.spelling (second c v.0) v.1)
  spelling_in_order stands v a = record {
    front = A.spelling (first c) v.0;
    back = B.spelling (second c v.0) v.1;
    joined = refl;
    first = L.spelling_stands sound (first c) (carries.first_valid c a.0) v.0 a.1;
    second = stands (second c v.0) (carries.second_valid c v.0 a.0 a.1) v.1 a.2;
  }

  -- what is behind a front that stands is read in a valid context
  pub ready : valid c → (v : VA) (x : List Bool) → A.stands (first c) v x → B.valid (second c v)
  ready ok v x p = carries.second_valid c v ok (L.admitted sound (first c) (carries.first_valid c ok) v x p)

-- what is behind a front of whole octets fits where the list does
pub fits_behind : {whole aligned : Bool} (b x d : List Bool) → b ≡ x ++ d → Fits whole b → (IsTrue aligned → IsTrue whole) → (IsTrue aligned → length x % 8 ≡ 0) → Fits aligned d
fits_behind b x d h fits more used =
    let size : length b ≡ length x + length d = ap length h ∙ length-append x d in
    record {
      small = omega (arith, fits.small, size);
      octets = λ a. let all = fits.octets (more a) in let front = used a in omega (arith, size, front, all);
    }
