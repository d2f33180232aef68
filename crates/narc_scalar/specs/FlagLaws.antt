-- What a flag promises.
use Rattle.std.proofs.Common.{◌≡◌, ◌⊎◌, List, Bool, [], ◌∷◌, ◌++◌, length, refl, sym, ap, ◌∙◌, arith, inl, inr}
use Rattle.narc_bits.proofs.Lists.{append-parts}
use Rattle.narc_format.specs.Faults.{unnamed_fault}
use Rattle.narc_format.specs.declared.fault.Fault.{Fault}
use Rattle.narc_format.specs.Laws.{Laws, HasFront, IsRefused}
use Rattle.narc_format.specs.Widths.{IsWide}
use Rattle.narc_scalar.specs.Flag.{flag}

judged : (b : List Bool) → HasFront (flag.stands tt) b ⊎ IsRefused (flag.refuses tt b)
unfolding flag
judged [] = inr (record { fault = unnamed_fault; refused = (refl, refl) })
judged (v ∷ b) = inl (record { found = v; used = v ∷ []; later = b; joined = refl; stood = refl })

none_left : (b e : List Bool) (v : Bool) → b ≡ v ∷ [] → b ++ e ≡ [] → ⊥
none_left [] e v p q = cc
none_left (w ∷ b) e v p q = cc

one_bit : (x y d e : List Bool) (v w : Bool) → x ≡ v ∷ [] → y ≡ w ∷ [] → x ++ d ≡ y ++ e → (x ≡ y) × (v ≡ w)
one_bit x y d e v w p q h =
    let same = append-parts x y d e h (ap length p ∙ sym (ap length q)) in
    let bits : x ≡ y = same.0 in
    (bits, cc)

no_bit : (b : List Bool) → length b ≡ 0 → b ≡ []
no_bit [] h = refl
no_bit (v ∷ b) h = absurd (omega arith)

pub flag_laws : Laws flag
unfolding flag
flag_laws = record {
  one_reading = λ s c v w x y d e p q h. one_bit x y d e v w p q h;
  admitted = λ s c valid v b p. tt;
  spelling_stands = λ s c valid v a. refl;
  read_or_refused = λ s c valid b fits. judged b;
  never_both = λ s c v x e f p q. none_left x e v p q.0;
  one_fault = λ s c b f g p q. p.1 ∙ sym q.1;
  within = λ s c b f p. omega (arith, ap (λ (g : Fault). g.at) p.1);
  whole_octets = λ s w c v b p. cc;
}

pub flag_is_wide : IsWide flag 1
unfolding flag
flag_is_wide = record {
  sized = λ s c v b p. ap length p;
  refused = λ s c valid b fits h. record { fault = unnamed_fault; refused = (no_bit b (omega arith), refl) };
}
