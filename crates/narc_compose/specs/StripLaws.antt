-- The laws of a format of raw values that are seen as others.
use Rattle.std.specs.Prelude.{ℕ, refl}
use Rattle.std.proofs.Common.{subst, inl, inr}
use Rattle.narc_format.specs.Meaning.{Meaning}
use Rattle.narc_format.specs.Laws.{Laws, TailLaws}
use Rattle.narc_format.specs.Widths.{IsWide}
use Rattle.narc_format.specs.Holes.{IsHoled}
use Rattle.narc_format.proofs.Widths.{wide-sized}
use Rattle.narc_compose.specs.Strip.{Raw, Chosen, StripSound, stripped}

module _ {C W V : Type 0} (strip : W → V) (choose : C → V → W) (alike : V → V → Type 0) (F : Meaning C W) where
  alike_seen : StripSound strip choose alike F → {v w : V} {P Q : W → Type 0} (p : Raw strip P v) (q : Raw strip Q w) → F.alike p.raw q.raw → alike v w
  alike_seen s {v = v} {w = w} p q a = subst (λ z. alike z w) p.is (subst (alike (strip p.raw)) q.is (s.same p.raw q.raw a))

  admitted_seen : StripSound strip choose alike F → (c : C) → F.valid c → {v : V} {P : W → Type 0} (p : Raw strip P v) → F.admits c p.raw → Chosen strip choose alike F c v
  admitted_seen s c ok p a = subst (Chosen strip choose alike F c) p.is (s.chosen c ok p.raw a)

  pub stripped_laws : Laws F → Laws (stripped strip choose alike F)
  unfolding stripped
  stripped_laws L = record {
    one_reading = λ s c v w x y d e p q h. let one = L.one_reading s.part_sound c p.raw q.raw x y d e p.holds q.holds h in (one.0, alike_seen s p q one.1);
    admitted = λ s c ok v b p. admitted_seen s c ok p (L.admitted s.part_sound c ok p.raw b p.holds);
    spelling_stands = λ s c ok v k. record { raw = choose c v; holds = L.spelling_stands s.part_sound c ok (choose c v) k.admitted; is = k.back };
    read_or_refused = λ s c ok b fits. elim (L.read_or_refused s.part_sound c ok b fits) [
      | inl front ↦ inl (record { found = strip front.found; used = front.used; later = front.later; joined = front.joined; stood = record { raw = front.found; holds = front.stood; is = refl } })
      | inr r ↦ inr r
    ];
    never_both = λ s c v x e f p q. L.never_both s.part_sound c p.raw x e f p.holds q;
    one_fault = λ s. L.one_fault s.part_sound;
    within = λ s. L.within s.part_sound;
    whole_octets = λ s w c v b p. L.whole_octets s.part_sound w c p.raw b p.holds;
  }

  pub stripped_tail_laws : TailLaws F → TailLaws (stripped strip choose alike F)
  unfolding stripped
  stripped_tail_laws L = record {
    one_reading = λ s c v w b p q. alike_seen s p q (L.one_reading s.part_sound c p.raw q.raw b p.holds q.holds);
    admitted = λ s c ok v b p. admitted_seen s c ok p (L.admitted s.part_sound c ok p.raw b p.holds);
    spelling_stands = λ s c ok v k. record { raw = choose c v; holds = L.spelling_stands s.part_sound c ok (choose c v) k.admitted; is = k.back };
    read_or_refused = λ s c ok b fits. elim (L.read_or_refused s.part_sound c ok b fits) [
      | inl all ↦ inl (record { found = strip all.found; stood = record { raw = all.found; holds = all.stood; is = refl } })
      | inr r ↦ inr r
    ];
    never_both = λ s c v b f p q. L.never_both s.part_sound c p.raw b f p.holds q;
    one_fault = λ s. L.one_fault s.part_sound;
    within = λ s. L.within s.part_sound;
  }

  pub stripped_is_wide : (width : ℕ) → Laws F → IsWide F width → IsWide (stripped strip choose alike F) width
  unfolding stripped
  stripped_is_wide width L W = wide-sized (stripped_laws L) (λ s c v b p. W.sized s.part_sound c p.raw b p.holds)

  pub stripped_is_holed : (hole : ℕ) → IsHoled F hole → IsHoled (stripped strip choose alike F) hole
  unfolding stripped
  stripped_is_holed hole H = record {
    inside = λ s c v b p. H.inside s.part_sound c p.raw b p.holds;
    free = λ s c v b word p size. record { raw = p.raw; holds = H.free s.part_sound c p.raw b word p.holds size; is = p.is };
  }
