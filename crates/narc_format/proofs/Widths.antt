-- Formats whose spellings all have one width.
use Rattle.std.proofs.Common.{◌≡◌, ℕ, Bool, List, length, ap, arith, inl, inr, length-append}
use Rattle.narc_format.specs.Meaning.{Meaning}
use Rattle.narc_format.specs.Laws.{Laws}
use Rattle.narc_format.specs.Widths.{IsWide}

-- fewer bits have no front that stands for a value, so they are refused
pub wide-sized : {C V : Type 0} {m : Meaning C V} {width : ℕ} → Laws m → (m.sound → (c : C) (v : V) (b : List Bool) → m.stands c v b → length b ≡ width) → IsWide m width
wide-sized L sized = record {
  sized = sized;
  refused = λ s c valid b fits h. elim (L.read_or_refused s c valid b fits) [
    | inl front ↦ absurd (omega (arith, h, sized s c front.found front.used front.stood, ap length front.joined, length-append front.used front.later))
    | inr r ↦ r
  ];
}
