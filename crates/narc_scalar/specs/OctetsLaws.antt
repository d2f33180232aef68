-- What a fixed number of octets promises.
use Rattle.std.proofs.Common.{◌≡◌, ℕ, ◌*◌, ◌≤◌, List, Bool, length, take, drop, refl, sym, ap, ◌∙◌, arith, inl, inr, length-append, length-take, take-append-drop}
use Rattle.std.proofs.lemmas.Bool.{cases_lt}
use Rattle.narc_bits.specs.Bits.{octets_of_bits}
use Rattle.narc_bits.proofs.Lists.{append-parts}
use Rattle.narc_bits.proofs.Numbers.{length-bits}
use Rattle.narc_bits.proofs.Spelled.{bits_same, bits-octets_of_bits, IsOctets-octets_of_bits, length-octets_of_bits}
use Rattle.narc_format.specs.Faults.{unnamed_fault}
use Rattle.narc_format.specs.declared.fault.Fault.{Fault}
use Rattle.narc_format.specs.Laws.{Laws}
use Rattle.narc_format.specs.Widths.{IsWide}
use Rattle.narc_scalar.specs.Octets.{fixed_octets, SpellsOctets}

-- the octets at the front of enough bits
front_octets : (n : ℕ) (b : List Bool) → 8 * n ≤ length b → SpellsOctets n (octets_of_bits n (take (8 * n) b)) (take (8 * n) b)
front_octets n b h = record {
  size = length-octets_of_bits n (take (8 * n) b);
  each = IsOctets-octets_of_bits n (take (8 * n) b);
  is = sym (bits-octets_of_bits n (take (8 * n) b) (omega (arith, length-take (8 * n) b)));
}

pub fixed_octets_laws : (n : ℕ) → Laws (fixed_octets n)
unfolding fixed_octets
fixed_octets_laws n = record {
  one_reading = λ s c v w x y d e p q h.
      let sizes : length x ≡ length y = omega (arith, ap length p.is, ap length q.is, length-bits v, length-bits w, p.size, q.size) in
      let same = append-parts x y d e h sizes in
      (same.0, bits_same v w p.each q.each (sym p.is ∙ same.0 ∙ q.is));
  admitted = λ s c valid v b p. (p.size, p.each);
  spelling_stands = λ s c valid v a. record { size = a.0; each = a.1; is = refl };
  read_or_refused = λ s c valid b fits. elim (cases_lt (length b) (8 * n)) [
    | inl h ↦ inr (record { fault = unnamed_fault; refused = (h, refl) })
    | inr h ↦ inl (record { found = octets_of_bits n (take (8 * n) b); used = take (8 * n) b; later = drop (8 * n) b; joined = sym (take-append-drop (8 * n) b); stood = front_octets n b h })
  ];
  never_both = λ s c v x e f p q. omega (arith, q.0, length-append x e, ap length p.is, length-bits v, p.size);
  one_fault = λ s c b f g p q. p.1 ∙ sym q.1;
  within = λ s c b f p. omega (arith, ap (λ (g : Fault). g.at) p.1);
  whole_octets = λ s w c v b p. omega (arith, ap length p.is, length-bits v, p.size);
}

pub fixed_octets_is_wide : (n : ℕ) → IsWide (fixed_octets n) (8 * n)
unfolding fixed_octets
fixed_octets_is_wide n = record {
  sized = λ s c v b p. omega (arith, ap length p.is, length-bits v, p.size);
  refused = λ s c valid b fits h. record { fault = unnamed_fault; refused = (h, refl) };
}
