-- A reading that is one taking of bits.
use Rattle.std.proofs.Common.{◌≡◌, ℕ, ◌+◌, ◌*◌, ◌≤◌, length, take, drop, sym, ap, ◌∙◌, arith, length-take, take-append-drop}
use Rattle.std.proofs.Math.Nat.{mul-le-mul_right}
use Rattle.narc_bits.specs.Scan.{Scan, bits_left, advance, TakesBits, LacksBits}
use Rattle.narc_format.specs.declared.fault.Fault.{Fault}
use Rattle.narc_format.specs.Meaning.{Meaning}
use Rattle.narc_format.specs.Reading.{Took, Refused}

one_step : (d n before after : ℕ) → 1 ≤ n → after ≡ before + 1 → 2 * after ≤ 2 * before + (2 + d) * n
one_step d n before after some e = let more : 2 * n ≤ (2 + d) * n = mul-le-mul_right n (omega arith) in omega arith

module _ {C V : Type 0} (m : Meaning C V) (c : C) where
  -- the bits that were taken stand for the value
  pub took-takes : (v : V) (n : ℕ) (old new : Scan) (before after number : ℕ) → 1 ≤ n → TakesBits n old new number → after ≡ before + 1
      → m.stands c v (take n (bits_left old)) → Took m c old new before after v
  took-takes v n old new before after number some h e stood =
      let size : length (take n (bits_left old)) ≡ n = omega (arith, length-take n (bits_left old), h.enough) in
      record {
        used = take n (bits_left old);
        later = drop n (bits_left old);
        joined = sym (take-append-drop n (bits_left old));
        stood = stood;
        moved = h.moved ∙ ap (advance old) (sym size);
        cost = one_step m.depth (length (take n (bits_left old))) before after (omega (arith, size)) e;
      }

  -- the bits that were taken are refused
  pub refused-takes : (f : Fault) (n : ℕ) (old new : Scan) (before after number : ℕ) → TakesBits n old new number → after ≡ before + 1
      → m.refuses c (bits_left old) f → Refused m c old new before after f
  refused-takes f n old new before after number h e refused = record { fault = refused; octets = ap (λ (s : Scan). s.octets) h.moved; cost = omega arith }

  -- too few bits are left
  pub refused-lacks : (f : Fault) (n : ℕ) (old new : Scan) (before after : ℕ) → LacksBits n old new → after ≡ before + 1
      → m.refuses c (bits_left old) f → Refused m c old new before after f
  refused-lacks f n old new before after h e refused = record { fault = refused; octets = ap (λ (s : Scan). s.octets) h.stays; cost = omega arith }
