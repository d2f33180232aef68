use Rattle.std.proofs.Common.{◌≡◌, ℕ, ◌++◌, ◌∷◌, true, sym, ap, ◌∙◌, arith}
use Rattle.narc_rules.specs.Bits.{bits_of_number}
use Rattle.narc_rules.specs.Strip.{stripped}
use Rattle.narc_rules.proofs.BitLayouts.{word_spelled, constant_spelled, named_spelled, then_spelled}
use Rattle.narc_examples.proofs.vxlan.vxlan_is_its_bits.Goals as goal

pub returns : goal.returns
unfolding stripped bits_of_number
returns c = λ header b.
    let behind = then_spelled (word_spelled 3) (then_spelled (word_spelled 24) (then_spelled (named_spelled (word_spelled 24) 2) (word_spelled 8))) in
    let raw = then_spelled (word_spelled 4) (then_spelled (named_spelled (constant_spelled 1 1) 1) behind) in (
      λ p.
          let r = p.raw in
          let h = (raw.stands r b).0 p.holds in
          let vni : header.vni ≡ r.1.1.1.1.0 = omega (arith, ap (λ v. v.vni) p.is, h.0.1.1.1.1.0) in
          record {
            front = r.0;
            flags = r.1.1.0;
            reserved = r.1.1.1.0;
            last = r.1.1.1.1.1;
            spelled = h.1 ∙ ap (λ n. bits_of_number 4 r.0 ++ (true ∷ bits_of_number 3 r.1.1.0 ++ (bits_of_number 24 r.1.1.1.0 ++ (bits_of_number 24 n ++ bits_of_number 8 r.1.1.1.1.1)))) (sym vni);
            front_range = h.0.0;
            flags_range = h.0.1.1.0;
            reserved_range = h.0.1.1.1.0;
            last_range = h.0.1.1.1.1.1;
            vni_range = omega (arith, vni, h.0.1.1.1.1.0);
          },
      λ p.
          let r : ℕ × (Unit {0} × (ℕ × (ℕ × (ℕ × ℕ)))) = (p.front, (tt, (p.flags, (p.reserved, (header.vni, p.last))))) in
          record {
            raw = r;
            holds = (raw.stands r b).1 ((p.front_range, (tt, (p.flags_range, (p.reserved_range, (p.vni_range, p.last_range))))), p.spelled);
            is = ap (λ n. record { vni = n }) (omega (arith, p.vni_range));
          },
    )
