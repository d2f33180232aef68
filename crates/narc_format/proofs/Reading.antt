-- What follows from what a reading did.
use Rattle.std.proofs.Common.{◌≡◌, ℕ, ◌+◌, ◌*◌, ◌≤◌, ◌++◌, length, drop, sym, ap, ◌∙◌, arith, length-append, mul-le-mul_right}
use Rattle.std.proofs.lemmas.List.{drop_at}
use Rattle.narc_bits.specs.Scan.{Scan, bits_left}
use Rattle.narc_bits.proofs.Scans.{bits_left-advance}
use Rattle.narc_format.specs.Meaning.{Meaning}
use Rattle.narc_format.specs.Reading.{Took}

module _ {C V : Type 0} {m : Meaning C V} {c : C} {old new : Scan} {before after : ℕ} {v : V} (t : Took m c old new before after v) where
  -- what is left behind what was read
  pub bits_left-took : bits_left new ≡ t.later
  bits_left-took =
      let size : length t.used ≡ length t.used = omega arith in
      ap bits_left t.moved ∙ bits_left-advance old (length t.used) ∙ ap (drop (length t.used)) t.joined ∙ drop_at t.used t.later (length t.used) size

  -- what was left before, cut at the new place
  pub bits_left-cut : bits_left old ≡ t.used ++ bits_left new
  bits_left-cut = t.joined ∙ ap (λ l. t.used ++ l) (sym bits_left-took)

  pub length-cut : length (bits_left old) ≡ length t.used + length (bits_left new)
  length-cut = ap length bits_left-cut ∙ length-append t.used (bits_left new)

  pub place-took : new.place ≡ old.place + length t.used
  place-took = ap (λ (s : Scan). s.place) t.moved

  pub octets-took : new.octets ≡ old.octets
  octets-took = ap (λ (s : Scan). s.octets) t.moved

-- the cost of n bits, where octets are looked at more often
pub cost_le : (d e n : ℕ) → d ≤ e → (2 + d) * n ≤ (2 + e) * n
cost_le d e n h = mul-le-mul_right n (omega arith)
