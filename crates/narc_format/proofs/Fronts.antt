-- The bits that a reading used are the front that it answers.
use Rattle.std.proofs.Common.{◌≡◌, ℕ, length, take, sym, ap, subst, ◌∙◌, arith, length-append}
use Rattle.std.proofs.lemmas.List.{take_at}
use Rattle.narc_bits.specs.Scan.{Scan, bits_left}
use Rattle.narc_format.specs.Meaning.{Meaning}
use Rattle.narc_format.specs.Reading.{Took}
use Rattle.narc_format.specs.Exactness.{ReadsExactly, IsReadAs}
use Rattle.narc_format.specs.Answer.{IsFrontReadAs}
use Rattle.narc_format.proofs.Reading.{place-took}

module _ {C V : Type 0} (m : Meaning C V) (c : C) {old new : Scan} {before after : ℕ} {v : V} where
  pub front_read : ReadsExactly m → (t : Took m c old new before after v) → old.place ≡ 0 → (n : ℕ) → n ≡ new.place
      → IsFrontReadAs m c (bits_left old) (record { value = v; bits = n })
  front_read exact t start n e =
      let size : n ≡ length t.used = omega (arith, place-took t) in
      let used : take n (bits_left old) ≡ t.used = ap (take n) t.joined ∙ take_at t.used t.later n (sym size) in
      record {
        within = omega (arith, ap length t.joined, length-append t.used t.later);
        read = subst (λ b. IsReadAs m c (bits_left old) b v) (sym used) (exact.took c old new before after v t);
      }
