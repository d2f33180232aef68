-- Octets and rows of a layout of fixed length, without a context.
use Rattle.std.proofs.Common.{◌≡◌, ℕ, ◌+◌, List, ◌++◌, length, refl, sym, ap, ◌∙◌, subst, arith}
use Rattle.narc_bits.specs.Bits.{bits}
use Rattle.narc_format.specs.Meaning.{Meaning}
use Rattle.narc_format.specs.Rows.{Row}
use Rattle.narc_layout.specs.FirstFault.{IsFirstFault}
use Rattle.narc_layout.proofs.Layouts.{IsLayout}
use Rattle.narc_layout.proofs.ReadLayout.{IsRead}

module _ {V : Type 0} {m : Meaning (Unit {0}) V} {InRange : V → Type 0} {octets_of : V → List ℕ} {n : ℕ} {rows : (start skip : ℕ) → List ℕ → List Row} (L : IsLayout m InRange octets_of n rows) where
  same_start : (start : ℕ) → start + 0 ≡ start
  same_start start = omega arith

  pub plain_read : IsRead m (λ c v o. InRange v × (o ≡ octets_of v)) (λ c x. n) (λ c start x. rows start 0 x)
  plain_read = record {
    stands = λ c v b. (
      λ p. let h = (L.shape.stands v b).0 p in record { octets = octets_of v; each = L.shape.each v h.0; is = (h.0, refl); spelled = h.1 },
      λ s. (L.shape.stands v b).1 (s.is.0, s.spelled ∙ ap bits s.is.1),
    );
    refuses = λ c start x each f. (
      λ p. subst (λ s. IsFirstFault s (rows start 0 x) f) (same_start start) ((L.refusals.refuses start 0 x each f).0 p),
      λ h. (L.refusals.refuses start 0 x each f).1 (subst (λ s. IsFirstFault s (rows start 0 x) f) (sym (same_start start)) h),
    );
    passes = λ c start x each. (
      λ h. let p = (L.refusals.passes start 0 x each).0 h in record { found = p.found; front = octets_of p.found; later = p.later; is = (p.in_range, refl); joined = p.joined },
      λ p. (L.refusals.passes start 0 x each).1 (record { found = p.found; in_range = p.is.0; later = p.later; joined = p.joined ∙ ap (λ l. l ++ p.later) p.is.1 }),
    );
    reads = λ c v o later each h. sym (ap length h.1 ∙ L.shape.sized v h.0);
    places = λ c start x r h. omega (arith, L.refusals.places start 0 x r h);
  }
