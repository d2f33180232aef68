-- Octets and rows of a layout that passes a test in a context. (General: for a crate below.)
use Rattle.std.proofs.Common.{◌≡◌, ℕ, ◌+◌, ◌/◌, Bool, not, List, [], ◌∷◌, ◌++◌, length, take, IsTrue, sym, ap, ◌∙◌, arith, inl, inr, append-nil}
use Rattle.narc_bits.specs.Octets.{IsOctets}
use Rattle.narc_bits.specs.Bits.{bits, octets_of_bits}
use Rattle.narc_bits.proofs.Numbers.{length-bits}
use Rattle.narc_bits.proofs.Spelled.{bits_same, bits-octets_of_bits, IsOctets-octets_of_bits}
use Rattle.narc_format.specs.Meaning.{Meaning}
use Rattle.narc_scalar.specs.Tested.{tested}
use Rattle.narc_format.specs.Rows.{Row, row}
use Rattle.narc_layout.proofs.ContextLayouts.{IsLayout}
use Rattle.narc_layout.proofs.ReadLayout.{IsRead, read_layout}
use Rattle.narc_layout.proofs.RuleReads.{sealed_read}

pub octets_again : (o : List ℕ) → IsOctets o → octets_of_bits (length (bits o) / 8) (bits o) ≡ o
octets_again o each =
    let n = length (bits o) / 8 in
    bits_same (octets_of_bits n (bits o)) o (IsOctets-octets_of_bits n (bits o)) each (bits-octets_of_bits n (bits o) (omega (arith, length-bits o)))

module _ {C V : Type 0} {F : Meaning (Unit {0}) V} {Ok : Unit {0} → Type 0} {InRange : Unit {0} → V → Type 0} {octets_of : V → List ℕ} {n : ℕ} {value : (skip : ℕ) → List ℕ → V} {rows : Unit {0} → (start skip : ℕ) → List ℕ → List Row}
    (holds : C → V → Bool) (L : IsLayout F Ok InRange octets_of n value rows) where
  -- F in any context
  abbrev anywhere : Meaning C V
  anywhere = record {
    stands = λ c. F.stands tt;
    refuses = λ c. F.refuses tt;
    admits = λ c. F.admits tt;
    spelling = λ c. F.spelling tt;
    alike = F.alike;
    valid = λ c. F.valid tt;
    sound = F.sound;
    depth = F.depth;
    whole = F.whole;
    aligned = F.aligned;
  }

  abbrev IsLaid : C → V → List ℕ → Type 0
  IsLaid c v o = InRange tt v × (o ≡ octets_of v)

  laid_read : IsRead anywhere IsLaid (λ c x. n) (λ c start x. rows tt start 0 x)
  laid_read =
      let R = read_layout L in
      record { stands = λ c. R.stands tt; refuses = λ c. R.refuses tt; passes = λ c. R.passes tt; reads = λ c. R.reads tt; places = λ c. R.places tt }

  abbrev accepts : C → List Bool → Bool
  accepts c b = holds c (value 0 (octets_of_bits (length b / 8) b))

  abbrev passes_test : C → List ℕ → Bool
  passes_test c o = holds c (value 0 o)

  accepts_octets : (c : C) (o : List ℕ) → IsOctets o → accepts c (bits o) ≡ passes_test c o
  accepts_octets c o each = ap (λ l. holds c (value 0 l)) (octets_again o each)

  -- the value that bits stand for is the one that is judged
  judged_value : (c : C) (v : V) (b : List Bool) → F.stands tt v b → accepts c b ≡ holds c v
  judged_value c v b stood =
      let h = (L.shape.stands tt v b).0 stood in
      let each = L.shape.each tt v h.0 in
      ap (accepts c) h.1 ∙ accepts_octets c (octets_of v) each ∙ ap (holds c) (L.refusals.reads tt 0 (octets_of v) v [] h.0 (sym (append-nil (octets_of v))))

  pub tested_read : IsRead (tested holds F) (λ c v o. IsLaid c v o × IsTrue (passes_test c o)) (λ c x. n) (λ c start x. rows tt start 0 x ++ (row 0 (start + 0) (not (passes_test c (take n x))) ∷ []))
  unfolding tested
  tested_read = sealed_read (λ c k. []) 0 laid_read accepts passes_test accepts_octets (tested holds F)
      (λ c v b. (λ p. record { stood = p.0; good = judged_value c v b p.0 ∙ p.1 }, λ s. (s.stood, sym (judged_value c v b s.stood) ∙ s.good)))
      (λ c b f. (
        elim [
          | inl p ↦ inl p
          | inr p ↦ inr (record { value = p.0.found; front = p.0.used; back = p.0.later; joined = p.0.joined; stood = p.0.stood; bad = judged_value c p.0.found p.0.used p.0.stood ∙ p.0.rejected; is = p.1 })
        ],
        elim [
          | inl p ↦ inl p
          | inr q ↦ inr (record { found = q.value; used = q.front; later = q.back; joined = q.joined; stood = q.stood; rejected = sym (judged_value c q.value q.front q.stood) ∙ q.bad }, q.is)
        ],
      ))
