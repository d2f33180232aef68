-- The layouts of numbers, and of numbers that pass a test in a context.
use Rattle.std.proofs.Common.{◌≡◌, ℕ, ◌+◌, ◌-◌, ◌*◌, ◌%◌, ◌^◌, ◌<◌, ◌≤◌, ◌↔◌, Bool, true, false, not, ◌||◌, List, ◌++◌, take, drop, nat_eq, IsTrue, refl, sym, ap, ◌∙◌, subst, arith, take-append-drop, inl, inr}
use Rattle.std.proofs.lemmas.List.{take_at}
use Rattle.narc_bits.specs.Octets.{IsOctets, big_endian, number_of, number_at, is_shorter}
use Rattle.narc_bits.specs.Bits.{bits}
use Rattle.narc_bits.proofs.Octets.{IsOctets-big_endian, IsOctets-drop}
use Rattle.narc_bits.proofs.Numbers.{bits-append}
use Rattle.narc_bits.proofs.Spelled.{bits-big_endian, length-big_endian}
use Rattle.narc_format.specs.Faults.{unnamed_fault}
use Rattle.narc_format.specs.declared.fault.Fault.{Fault}
use Rattle.narc_format.specs.Meaning.{Meaning}
use Rattle.narc_scalar.specs.Word.{word}
use Rattle.narc_scalar.specs.WordLaws.{word_laws}
use Rattle.narc_scalar.specs.Tested.{tested}
use Rattle.narc_scalar.specs.TestedLaws.{tested_laws}
use Rattle.narc_bits.proofs.NetworkOrder.{number_of-big_endian}
use Rattle.narc_layout.proofs.Fronts.{few, long, is_number, below}
use Rattle.narc_layout.proofs.Layouts.{front_octets}
use Rattle.narc_layout.proofs.ContextLayouts.{IsShaped}
use Rattle.narc_layout.proofs.FieldLayout.{IsUnnamed}

-- a number of k octets
module _ (k : ℕ) (some : 1 ≤ k) (most : k ≤ 8) where
  abbrev pub InWord : Unit {0} → ℕ → Type 0
  InWord c v = v < 2 ^ (8 * k)

  pub shape_word : IsShaped (word (8 * k)) (λ c. Unit {0}) InWord (big_endian k) k
  unfolding word
  shape_word = record {
    laws = word_laws (8 * k);
    sound = (omega (arith, some), omega (arith, most));
    valid = λ c ok. tt;
    whole = (let e : 8 * k % 8 ≡ 0 = omega arith in ap (λ n. nat_eq n 0) e);
    depth = refl;
    alike = λ v w e. e;
    admits = λ c ok v. (λ h. h, λ h. h);
    stands = λ c v b. (λ p. (p.0, p.1 ∙ sym (bits-big_endian k v)), λ h. (h.0, h.1 ∙ bits-big_endian k v));
    sized = λ c v h. length-big_endian k v;
    each = λ c v h. IsOctets-big_endian k v;
  }

  number_is : (skip : ℕ) (x : List ℕ) → number_at x skip k ≡ number_of (take k (drop skip x))
  number_is skip x = let e : skip + k - skip ≡ k = omega arith in ap (λ j. number_of (take j (drop skip x))) e

  pub unnamed_word : IsUnnamed (word (8 * k)) InWord (big_endian k) (λ skip x. number_at x skip k) (λ c skip x. is_shorter x (skip + k))
  unfolding word
  unnamed_word = record {
    refuses = λ c skip x each f. (λ p. ((few k skip x some).0 p.0, p.1), λ h. ((few k skip x some).1 h.0, h.1));
    passes = λ c skip x each. (
      λ h. record {
        found = number_of (take k (drop skip x));
        in_range = below k skip x each h;
        later = drop k (drop skip x);
        joined = sym (take-append-drop k (drop skip x)) ∙ ap (λ l. l ++ drop k (drop skip x)) (is_number k skip x each h);
      },
      λ p. long k skip x (big_endian k p.found) p.later some (length-big_endian k p.found) p.joined,
    );
    reads = λ c skip x v later range joined. number_is skip x ∙ ap number_of (ap (take k) joined ∙ take_at (big_endian k v) later k (length-big_endian k v)) ∙ number_of-big_endian k v range;
  }

or_left : (a b : Bool) → a ≡ true → (a || b) ≡ true
or_left true b h = refl
or_left false b h = cc

or_right : (a b : Bool) → b ≡ true → (a || b) ≡ true
or_right true b h = refl
or_right false b h = h

or_none : (a b : Bool) → a ≡ false → b ≡ false → (a || b) ≡ false
or_none true b h k = cc
or_none false b h k = k

none_left : (a b : Bool) → (a || b) ≡ false → a ≡ false
none_left true b h = cc
none_left false b h = refl

none_right : (a b : Bool) → (a || b) ≡ false → b ≡ false
none_right true b h = cc
none_right false b h = h

not_holds : (a : Bool) → a ≡ false → not a ≡ true
not_holds true h = cc
not_holds false h = refl

holds_not : (a : Bool) → not a ≡ false → a ≡ true
holds_not true h = refl
holds_not false h = cc

fails_not : (a : Bool) → a ≡ true → not a ≡ false
fails_not true h = refl
fails_not false h = cc

rejects : (a : Bool) → not a ≡ true → a ≡ false
rejects true h = cc
rejects false h = refl

-- a part that passes a test in the context C
module _ {C V : Type 0} {F : Meaning (Unit {0}) V} {InRange : Unit {0} → V → Type 0} {octets_of : V → List ℕ} {size : ℕ} {value : (skip : ℕ) → List ℕ → V} {short : Unit {0} → (skip : ℕ) → List ℕ → Bool}
    (holds : C → V → Bool) (S : IsShaped F (λ c. Unit {0}) InRange octets_of size) (U : IsUnnamed F InRange octets_of value short) where
  abbrev pub InTest : C → V → Type 0
  InTest c v = InRange tt v × IsTrue (holds c v)

  abbrev pub fails_test : C → (skip : ℕ) → List ℕ → Bool
  fails_test c skip x = short tt skip x || not (holds c (value skip x))

  pub shape_tested : IsShaped (tested holds F) (λ c. Unit {0}) InTest octets_of size
  unfolding tested
  shape_tested = record {
    laws = tested_laws holds F S.laws;
    sound = record { format = S.sound; steady = λ c v w a. ap (holds c) (S.alike v w a) };
    valid = λ c ok. S.valid tt tt;
    whole = S.whole;
    depth = S.depth;
    alike = S.alike;
    admits = λ c ok v. (λ a. ((S.admits tt tt v).0 a.0, a.1), λ h. ((S.admits tt tt v).1 h.0, h.1));
    stands = λ c v b. (λ p. let h = (S.stands tt v b).0 p.0 in ((h.0, p.1), h.1), λ h. ((S.stands tt v b).1 (h.0.0, h.1), h.0.1));
    sized = λ c v h. S.sized tt v h.0;
    each = λ c v h. S.each tt v h.0;
  }

  -- the value that a front stands for is the one that is read there
  is_value : (skip : ℕ) (x : List ℕ) → IsOctets x → (v : V) (used later : List Bool) → F.stands tt v used → bits (drop skip x) ≡ used ++ later → (InRange tt v) × (value skip x ≡ v) × (short tt skip x ≡ false)
  is_value skip x each v used later stood joined =
      let h = (S.stands tt v used).0 stood in
      let cut = front_octets (drop skip x) (octets_of v) later (IsOctets-drop skip x each) (S.each tt v h.0) (joined ∙ ap (λ l. l ++ later) h.1) in
      (h.0, U.reads tt skip x v _ h.0 cut.0, (U.passes tt skip x each).1 (record { found = v; in_range = h.0; later = _; joined = cut.0 }))

  refuses_tested : (c : C) (skip : ℕ) (x : List ℕ) → IsOctets x → (f : Fault) → (tested holds F).refuses c (bits (drop skip x)) f ↔ ((fails_test c skip x ≡ true) × (f ≡ unnamed_fault))
  unfolding tested
  refuses_tested c skip x each f = (
    elim [
      | inl p ↦ let h = (U.refuses tt skip x each f).0 p in (or_left (short tt skip x) (not (holds c (value skip x))) h.0, h.1)
      | inr p ↦
          let h = is_value skip x each p.0.found p.0.used p.0.later p.0.stood p.0.joined in
          (or_right (short tt skip x) (not (holds c (value skip x))) (not_holds (holds c (value skip x)) (ap (holds c) h.1 ∙ p.0.rejected)), p.1)
    ],
    λ h. at (short tt skip x) refl h,
  ) where
    at : (is_short : Bool) → short tt skip x ≡ is_short → (fails_test c skip x ≡ true) × (f ≡ unnamed_fault) → (tested holds F).refuses c (bits (drop skip x)) f
    at true e h = inl ((U.refuses tt skip x each f).1 (e, h.1))
    at false e h =
        let p = (U.passes tt skip x each).0 e in
        let is = U.reads tt skip x p.found p.later p.in_range p.joined in
        let other : not (holds c (value skip x)) ≡ true = subst (λ b. (b || not (holds c (value skip x))) ≡ true) e h.0 in
        inr (
          record {
            found = p.found;
            used = bits (octets_of p.found);
            later = bits p.later;
            joined = ap bits p.joined ∙ bits-append (octets_of p.found) p.later;
            stood = (S.stands tt p.found (bits (octets_of p.found))).1 (p.in_range, refl);
            rejected = ap (holds c) (sym is) ∙ rejects (holds c (value skip x)) other;
          },
          h.1,
        )

  pub unnamed_tested : IsUnnamed (tested holds F) InTest octets_of value fails_test
  unnamed_tested = record {
    refuses = refuses_tested;
    passes = λ c skip x each. (
      λ h.
          let p = (U.passes tt skip x each).0 (none_left (short tt skip x) (not (holds c (value skip x))) h) in
          let is = U.reads tt skip x p.found p.later p.in_range p.joined in
          record {
            found = p.found;
            in_range = (p.in_range, ap (holds c) (sym is) ∙ holds_not (holds c (value skip x)) (none_right (short tt skip x) (not (holds c (value skip x))) h));
            later = p.later;
            joined = p.joined;
          },
      λ p.
          let is = U.reads tt skip x p.found p.later p.in_range.0 p.joined in
          or_none (short tt skip x) (not (holds c (value skip x)))
          ((U.passes tt skip x each).1 (record { found = p.found; in_range = p.in_range.0; later = p.later; joined = p.joined }))
          (fails_not (holds c (value skip x)) (ap (holds c) is ∙ p.in_range.1)),
    );
    reads = λ c skip x v later range joined. U.reads tt skip x v later range.0 joined;
  }
