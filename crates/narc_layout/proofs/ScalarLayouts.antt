-- The layouts of single fields.
use Rattle.std.proofs.Common.{◌≡◌, ℕ, ◌+◌, ◌-◌, ◌*◌, ◌^◌, ◌<◌, ◌≤◌, Bool, true, false, not, ◌||◌, List, [], ◌∷◌, ◌++◌, length, take, drop, nat_eq, refl, sym, ap, ◌∙◌, arith, length-take, take-append-drop}
use Rattle.std.proofs.lemmas.Bool.{eqb-true, eq-eqb, not-false, or_parts, or_from, true_from_ne_false, true≢false}
use Rattle.std.proofs.lemmas.List.{take_at}
use Rattle.narc_bits.specs.Octets.{IsOctets, big_endian, number_of, number_at, is_shorter}
use Rattle.narc_bits.specs.Bits.{bits, bits_of_number}
use Rattle.narc_bits.proofs.Numbers.{length-bits, length-bits_of_number}
use Rattle.narc_bits.proofs.Octets.{IsOctets-take, IsOctets-drop, IsOctets-big_endian}
use Rattle.narc_bits.proofs.Scans.{bits-take}
use Rattle.narc_bits.proofs.Spelled.{bits_same, bits-big_endian, length-big_endian}
use Rattle.narc_scalar.specs.Word.{word}
use Rattle.narc_scalar.specs.Octets.{fixed_octets}
use Rattle.narc_scalar.specs.OctetsLaws.{fixed_octets_laws}
use Rattle.narc_scalar.specs.Constant.{constant}
use Rattle.narc_scalar.specs.ConstantLaws.{constant_laws}
use Rattle.narc_compose.specs.Named.{named}
use Rattle.narc_format.specs.declared.field.TheConstants.{LAST}
use Rattle.narc_format.specs.Rows.{row, differs}
use Rattle.narc_bits.proofs.NetworkOrder.{number_of-big_endian}
use Rattle.narc_layout.proofs.Layouts.{IsLayout}
use Rattle.narc_layout.proofs.ContextLayouts.{IsShaped, plain_layout}
use Rattle.narc_layout.proofs.FieldLayout.{IsUnnamed, named_layout}
use Rattle.narc_layout.proofs.TestLayout.{shape_word, unnamed_word}
use Rattle.narc_layout.proofs.Fronts.{few, enough, long, cut, is_number}

-- a number of k octets
module _ (k : ℕ) (some : 1 ≤ k) (most : k ≤ 8) where
  pub word_layout : (field : ℕ) → 1 ≤ field → field ≤ LAST
      → IsLayout (named field (word (8 * k))) (λ v. v < 2 ^ (8 * k)) (big_endian k) k (λ start skip x. row field (start + skip) (is_shorter x (skip + k)) ∷ [])
  word_layout field low high = plain_layout (named_layout (shape_word k some most) (unnamed_word k some most) field low high)

-- k octets
module _ (k : ℕ) (some : 1 ≤ k) where
  abbrev AreOctets : List ℕ → Type 0
  AreOctets v = (length v ≡ k) × IsOctets v

  shape_octets : IsShaped (fixed_octets k) (λ c. Unit {0}) (λ c. AreOctets) (λ v. v) k
  unfolding fixed_octets
  shape_octets = record {
    laws = fixed_octets_laws k;
    sound = tt;
    valid = λ c ok. tt;
    whole = refl;
    depth = refl;
    alike = λ v w e. e;
    admits = λ c ok v. (λ h. h, λ h. h);
    stands = λ c v b. (λ p. ((p.size, p.each), p.is), λ h. record { size = h.0.0; each = h.0.1; is = h.1 });
    sized = λ c v h. h.0;
    each = λ c v h. h.1;
  }

  unnamed_octets : IsUnnamed (fixed_octets k) (λ c. AreOctets) (λ v. v) (λ skip x. take k (drop skip x)) (λ c skip x. is_shorter x (skip + k))
  unfolding fixed_octets
  unnamed_octets = record {
    refuses = λ c skip x each f. (λ p. ((few k skip x some).0 p.0, p.1), λ h. ((few k skip x some).1 h.0, h.1));
    passes = λ c skip x each. (
      λ h. record {
        found = take k (drop skip x);
        in_range = (cut k skip x h, IsOctets-take k (drop skip x) (IsOctets-drop skip x each));
        later = drop k (drop skip x);
        joined = sym (take-append-drop k (drop skip x));
      },
      λ p. long k skip x p.found p.later some p.in_range.0 p.joined,
    );
    reads = λ c skip x v later range joined. ap (take k) joined ∙ take_at v later k range.0;
  }

  pub octets_layout : (field : ℕ) → 1 ≤ field → field ≤ LAST → IsLayout (named field (fixed_octets k)) AreOctets (λ v. v) k (λ start skip x. row field (start + skip) (is_shorter x (skip + k)) ∷ [])
  octets_layout field low high = plain_layout (named_layout shape_octets unnamed_octets field low high)

-- one number of k octets
module _ (k n : ℕ) (some : 1 ≤ k) (most : k ≤ 8) (fits : n < 2 ^ (8 * k)) where
  abbrev Always : Unit {0} → Type 0
  Always u = Unit {0}

  abbrev octets_of_n : Unit {0} → List ℕ
  octets_of_n u = big_endian k n

  shape_constant : IsShaped (constant (8 * k) n) (λ c. Unit {0}) (λ c. Always) octets_of_n k
  unfolding constant word
  shape_constant = record {
    laws = constant_laws (8 * k) n;
    sound = record { some = omega (arith, some); width = omega (arith, most); fits = fits };
    valid = λ c ok. tt;
    whole = (shape_word k some most).whole;
    depth = refl;
    alike = λ v w e. refl;
    admits = λ c ok v. (λ h. h, λ h. h);
    stands = λ c v b. (λ p. (tt, p ∙ sym (bits-big_endian k n)), λ h. h.1 ∙ bits-big_endian k n);
    sized = λ c v h. length-big_endian k n;
    each = λ c v h. IsOctets-big_endian k n;
  }

  abbrev is_other : (skip : ℕ) → List ℕ → Bool
  is_other skip x = is_shorter x (skip + k) || differs (number_at x skip k) n

  number_is : (skip : ℕ) (x : List ℕ) → number_at x skip k ≡ number_of (take k (drop skip x))
  number_is skip x = let e : skip + k - skip ≡ k = omega arith in ap (λ j. number_of (take j (drop skip x))) e

  -- the octets of the number are there
  there : (skip : ℕ) (x : List ℕ) → IsOctets x → is_other skip x ≡ false → take k (drop skip x) ≡ big_endian k n
  there skip x each h =
      let p = or_parts (is_shorter x (skip + k)) (differs (number_at x skip k) n) h in
      let same : nat_eq (number_at x skip k) n ≡ true = not-false (nat_eq (number_at x skip k) n) p.1 in
      is_number k skip x each p.0 ∙ ap (big_endian k) (sym (number_is skip x) ∙ eqb-true (number_at x skip k) n same)

  not_other : (skip : ℕ) (x later : List ℕ) → drop skip x ≡ big_endian k n ++ later → is_other skip x ≡ false
  not_other skip x later joined =
      let size = length-big_endian k n in
      let front : take k (drop skip x) ≡ big_endian k n = ap (take k) joined ∙ take_at (big_endian k n) later k size in
      let same : number_at x skip k ≡ n = number_is skip x ∙ ap number_of front ∙ number_of-big_endian k n fits in
      or_from (is_shorter x (skip + k)) (differs (number_at x skip k) n) (long k skip x (big_endian k n) later some size joined) (ap not (eq-eqb (number_at x skip k) n same))

  spelled_there : (y : List ℕ) → IsOctets y → take (8 * k) (bits y) ≡ bits_of_number (8 * k) n → y ≡ big_endian k n ++ drop k y
  spelled_there y each e =
      let size : k ≤ length y = omega (arith, ap length e, length-take (8 * k) (bits y), length-bits_of_number (8 * k) n, length-bits y) in
      let front = bits_same (take k y) (big_endian k n) (IsOctets-take k y each) (IsOctets-big_endian k n) (bits-take y k size ∙ e ∙ sym (bits-big_endian k n)) in
      sym (take-append-drop k y) ∙ ap (λ l. l ++ drop k y) front

  unnamed_constant : IsUnnamed (constant (8 * k) n) (λ c. Always) octets_of_n (λ skip x. tt) (λ c. is_other)
  unfolding constant
  unnamed_constant = record {
    refuses = λ c skip x each f. (
      λ p. (true_from_ne_false (is_other skip x) (λ h. p.0 (refused skip x each h)), p.1),
      λ h. (λ e. let no : is_other skip x ≡ false = not_other skip x (drop k (drop skip x)) (spelled_there (drop skip x) (IsOctets-drop skip x each) e) in absurd (true≢false (sym h.0 ∙ no)), h.1),
    );
    passes = λ c skip x each. (
      λ h. record { found = tt; in_range = tt; later = drop k (drop skip x); joined = sym (take-append-drop k (drop skip x)) ∙ ap (λ l. l ++ drop k (drop skip x)) (there skip x each h) },
      λ p. not_other skip x p.later p.joined,
    );
    reads = λ c skip x v later range joined. refl;
  } where
    refused : (skip : ℕ) (x : List ℕ) → IsOctets x → is_other skip x ≡ false → take (8 * k) (bits (drop skip x)) ≡ bits_of_number (8 * k) n
    refused skip x each h =
        let p = or_parts (is_shorter x (skip + k)) (differs (number_at x skip k) n) h in
        sym (bits-take (drop skip x) k (enough k skip x p.0)) ∙ ap bits (there skip x each h) ∙ bits-big_endian k n

  pub constant_layout : (field : ℕ) → 1 ≤ field → field ≤ LAST
      → IsLayout (named field (constant (8 * k) n)) Always octets_of_n k (λ start skip x. row field (start + skip) (is_shorter x (skip + k) || differs (number_at x skip k) n) ∷ [])
  constant_layout field low high = plain_layout (named_layout shape_constant unnamed_constant field low high)
