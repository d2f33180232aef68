-- What a constant promises.
use Rattle.std.proofs.Common.{◌≡◌, ℕ, ◌%◌, ◌^◌, ◌<◌, ◌≤◌, ◌⊎◌, List, Bool, ◌++◌, length, take, drop, refl, sym, ap, ◌∙◌, arith, inl, inr, length-take, take-append-drop}
use Rattle.std.proofs.lemmas.Bool.{cases_lt, eqb-true, cases_eq}
use Rattle.std.proofs.lemmas.List.{take_at}
use Rattle.narc_bits.specs.Bits.{bits_of_number, number_of_bits}
use Rattle.narc_bits.proofs.Numbers.{length-bits_of_number, number_of_bits-bits_of_number_lt, take-spelled}
use Rattle.narc_format.specs.Faults.{unnamed_fault}
use Rattle.narc_format.specs.declared.fault.Fault.{Fault}
use Rattle.narc_format.specs.Laws.{Laws, HasFront, IsRefused}
use Rattle.narc_format.specs.Widths.{IsWide}
use Rattle.narc_scalar.specs.Constant.{constant, IsConstant}

-- fewer bits are others
pub few_bits : (n v : ℕ) (b : List Bool) → length b < n → take n b ≡ bits_of_number n v → ⊥
few_bits n v b h e = omega (arith, ap length e, length-take n b, length-bits_of_number n v)

-- another number has other bits
pub other_number : (n v : ℕ) (b : List Bool) → v < 2 ^ n → (number_of_bits (take n b) ≡ v → ⊥) → take n b ≡ bits_of_number n v → ⊥
other_number n v b fits other e = other (ap number_of_bits e ∙ number_of_bits-bits_of_number_lt n v fits)

-- the first n bits spell v
pub same_number : (n v : ℕ) (b : List Bool) → n ≤ length b → number_of_bits (take n b) ≡ v → take n b ≡ bits_of_number n v
same_number n v b h e = take-spelled n b h ∙ ap (bits_of_number n) e

judged : (n v : ℕ) → IsConstant n v → (b : List Bool) → HasFront ((constant n v).stands tt) b ⊎ IsRefused ((constant n v).refuses tt b)
unfolding constant
judged n v s b = elim (cases_lt (length b) n) [
  | inl few ↦ inr (record { fault = unnamed_fault; refused = (few_bits n v b few, refl) })
  | inr enough ↦ elim (cases_eq (number_of_bits (take n b)) v) [
    | inl same ↦ inl (record { found = tt; used = take n b; later = drop n b; joined = sym (take-append-drop n b); stood = same_number n v b (omega arith) same })
    | inr other ↦ inr (record { fault = unnamed_fault; refused = (other_number n v b s.fits other, refl) })
  ]
]

pub constant_laws : (n v : ℕ) → Laws (constant n v)
unfolding constant
constant_laws n v = record {
  one_reading = λ s c u w x y d e p q h. (p ∙ sym q, tt);
  admitted = λ s c valid u b p. tt;
  spelling_stands = λ s c valid u a. refl;
  read_or_refused = λ s c valid b fits. judged n v s b;
  never_both = λ s c u x e f p q. q.0 (ap (λ l. take n (l ++ e)) p ∙ take_at (bits_of_number n v) e n (length-bits_of_number n v));
  one_fault = λ s c b f g p q. p.1 ∙ sym q.1;
  within = λ s c b f p. omega (arith, ap (λ (g : Fault). g.at) p.1);
  whole_octets = λ s w c u b p. omega (arith, eqb-true (n % 8) 0 w, ap length p, length-bits_of_number n v);
}

pub constant_is_wide : (n v : ℕ) → IsWide (constant n v) n
unfolding constant
constant_is_wide n v = record {
  sized = λ s c u b p. ap length p ∙ length-bits_of_number n v;
  refused = λ s c valid b fits h. record { fault = unnamed_fault; refused = (few_bits n v b h, refl) };
}
