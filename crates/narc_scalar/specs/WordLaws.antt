-- What a word promises.
use Rattle.std.proofs.Common.{◌≡◌, ℕ, ◌%◌, ◌≤◌, List, Bool, length, take, drop, refl, sym, ap, ◌∙◌, arith, inl, inr, length-append, take-append-drop}
use Rattle.std.proofs.lemmas.Bool.{cases_lt, eqb-true}
use Rattle.narc_bits.specs.Bits.{number_of_bits}
use Rattle.narc_bits.proofs.Lists.{append-parts}
use Rattle.narc_bits.proofs.Numbers.{length-bits_of_number, number_of_bits-bits_of_number_lt, take-spelled, number_of_bits-take_lt}
use Rattle.narc_format.specs.Faults.{unnamed_fault}
use Rattle.narc_format.specs.declared.fault.Fault.{Fault}
use Rattle.narc_format.specs.Laws.{Laws, HasFront}
use Rattle.narc_format.specs.Widths.{IsWide}
use Rattle.narc_scalar.specs.Word.{word}

has_front : (n : ℕ) (b : List Bool) → n ≤ length b → HasFront ((word n).stands tt) b
unfolding word
has_front n b h = record {
  found = number_of_bits (take n b);
  used = take n b;
  later = drop n b;
  joined = sym (take-append-drop n b);
  stood = (number_of_bits-take_lt n b h, take-spelled n b h);
}

pub word_laws : (n : ℕ) → Laws (word n)
unfolding word
word_laws n = record {
  one_reading = λ s c v w x y d e p q h.
      let sizes : length x ≡ length y = ap length p.1 ∙ length-bits_of_number n v ∙ sym (length-bits_of_number n w) ∙ sym (ap length q.1) in
      let same = append-parts x y d e h sizes in
      (same.0, sym (number_of_bits-bits_of_number_lt n v p.0) ∙ ap number_of_bits (sym p.1 ∙ same.0 ∙ q.1) ∙ number_of_bits-bits_of_number_lt n w q.0);
  admitted = λ s c valid v b p. p.0;
  spelling_stands = λ s c valid v a. (a, refl);
  read_or_refused = λ s c valid b fits. elim (cases_lt (length b) n) [
    | inl h ↦ inr (record { fault = unnamed_fault; refused = (h, refl) })
    | inr h ↦ inl (has_front n b (omega arith))
  ];
  never_both = λ s c v x e f p q. omega (arith, q.0, length-append x e, ap length p.1, length-bits_of_number n v);
  one_fault = λ s c b f g p q. p.1 ∙ sym q.1;
  within = λ s c b f p. omega (arith, ap (λ (g : Fault). g.at) p.1);
  whole_octets = λ s w c v b p. omega (arith, eqb-true (n % 8) 0 w, ap length p.1, length-bits_of_number n v);
}

pub word_is_wide : (n : ℕ) → IsWide (word n) n
unfolding word
word_is_wide n = record {
  sized = λ s c v b p. ap length p.1 ∙ length-bits_of_number n v;
  refused = λ s c valid b fits h. record { fault = unnamed_fault; refused = (h, refl) };
}
