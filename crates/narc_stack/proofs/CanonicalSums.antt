-- A computed sum makes the whole good.
use Rattle.std.proofs.Common.{◌≡◌, ℕ, ◌+◌, ◌%◌, ◌<◌, true, List, ◌++◌, length, nat_eq, sym, ap, ◌∙◌, subst, arith, lit<}
use Rattle.std.proofs.lemmas.Bool.{eqb-true}
use Rattle.narc_bits.specs.Octets.{big_endian}
use Rattle.narc_bits.specs.InternetSum.{total, complement, IsGoodTotal, IsGoodSum, checksum}
use Rattle.narc_bits.proofs.Sums.{total-append, total-word}
use Rattle.narc_sum.specs.Checked.{never_zero}
use Rattle.narc_sum.specs.Seals.{complement_good, complement_full_good}

-- a word behind an even number of octets
total_at : (front back : List ℕ) (k : ℕ) → length front % 2 ≡ 0 → k < 65536 → total (front ++ (big_endian 2 k ++ back)) ≡ total front + (k + total back)
total_at front back k even small = total-append front (big_endian 2 k ++ back) even ∙ ap (λ n. total front + n) (total-word k back small)

module _ (front back : List ℕ) (even : length front % 2 ≡ 0) (some : 0 < total front) where
  abbrev unsummed : List ℕ
  unsummed = front ++ (big_endian 2 0 ++ back)

  -- the sum makes the whole good, and so do all ones in place of 0
  pub sum_is_good : IsGoodSum (front ++ (big_endian 2 (checksum unsummed) ++ back))
  sum_is_good =
      let n = total unsummed in
      let zero = total_at front back 0 even (lit< tt) in
      let whole = total_at front back (checksum unsummed) even (omega arith) in
      let grown : total (front ++ (big_endian 2 (checksum unsummed) ++ back)) ≡ n + complement n = omega (arith, zero, whole) in
      subst IsGoodTotal (sym grown) (complement_good n (omega (arith, some, zero)))

  pub ones_are_good : nat_eq (checksum unsummed) 0 ≡ true → IsGoodSum (front ++ (big_endian 2 65535 ++ back))
  unfolding never_zero
  ones_are_good e =
      let n = total unsummed in
      let zero = total_at front back 0 even (lit< tt) in
      let whole = total_at front back 65535 even (lit< tt) in
      let grown : total (front ++ (big_endian 2 65535 ++ back)) ≡ n + 65535 = omega (arith, zero, whole) in
      let full : IsGoodTotal (n + never_zero (complement n)) = complement_full_good n (omega (arith, some, zero)) in
      subst IsGoodTotal (sym grown) (subst (λ w. IsGoodTotal (n + never_zero w)) (eqb-true (complement n) 0 e) full)
