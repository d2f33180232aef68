-- One bit of an octet replaced, as the code does it.
use Rattle.std.proofs.Common.{◌≡◌, ◌+◌, ◌*◌, ◌-◌, ◌<◌, ◌≤◌, ◌/◌, ◌%◌, ◌^◌, Bool, true, false, eqb, ℕ, suc, zero, set, refl, ap, ◌∙◌, arith}
use mathlib.Core.Bool.{beq}
use Rattle.narc_bits.specs.Bits.{bits_of_number}
use Rattle.narc_bits.proofs.Numbers.{mask_is, no_carry, replaced, parts}

clear : (r : ℕ) (b : Bool) → r < 2 → beq b (eqb r 1) ≡ false → b ≡ true → r ≡ 0
clear zero b h e t = refl
clear (suc zero) true h e t = cc
clear (suc zero) false h e t = cc
clear (suc (suc r)) b h e t = absurd (omega arith)

high : (r : ℕ) (b : Bool) → r < 2 → beq b (eqb r 1) ≡ false → b ≡ false → r ≡ 1
high zero true h e t = cc
high zero false h e t = cc
high (suc zero) b h e t = refl
high (suc (suc r)) b h e t = absurd (omega arith)

agree : (a b : Bool) → beq a b ≡ true → a ≡ b
agree true true e = refl
agree true false e = cc
agree false true e = cc
agree false false e = refl

module _ (x k : ℕ) (v : Bool) (h : k < 8) (small : x < 2 ^ 8) where
  pub unchanged : beq v (eqb (x / 2 ^ (7 - k) % 2) 1) ≡ true → bits_of_number 8 x ≡ set (bits_of_number 8 x) k v
  unchanged e = replaced x k (x / 2 ^ (7 - k) % 2) x v h (omega arith) (agree v (eqb (x / 2 ^ (7 - k) % 2) 1) e) (parts x (7 - k))

  pub room : beq v (eqb (x / 2 ^ (7 - k) % 2) 1) ≡ false → v ≡ true → x + 1 * 2 ^ (7 - k) % 256 < 256
  room e t = let z = clear (x / 2 ^ (7 - k) % 2) v (omega arith) e t in omega (arith, mask_is k h, no_carry x (7 - k) (omega arith) small z)

  pub added : beq v (eqb (x / 2 ^ (7 - k) % 2) 1) ≡ false → v ≡ true → bits_of_number 8 (x + 1 * 2 ^ (7 - k) % 256) ≡ set (bits_of_number 8 x) k v
  added e t =
      let m = 7 - k in
      let z = clear (x / 2 ^ m % 2) v (omega arith) e t in
      let a = x / 2 ^ suc m * 2 ^ suc m in
      let low = x % 2 ^ m in
      let split : x ≡ a + (0 * 2 ^ m + low) = parts x m ∙ ap (λ n. a + (n * 2 ^ m + low)) z in
      let sum : x + 1 * 2 ^ m % 256 ≡ a + (1 * 2 ^ m + low) = omega (arith, mask_is k h, split) in
      replaced x k 1 (x + 1 * 2 ^ m % 256) v h (omega arith) t sum

  pub there : beq v (eqb (x / 2 ^ (7 - k) % 2) 1) ≡ false → v ≡ false → 1 * 2 ^ (7 - k) % 256 ≤ x
  there e t =
      let m = 7 - k in
      let z = high (x / 2 ^ m % 2) v (omega arith) e t in
      let a = x / 2 ^ suc m * 2 ^ suc m in
      let split : x ≡ a + (1 * 2 ^ m + x % 2 ^ m) = parts x m ∙ ap (λ n. a + (n * 2 ^ m + x % 2 ^ m)) z in
      omega (arith, mask_is k h, split)

  pub taken : beq v (eqb (x / 2 ^ (7 - k) % 2) 1) ≡ false → v ≡ false → bits_of_number 8 (x - 1 * 2 ^ (7 - k) % 256) ≡ set (bits_of_number 8 x) k v
  taken e t =
      let m = 7 - k in
      let z = high (x / 2 ^ m % 2) v (omega arith) e t in
      let a = x / 2 ^ suc m * 2 ^ suc m in
      let low = x % 2 ^ m in
      let split : x ≡ a + (1 * 2 ^ m + low) = parts x m ∙ ap (λ n. a + (n * 2 ^ m + low)) z in
      let less : x - 1 * 2 ^ m % 256 ≡ a + (0 * 2 ^ m + low) = omega (arith, mask_is k h, split) in
      replaced x k 0 (x - 1 * 2 ^ m % 256) v h (omega arith) t less
