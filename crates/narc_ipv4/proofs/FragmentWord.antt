-- The flags and the offset, and the word that has them.
use Rattle.std.proofs.Common.{◌≡◌, ℕ, zero, suc, ◌*◌, ◌/◌, ◌%◌, ◌^◌, ◌<◌, Bool, false, IsTrue, nat_eq, ap, arith, inl, inr, if◌then◌else◌, true, not}
use Rattle.std.proofs.lemmas.Bool.{cases_lt, eqb-false, not-true}
use Rattle.narc_ipv4.specs.Header.{is_flags, fragment_word_of}

flag_number : (n k : ℕ) → n < 2 → (if nat_eq n 1 then k else 0) ≡ k * n
flag_number zero k h = omega arith
flag_number (suc zero) k h = omega arith
flag_number (suc (suc n)) k h = absurd (many n h) where
  many : (n : ℕ) → suc (suc n) < 2 → ⊥
  many n h = omega (arith, h)

low_word : (n : ℕ) → n < 2 ^ 16 → IsTrue (is_flags tt n) → n < 2 ^ 15
low_word n h k = low n h (not-true (nat_eq (n / 32768) 1) k) where
  low : (n : ℕ) → n < 2 ^ 16 → nat_eq (n / 32768) 1 ≡ false → n < 2 ^ 15
  low n h k = elim (cases_lt n (2 ^ 15)) [
    | inl p ↦ p
    | inr p ↦ absurd (eqb-false (n / 32768) 1 k (omega (arith, h, p)))
  ]

pub fragment_back : (n : ℕ) → n < 2 ^ 16 → IsTrue (is_flags tt n) → fragment_word_of (nat_eq (n / 16384 % 2) 1) (nat_eq (n / 8192 % 2) 1) (n % 8192) ≡ n
fragment_back n h k =
    let low = low_word n h k in
    omega (arith, low, flag_number (n / 16384 % 2) 16384 (omega arith), flag_number (n / 8192 % 2) 8192 (omega arith))

pub no_flag : (k : ℕ) → k < 2 ^ 15 → IsTrue (is_flags tt k)
no_flag k h = let e : k / 32768 ≡ 0 = omega (arith, h) in ap (λ n. not (nat_eq n 1)) e
