-- Bits in the middle of a number, replaced by those of another.
use Rattle.std.proofs.Common.{◌≡◌, ℕ, ◌+◌, ◌*◌, ◌<◌, ◌≤◌, ◌/◌, ◌%◌, ◌^◌, Bool, List, ◌++◌, length, take, drop, sym, ap, ◌∙◌, arith, length-take, length-drop}
use Rattle.std.proofs.Math.Nat.{mod-eq_of_lt, mod-lt, mul-le-mul_left, div-add-mod', div-mul-le_self}
use Rattle.std.proofs.Math.Pow.{pow_mono, pow_pos}
use Rattle.std.proofs.lemmas.Nat.{one_shl, shr-shr}
use Rattle.narc_bits.specs.Bits.{bits_of_number, number_of_bits, overlay}
use Rattle.narc_bits.proofs.Lists.{overlay-middle, overlay-inside, overlay-same}
use Rattle.narc_bits.proofs.Numbers.{length-bits_of_number, bits_of_number-low, bits_of_number-append, take-spelled}

-- old, of which c bits before the last k are those of new
abbrev pub replaced : (old k c new : ℕ) → ℕ
replaced old k c new = (old / 2 ^ (k + c) * 2 ^ c + new % 2 ^ c) * 2 ^ k + old % 2 ^ k

bits_of_number-mod : (m n : ℕ) → bits_of_number m (n % 2 ^ m) ≡ bits_of_number m n
bits_of_number-mod m n = sym (bits_of_number-low m (n / 2 ^ m) (n % 2 ^ m)) ∙ ap (bits_of_number m) (div-add-mod' n (2 ^ m))

module _ (old k c : ℕ) where
  abbrev high : ℕ
  high = old / 2 ^ (k + c)

  -- with its own bits it is as before
  kept : old ≡ replaced old k c (old / 2 ^ k)
  kept =
      let top : old / 2 ^ k / 2 ^ c ≡ high = shr-shr old k c in
      let upper : old / 2 ^ k ≡ high * 2 ^ c + old / 2 ^ k % 2 ^ c = sym (div-add-mod' (old / 2 ^ k) (2 ^ c)) ∙ ap (λ n. n * 2 ^ c + old / 2 ^ k % 2 ^ c) top in
      sym (div-add-mod' old (2 ^ k)) ∙ ap (λ n. n * 2 ^ k + old % 2 ^ k) upper

  spelled : (p new : ℕ) → bits_of_number ((p + c) + k) (replaced old k c new) ≡ (bits_of_number p high ++ bits_of_number c new) ++ bits_of_number k old
  spelled p new =
      bits_of_number-append (p + c) k (high * 2 ^ c + new % 2 ^ c) (old % 2 ^ k) (mod-lt old (pow_pos k))
      ∙ ap (λ l. l ++ bits_of_number k (old % 2 ^ k)) (bits_of_number-append p c high (new % 2 ^ c) (mod-lt new (pow_pos c)) ∙ ap (λ l. bits_of_number p high ++ l) (bits_of_number-mod c new))
      ∙ ap (λ l. (bits_of_number p high ++ bits_of_number c new) ++ l) (bits_of_number-mod k old)

  overlaid : (p new : ℕ) → bits_of_number ((p + c) + k) (replaced old k c new) ≡ overlay (bits_of_number ((p + c) + k) old) p (bits_of_number c new)
  overlaid p new =
      let mine = bits_of_number c (old / 2 ^ k) in
      let size : length (bits_of_number c new) ≡ length mine = length-bits_of_number c new ∙ sym (length-bits_of_number c (old / 2 ^ k)) in
      spelled p new
      ∙ sym (overlay-middle (bits_of_number p high) mine (bits_of_number k old) (bits_of_number c new) size)
      ∙ ap (λ n. overlay ((bits_of_number p high ++ mine) ++ bits_of_number k old) n (bits_of_number c new)) (length-bits_of_number p high)
      ∙ ap (λ l. overlay l p (bits_of_number c new)) (sym (ap (bits_of_number ((p + c) + k)) kept ∙ spelled p (old / 2 ^ k)))

  -- put back where the old number was
  pub put_back : (b : List Bool) (at p w new : ℕ) → p + c + k ≡ w → at + w ≤ length b → old ≡ number_of_bits (take w (drop at b)) → overlay b at (bits_of_number w (replaced old k c new)) ≡ overlay b (at + p) (bits_of_number c new)
  put_back b at p w new size room is =
      let own : bits_of_number w old ≡ take w (drop at b) = ap (bits_of_number w) is ∙ sym (take-spelled w (drop at b) (omega (arith, length-drop at b, room))) in
      let there : length (take w (drop at b)) ≡ w = omega (arith, length-take w (drop at b), length-drop at b, room) in
      ap (λ n. overlay b at (bits_of_number n (replaced old k c new))) (sym size)
      ∙ ap (overlay b at) (overlaid p new ∙ ap (λ n. overlay (bits_of_number n old) p (bits_of_number c new)) size ∙ ap (λ l. overlay l p (bits_of_number c new)) own)
      ∙ sym (overlay-inside b at (take w (drop at b)) p (bits_of_number c new) (omega (arith, there, room)) (omega (arith, there, size, length-bits_of_number c new)))
      ∙ ap (λ l. overlay l (at + p) (bits_of_number c new)) (overlay-same b at w room)

-- by shifts and masks of 64 bits
module _ (old k c new : ℕ) (within : k + c ≤ 16) (small : old < 65536) where
  mask : (n : ℕ) → n ≤ 16 → 1 * 2 ^ n % 2 ^ 64 ≡ 2 ^ n
  mask n h = one_shl n 64 (omega arith)

  few : (n : ℕ) → n ≤ 16 → 2 ^ n ≤ 65536
  few n h = pow_mono {i = n} {j = 16} h

  pub masked : (old / 2 ^ (k + c) * 2 ^ c % 2 ^ 64 + new % (1 * 2 ^ c % 2 ^ 64)) * 2 ^ k % 2 ^ 64 + old % (1 * 2 ^ k % 2 ^ 64) ≡ replaced old k c new
  masked =
      let high = old / 2 ^ (k + c) in
      let part = high * 2 ^ c + new % 2 ^ c in
      let room : high * 2 ^ c ≤ 65535 = omega (arith, mul-le-mul_left high (pow_mono {i = c} {j = k + c} (omega arith)), div-mul-le_self old (2 ^ (k + c)), small) in
      let low : new % 2 ^ c < 65536 = omega (arith, mod-lt new (pow_pos c), few c (omega arith)) in
      let shifted : part * 2 ^ k < 2 ^ 64 = omega (arith, mul-le-mul_left part (few k (omega arith)), room, low) in
      ap (λ n. (high * 2 ^ c % 2 ^ 64 + new % n) * 2 ^ k % 2 ^ 64 + old % (1 * 2 ^ k % 2 ^ 64)) (mask c (omega arith))
      ∙ ap (λ n. (high * 2 ^ c % 2 ^ 64 + new % 2 ^ c) * 2 ^ k % 2 ^ 64 + old % n) (mask k (omega arith))
      ∙ ap (λ n. (n + new % 2 ^ c) * 2 ^ k % 2 ^ 64 + old % 2 ^ k) (mod-eq_of_lt (omega (arith, room)))
      ∙ ap (λ n. n + old % 2 ^ k) (mod-eq_of_lt shifted)
