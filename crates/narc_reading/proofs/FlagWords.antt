-- Marks that are read.
use Rattle.std.proofs.Common.{◌≡◌, ℕ, ◌+◌, ◌*◌, ◌/◌, ◌%◌, ◌<◌, ◌≤◌, Bool, true, false, List, [], ◌∷◌, length, get_or, refl, sym, ap, ◌∙◌, arith}
use Rattle.std.specs.Prelude.{if◌then◌else◌}
use Rattle.std.proofs.lemmas.Bool.Decides.{nat_tests}
use Rattle.narc_bits.specs.Bits.{is_odd}
use Rattle.narc_packet.specs.TextWords.{flags_word}
use mir.Val.{bool_byte}

-- a number that a mark stands for, and the octet that is read
pub record IsMarked (letter : ℕ) (set : Bool) (number octet : ℕ) : Type 0 where
  pub bit : number ≡ bool_byte set
  pub mark : octet ≡ (if set then letter else 46)

small : (letter : ℕ) (set : Bool) (number octet : ℕ) → IsMarked letter set number octet → number ≤ 1
small letter true number octet is = omega (arith, is.bit)
small letter false number octet is = omega (arith, is.bit)

odd-bit : (set : Bool) (n : ℕ) → n % 2 ≡ bool_byte set → is_odd n ≡ set
odd-bit true n e = grind (arith, nat_tests)
odd-bit false n e = grind (arith, nat_tests)

mark-again : (letter : ℕ) (set : Bool) (number octet n : ℕ) → IsMarked letter set number octet → n % 2 ≡ number → octet ≡ (if is_odd n then letter else 46)
mark-again letter set number octet n is e = is.mark ∙ ap (λ b. if b then letter else 46) (sym (odd-bit set n (e ∙ is.bit)))

six : (l : List ℕ) → 6 ≤ length l → length l < 7 → l ≡ get_or l 0 0 ∷ get_or l 1 0 ∷ get_or l 2 0 ∷ get_or l 3 0 ∷ get_or l 4 0 ∷ get_or l 5 0 ∷ []
six [] low high = absurd (omega (arith, low))
six (a ∷ []) low high = absurd (omega (arith, low))
six (a ∷ b ∷ []) low high = absurd (omega (arith, low))
six (a ∷ b ∷ c ∷ []) low high = absurd (omega (arith, low))
six (a ∷ b ∷ c ∷ d ∷ []) low high = absurd (omega (arith, low))
six (a ∷ b ∷ c ∷ d ∷ e ∷ []) low high = absurd (omega (arith, low))
six (a ∷ b ∷ c ∷ d ∷ e ∷ f ∷ []) low high = refl
six (a ∷ b ∷ c ∷ d ∷ e ∷ f ∷ g ∷ l) low high = absurd (omega (arith, high))

cons : {a b : ℕ} {l k : List ℕ} → a ≡ b → l ≡ k → a ∷ l ≡ b ∷ k
cons e f = cc (e, f)

pub flags-again : (word : List ℕ) (u a p r s f : Bool) (m1 m2 m3 m4 m5 m6 : ℕ) → 6 ≤ length word → length word < 7
    → IsMarked 85 u m1 (get_or word 0 0) → IsMarked 65 a m2 (get_or word 1 0) → IsMarked 80 p m3 (get_or word 2 0)
    → IsMarked 82 r m4 (get_or word 3 0) → IsMarked 83 s m5 (get_or word 4 0) → IsMarked 70 f m6 (get_or word 5 0)
    → (32 * m1 + 16 * m2 + 8 * m3 + (4 * m4 + 2 * m5 + m6) < 64) × (word ≡ flags_word (32 * m1 + 16 * m2 + 8 * m3 + (4 * m4 + 2 * m5 + m6)))
flags-again word u a p r s f m1 m2 m3 m4 m5 m6 low high k1 k2 k3 k4 k5 k6 =
    let n : ℕ = 32 * m1 + 16 * m2 + 8 * m3 + (4 * m4 + 2 * m5 + m6) in
    let s1 = small 85 u m1 (get_or word 0 0) k1 in
    let s2 = small 65 a m2 (get_or word 1 0) k2 in
    let s3 = small 80 p m3 (get_or word 2 0) k3 in
    let s4 = small 82 r m4 (get_or word 3 0) k4 in
    let s5 = small 83 s m5 (get_or word 4 0) k5 in
    let s6 = small 70 f m6 (get_or word 5 0) k6 in (
      omega (arith, s1, s2, s3, s4, s5, s6),
      six word low high
          ∙ cons (mark-again 85 u m1 (get_or word 0 0) (n / 32) k1 (omega (arith, s1, s2, s3, s4, s5, s6)))
          (cons (mark-again 65 a m2 (get_or word 1 0) (n / 16) k2 (omega (arith, s1, s2, s3, s4, s5, s6)))
          (cons (mark-again 80 p m3 (get_or word 2 0) (n / 8) k3 (omega (arith, s1, s2, s3, s4, s5, s6)))
          (cons (mark-again 82 r m4 (get_or word 3 0) (n / 4) k4 (omega (arith, s1, s2, s3, s4, s5, s6)))
          (cons (mark-again 83 s m5 (get_or word 4 0) (n / 2) k5 (omega (arith, s1, s2, s3, s4, s5, s6)))
          (cons (mark-again 70 f m6 (get_or word 5 0) (n / 1) k6 (omega (arith, s1, s2, s3, s4, s5, s6))) refl))))),
    )
