-- Rooms of octets, in front of which others were put.
use Rattle.std.proofs.Common.{◌≡◌, ℕ, ◌+◌, ◌≤◌, List, ◌++◌, length, take, drop, sym, ap, ◌∙◌, arith, length-append, length-drop}
use Rattle.std.proofs.lemmas.List.{take_at, drop_at}
use Rattle.narc_bits.specs.Octets.{IsOctets}
use Rattle.narc_bits.specs.Bits.{bits, overlay}
use Rattle.narc_bits.proofs.Octets.{IsOctets-append, IsOctets-drop}
use Rattle.narc_bits.proofs.Spelled.{bits_same, bits-overlay}

overlay-at : (l s : List ℕ) → overlay l 0 s ≡ s ++ drop (length s) l
unfolding overlay
overlay-at l s = let e : 0 + length s ≡ length s = omega arith in ap (λ n. s ++ drop n l) e

-- the octets whose bits were put, and then those that were there
pub put_front : (old new s : List ℕ) → IsOctets old → IsOctets new → IsOctets s → length s ≤ length old → bits new ≡ overlay (bits old) 0 (bits s) → new ≡ s ++ drop (length s) old
put_front old new s old_each new_each each enough put =
    bits_same new (s ++ drop (length s) old) new_each (IsOctets-append s (drop (length s) old) each (IsOctets-drop (length s) old old_each))
    (put ∙ sym (bits-overlay old 0 s (omega (arith, enough))) ∙ ap bits (overlay-at old s))

module _ (old new s : List ℕ) (n : ℕ) (size : n ≡ length s) (put : new ≡ s ++ drop (length s) old) where
  pub taken : take n new ≡ s
  taken = ap (take n) put ∙ take_at s (drop (length s) old) n (sym size)

  pub left : drop n new ≡ drop n old
  left = ap (drop n) put ∙ drop_at s (drop (length s) old) n (sym size) ∙ ap (λ k. drop k old) (sym size)

  pub as_long : n ≤ length old → length new ≡ length old
  as_long enough = omega (arith, ap length put, length-append s (drop (length s) old), length-drop (length s) old, size)
