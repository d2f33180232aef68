-- What is overlaid: what is behind it, a part between others, and octets.
use Rattle.std.proofs.Common.{◌≡◌, ℕ, ◌+◌, ◌-◌, ◌≤◌, List, ◌++◌, length, take, drop, sym, ap, ◌∙◌, append_assoc, arith, length-append}
use Rattle.std.proofs.lemmas.List.{drop-drop, length-take-le}
use Rattle.narc_bits.specs.Bits.{overlay}
use Rattle.narc_bits.specs.Octets.{IsOctets}
use Rattle.narc_bits.proofs.Lists.{drop-append-add, overlay-behind, overlay-front}
use Rattle.narc_bits.proofs.Octets.{IsOctets-append, IsOctets-take, IsOctets-drop}

-- what is behind stays
pub drop-overlay : {X : Type 0} (l : List X) (k : ℕ) (s : List X) (i : ℕ) → k + length s ≤ i → k ≤ length l → drop i (overlay l k s) ≡ drop i l
unfolding overlay
drop-overlay l k s i end inside =
    let front = take k l ++ s in
    let tail = drop (k + length s) l in
    let more = i - (k + length s) in
    let at : i ≡ length front + more = omega (arith, end, length-append (take k l) s, length-take-le k l inside) in
    let whole : (k + length s) + more ≡ i = omega (arith, end) in
    ap (drop i) (sym (append_assoc (take k l) s tail)) ∙ ap (λ m. drop m (front ++ tail)) at ∙ drop-append-add front tail more ∙ drop-drop more (k + length s) l ∙ ap (λ m. drop m l) whole

-- a part between others
pub overlay-between : {X : Type 0} (front part back : List X) (n : ℕ) → length front ≡ n → (k : ℕ) (s : List X) → k + length s ≤ length part → overlay (front ++ (part ++ back)) (n + k) s ≡ front ++ (overlay part k s ++ back)
overlay-between front part back n size k s inside = overlay-behind front (part ++ back) n k s size ∙ ap (λ l. front ++ l) (overlay-front part back k s inside)

pub IsOctets-overlay : (l : List ℕ) (k : ℕ) (s : List ℕ) → IsOctets l → IsOctets s → IsOctets (overlay l k s)
unfolding overlay
IsOctets-overlay l k s p q = IsOctets-append (take k l) (s ++ drop (k + length s) l) (IsOctets-take k l p) (IsOctets-append s (drop (k + length s) l) q (IsOctets-drop (k + length s) l p))
