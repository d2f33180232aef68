-- What a pull copies and what it leaves, at the list that is left.
use Rattle.std.proofs.Common.{arith, ◌≡◌, ◌+◌, ◌≤◌, ℕ, List, ◌++◌, length, take, drop, sym, ap, ◌∙◌}
use Rattle.std.proofs.lemmas.Grind.{common_steps}
use Rattle.std.proofs.lemmas.List.{take-append-drop, drop-drop}

-- the octets that were copied into the slice, and then those behind them, are what was left
pub copies_front : (octets into copied : List ℕ) (taken count : ℕ)
    → count ≤ length (drop taken octets) → copied ≡ take count (drop taken octets)
    → drop taken octets ≡ take count (copied ++ drop count into) ++ drop (taken + count) octets
copies_front octets into copied taken count within copy =
    let front : take count (copied ++ drop count into) ≡ take count (drop taken octets) = grind (arith, common_steps) in
    sym (take-append-drop count (drop taken octets))
    ∙ ap (λ l. l ++ drop count (drop taken octets)) (sym front)
    ∙ ap (λ l. take count (copied ++ drop count into) ++ l) (drop-drop count taken octets)
