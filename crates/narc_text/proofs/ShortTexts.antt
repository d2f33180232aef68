-- Texts of numbers, written in place.
use Rattle.std.proofs.Common.{◌≡◌, ℕ, ◌+◌, ◌≤◌, List, ◌++◌, decimal, length, get_or, set, take, drop, sym, ap, ◌∙◌, arith, length-set}
use Rattle.std.proofs.Math.Seq.{take-add, take-append_seam}
use Rattle.std.proofs.lemmas.List.{get_or-set_same, take-set-le}
use Rattle.narc_text.specs.Texts.{IsText}

-- a number's text in front of four octets, and its length behind
pub IsText-written : (n width start : ℕ) (octets old : List ℕ) → start + length (decimal n) ≡ width → width ≡ length (decimal n) → width ≤ 3 → length octets ≡ 4
    → drop start octets ≡ decimal n ++ drop width old → IsText n (set octets 3 width)
IsText-written n width start octets old starts same few size written =
    let none : start ≡ 0 = omega (arith, starts, same) in
    let front : octets ≡ decimal n ++ drop width old = sym (ap (λ k. drop k octets) none) ∙ written in
    let last : get_or (set octets 3 width) 3 0 ≡ width = get_or-set_same octets 3 width 0 (omega (arith, size)) in
    record {
      size = length-set octets 3 width ∙ size;
      few = omega (arith, last, few);
      is = ap (λ k. take k (set octets 3 width)) last ∙ take-set-le width octets 3 width few ∙ ap (take width) front ∙ ap (λ k. take k (decimal n ++ drop width old)) same ∙ take-append_seam (decimal n) (drop width old);
    }

-- a word that was written at a place, and what stood before
pub take-written : (old new word : List ℕ) (at start to : ℕ) → start + length word ≡ to → to ≡ at + length word
    → drop start new ≡ word ++ drop to old → take start new ≡ take start old → take to new ≡ take at old ++ word
take-written old new word at start to starts ends written before =
    let same : start ≡ at = omega (arith, starts, ends) in
    let front : take at new ≡ take at old = ap (λ k. take k new) (sym same) ∙ before ∙ ap (λ k. take k old) same in
    let back : take (length word) (drop at new) ≡ word = ap (λ k. take (length word) (drop k new)) (sym same) ∙ ap (take (length word)) written ∙ take-append_seam word (drop to old) in
    ap (λ k. take k new) ends ∙ take-add at (length word) new ∙ ap (λ l. l ++ take (length word) (drop at new)) front ∙ ap (λ l. take at old ++ l) back
