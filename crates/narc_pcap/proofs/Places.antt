-- A record in its place in a buffer.
use Rattle.std.proofs.Common.{◌≡◌, ℕ, ◌+◌, ◌-◌, ◌≤◌, List, ◌++◌, length, take, drop, ap, ◌∙◌, arith}
use Rattle.std.proofs.lemmas.List.{drop-drop, drop_at, take-append-le, take-take, length-take-le}
use Rattle.std.proofs.Math.Seq.{take-append-add}
use borrow.Rule.Slice.PartMut.{put_mid}

-- a frame that was written behind the place of its head, and then the head
pub placed : (buffer head piece : List ℕ) (at k count : ℕ) → at + 16 ≤ length buffer → length head ≡ 16 → count ≤ length piece
    → take (at + 16 + count) (put_mid at (at + 16 - at) (put_mid (at + 16) k buffer piece) head) ≡ take at buffer ++ (head ++ take count piece)
placed buffer head piece at k count within size fits =
    let first = take at buffer in
    let front = take (at + 16) buffer in
    let after = drop k (drop (at + 16) buffer) in
    let framed = put_mid (at + 16) k buffer piece in
    let front_size : length front ≡ at + 16 = length-take-le (at + 16) buffer within in
    let few : at ≤ at + 16 = omega arith in
    let inside : at ≤ length front = omega arith in
    let there : take at framed ≡ first = take-append-le at front (piece ++ after) inside ∙ take-take at (at + 16) buffer few in
    let far : at + (at + 16 - at) ≡ at + 16 = omega arith in
    let behind : drop (at + 16 - at) (drop at framed) ≡ piece ++ after =
    drop-drop (at + 16 - at) at framed ∙ ap (λ n. drop n framed) far ∙ drop_at front (piece ++ after) (at + 16) front_size in
    let first_size : length first ≡ at = length-take-le at buffer (omega arith) in
    let whole_size : at + 16 + count ≡ length first + (length head + count) = omega arith in
    ap (λ l. take (at + 16 + count) (l ++ (head ++ drop (at + 16 - at) (drop at framed)))) there
    ∙ ap (λ l. take (at + 16 + count) (first ++ (head ++ l))) behind
    ∙ ap (λ n. take n (first ++ (head ++ (piece ++ after)))) whole_size
    ∙ take-append-add first (head ++ (piece ++ after)) (length head + count)
    ∙ ap (λ l. first ++ l) (take-append-add head (piece ++ after) count ∙ ap (λ l. head ++ l) (take-append-le count piece after fits))
