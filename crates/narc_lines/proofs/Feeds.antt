-- Octets without a line feed.
use Rattle.std.proofs.Common.{◌≡◌, ℕ, zero, suc, ◌+◌, ◌-◌, ◌<◌, ◌≤◌, List, [], ◌∷◌, ◌++◌, length, take, drop, sym, ap, ◌∙◌, subst, arith, append_assoc, take-append-drop, length-append, length-drop}
use Rattle.std.specs.Prelude.{slice_index}
use Rattle.std.proofs.Math.Seq.{take-add}
use Rattle.std.proofs.lemmas.Bool.{eq-eqb, eqb-true}
use Rattle.std.proofs.lemmas.List.{length-take-le, take-take, take_all, take_at, take_more}
use Rattle.memchr.specs.Find.{NoneBefore, Nowhere, Passes, is_byte}
use Rattle.narc_lines.specs.Lines.{HasNoFeed, BeginsLine}

pub HasNoFeed-append : (a b : List ℕ) → HasNoFeed a → HasNoFeed b → HasNoFeed (a ++ b)
HasNoFeed-append [] b p q = q
HasNoFeed-append (o ∷ a) b p q = (p.0, HasNoFeed-append a b p.1 q)

pub HasNoFeed-take : (n : ℕ) (l : List ℕ) → HasNoFeed l → HasNoFeed (take n l)
HasNoFeed-take zero l p = tt
HasNoFeed-take (suc n) [] p = tt
HasNoFeed-take (suc n) (o ∷ l) p = (p.0, HasNoFeed-take n l p.1)

-- no place before this one has a line feed
pub none_before : (l : List ℕ) (n : ℕ) → ((k : ℕ) → k < n → slice_index l k ≡ 10 → ⊥) → HasNoFeed (take n l)
none_before l zero h = tt
none_before [] (suc n) h = tt
none_before (o ∷ l) (suc n) h = (λ e. h 0 (omega arith) e, none_before l n (λ k b e. h (suc k) (omega arith) e))

-- looked through to the end
pub looked_through : (l : List ℕ) (n : ℕ) → HasNoFeed (take n l) → HasNoFeed (drop n l) → HasNoFeed l
looked_through l n p q = subst HasNoFeed (take-append-drop n l) (HasNoFeed-append (take n l) (drop n l) p q)

-- octets behind a front in which a line feed was found, and before it none
pub feed_found : (l hay : List ℕ) (n b : ℕ) → hay ≡ drop n l → n ≤ length l → HasNoFeed (take n l)
    → NoneBefore (Passes (is_byte 10) hay) 0 (length hay) b × Passes (is_byte 10) hay b → BeginsLine l (n + b + 1)
feed_found l hay n b same within p found =
    let size : length hay + n ≡ length l = omega (arith, ap length same, length-drop n l, within) in
    let inside : b < length hay = (found.0).high in
    let far : n + b + 1 ≡ n + (b + 1) = omega arith in
    let front = take n l in
    let feed : slice_index hay b ≡ 10 = eqb-true (slice_index hay b) 10 found.1 in
    let more : take (b + 1) hay ≡ take b hay ++ 10 ∷ [] = take_more hay b 0 inside ∙ ap (λ o. take b hay ++ o ∷ []) feed in
    record {
      line = record {
        line = front ++ take b hay;
        none = HasNoFeed-append front (take b hay) p (none_before hay b (λ k low e. (found.0).before k (omega arith) low (eq-eqb (slice_index hay k) 10 e)));
        is = ap (λ k. take k l) far ∙ take-add n (b + 1) l ∙ ap (λ s. front ++ take (b + 1) s) (sym same) ∙ ap (λ s. front ++ s) more
            ∙ sym (append_assoc front (take b hay) (10 ∷ []));
      };
      within = omega (arith, size, inside);
    }

pub no_feed_found : (l hay : List ℕ) (n : ℕ) → hay ≡ drop n l → HasNoFeed (take n l) → Nowhere (Passes (is_byte 10) hay) 0 (length hay) → HasNoFeed l
no_feed_found l hay n same p nowhere =
    looked_through l n p (subst HasNoFeed (take_all (length hay) hay (omega arith) ∙ same)
    (none_before hay (length hay) (λ k low e. nowhere k (omega arith) low (eq-eqb (slice_index hay k) 10 e))))

-- the rest of a list is all that is behind its front
pub rest_is : (l : List ℕ) (n : ℕ) → take (length l - n) (drop n l) ≡ drop n l
rest_is l n = take_all (length l - n) (drop n l) (omega (arith, length-drop n l))

-- before the line feed of a line there is none
pub before_feed : (l : List ℕ) (count : ℕ) → BeginsLine l count → HasNoFeed (take (count - 1) l)
before_feed l count b =
    let line = (b.line).line in
    let size : length line + 1 ≡ count = omega (arith, ap length (b.line).is, length-append line (10 ∷ []), length-take-le count l b.within) in
    let few : count - 1 ≤ count = omega arith in
    let same : take (count - 1) l ≡ line = sym (take-take (count - 1) count l few) ∙ ap (take (count - 1)) (b.line).is ∙ take_at line (10 ∷ []) (count - 1) (omega (arith, size)) in
    subst HasNoFeed (sym same) (b.line).none
