-- Hexadecimal digits that are read in lanes.
use Rattle.std.proofs.Common.{◌≡◌, ◌≢◌, Bool, true, false, IsTrue, MatchBool, take, drop, length-drop, take-append-drop, ℕ, ◌+◌, ◌*◌, ◌/◌, ◌<◌, ◌%◌, ◌^◌, cond, List, [], ◌∷◌, ◌++◌, length, map, get_or, replicate, refl, sym, ap, ◌∙◌, subst, arith, below_none, below_more}
use Rattle.std.proofs.lemmas.Bool.{false≢true}
use Rattle.std.proofs.lemmas.List.{take-take, take_all, map-append}
use Rattle.std.proofs.lemmas.Nat.{and_mask}
use Rattle.std.specs.Int.Bits.{bit_and}
use Rattle.std.specs.Simd.Lanes.{zip2, sel_l}
use Rattle.hex.specs.Hex.{encode_with, encode_lower, lower_digits}
use Rattle.narc_bits.specs.Octets.{IsOctets}
use Rattle.narc_reading.specs.Digits.{digit_number, octets_of}
use Rattle.narc_text.proofs.Sixteen.{sixteen}
use lib.Dec.{ltb}

pub numbered : (xs : List ℕ)
    → zip2 bit_and (zip2 (λ a b. (a + b) % 256) xs (sel_l (zip2 ltb (replicate (length xs) 57) xs) (replicate (length xs) 9) (replicate (length xs) 0))) (replicate (length xs) 15)
    ≡ map digit_number xs
numbered [] = refl
numbered (x ∷ xs) =
    let n = cond (ltb 57 x) 9 0 in
    let one : bit_and ((x + n) % 256) 15 ≡ digit_number x = and_mask ((x + n) % 256) 4 ∙ omega arith in
    ap (λ y. y ∷ zip2 bit_and (zip2 (λ a b. (a + b) % 256) xs (sel_l (zip2 ltb (replicate (length xs) 57) xs) (replicate (length xs) 9) (replicate (length xs) 0))) (replicate (length xs) 15)) one
    ∙ ap (λ l. digit_number x ∷ l) (numbered xs)

-- every other item
abbrev pub evens : List ℕ → List ℕ
evens l = get_or l 0 0 ∷ get_or l 2 0 ∷ get_or l 4 0 ∷ get_or l 6 0 ∷ get_or l 8 0 ∷ get_or l 10 0 ∷ get_or l 12 0 ∷ get_or l 14 0 ∷ get_or l 16 0 ∷ get_or l 18 0 ∷ get_or l 20 0 ∷ get_or l 22 0 ∷ get_or l 24 0 ∷ get_or l 26 0 ∷ get_or l 28 0 ∷ get_or l 30 0 ∷ []

abbrev pub odds : List ℕ → List ℕ
odds l = get_or l 1 0 ∷ get_or l 3 0 ∷ get_or l 5 0 ∷ get_or l 7 0 ∷ get_or l 9 0 ∷ get_or l 11 0 ∷ get_or l 13 0 ∷ get_or l 15 0 ∷ get_or l 17 0 ∷ get_or l 19 0 ∷ get_or l 21 0 ∷ get_or l 23 0 ∷ get_or l 25 0 ∷ get_or l 27 0 ∷ get_or l 29 0 ∷ get_or l 31 0 ∷ []

abbrev pub paired : (a b : List ℕ) → List ℕ
paired a b = zip2 (λ m n. (m + n) % 256) (zip2 (λ m n. m * 2 ^ n % 256) (evens (a ++ b)) (replicate 16 4)) (odds (a ++ b))

turned : (a b k l : List ℕ) → a ≡ k → b ≡ l → paired k l ≡ octets_of (k ++ l) → paired a b ≡ octets_of (a ++ b)
turned a b k l e f h = subst (λ x. paired x b ≡ octets_of (x ++ b)) (sym e) (subst (λ y. paired k y ≡ octets_of (k ++ y)) (sym f) h)

pub paired-octets_of : (a b : List ℕ) → length a ≡ 16 → length b ≡ 16 → paired a b ≡ octets_of (a ++ b)
paired-octets_of a b m n = turned a b _ _ (sixteen a m) (sixteen b n) refl

-- the number of a digit is what it was printed from
Again : ℕ → Type 0
Again n = digit_number (get_or lower_digits n 0) ≡ n

again : (n : ℕ) → n < 16 → Again n
unfolding Again
again = below_more Again 15 (below_more Again 14 (below_more Again 13 (below_more Again 12 (below_more Again 11 (below_more Again 10 (below_more Again 9 (below_more Again 8 (below_more Again 7 (below_more Again 6 (below_more Again 5 (below_more Again 4 (below_more Again 3 (below_more Again 2 (below_more Again 1 (below_more Again 0 (below_none Again) refl) refl) refl) refl) refl) refl) refl) refl) refl) refl) refl) refl) refl) refl) refl) refl

pub octets_of-encode_lower : (octets : List ℕ) → IsOctets octets → octets_of (map digit_number (encode_lower octets)) ≡ octets
unfolding encode_with Again
octets_of-encode_lower [] is = refl
octets_of-encode_lower (o ∷ octets) is =
    let high = again (o / 16) (omega (arith, is.0)) in
    let low = again (o % 16) (omega (arith, is.0)) in
    ap (λ l. ((digit_number (get_or lower_digits (o / 16) 0) * 16 % 256 + digit_number (get_or lower_digits (o % 16) 0)) % 256) ∷ l) (octets_of-encode_lower octets is.1)
    ∙ ap (λ n. n ∷ octets) (omega (arith, high, low, is.0))

-- what was read of digits is what they were printed from
pub read-again : (digits front back first second octets new : List ℕ) → length digits ≡ 32 → front ≡ take 16 digits → back ≡ drop 16 digits
    → first ≡ map digit_number (take 16 front) → second ≡ map digit_number (take 16 back) → new ≡ octets_of (first ++ second)
    → IsOctets octets → digits ≡ encode_lower octets → new ≡ octets
read-again digits front back first second octets new size f b e d n is printed =
    let one : take 16 front ≡ take 16 digits = ap (take 16) f ∙ take-take 16 16 digits (omega arith) in
    let two : take 16 back ≡ drop 16 digits = ap (take 16) b ∙ take_all 16 (drop 16 digits) (omega (arith, length-drop 16 digits, size)) in
    n ∙ ap (λ l. octets_of (l ++ second)) (e ∙ ap (map digit_number) one) ∙ ap (λ l. octets_of (map digit_number (take 16 digits) ++ l)) (d ∙ ap (map digit_number) two)
    ∙ ap octets_of (sym (map-append digit_number (take 16 digits) (drop 16 digits)) ∙ ap (map digit_number) (take-append-drop 16 digits ∙ printed))
    ∙ octets_of-encode_lower octets is

pub printed-again : (r : Bool) (digits new again : List ℕ) → (IsTrue r → digits ≡ again) × (digits ≡ again → IsTrue r) → again ≡ encode_lower new
    → ((o : List ℕ) → IsOctets o → digits ≡ encode_lower o → new ≡ o) → MatchBool r (digits ≡ encode_lower new) ((o : List ℕ) → IsOctets o → digits ≢ encode_lower o)
printed-again true digits new again same e known = same.0 refl ∙ e
printed-again false digits new again same e known = λ o is d. false≢true (same.1 (d ∙ ap encode_lower (sym (known o is d)) ∙ sym e))
