-- Hexadecimal digits that are read by pieces.
use Rattle.std.proofs.Common.{◌≡◌, ◌≢◌, ℕ, zero, suc, ◌+◌, ◌-◌, ◌*◌, ◌<◌, ◌≤◌, List, ◌∷◌, ◌++◌, length, take, drop, replicate, refl, sym, ap, ◌∙◌, subst, arith, length-append, length-take, length-drop, take-append-drop, append-nil}
use Rattle.std.proofs.Math.Seq.{take-add}
use borrow.Rule.Slice.PartMut.{put_mid}
use Rattle.std.proofs.lemmas.Slice.{take-put_mid}
use Rattle.std.proofs.lemmas.List.{take_at, take_all, take-take, drop_all, append_cancel_left, drop-replicate}
use Rattle.std.proofs.lemmas.List.Elements.{recursion_from_All, All-replicate}
use Rattle.hex.specs.Hex.{encode_with, encode_lower, lower_digits}
use Rattle.hex.proofs.HexLemmas.{length-encode_with}
use Rattle.narc_bits.specs.Octets.{IsOctets}
use Rattle.narc_bits.proofs.Octets.{IsOctets-take, IsOctets-drop, IsOctets-append}
use Rattle.narc_text.proofs.HexWords.{encode_lower-append, take-encode_lower}

pub IsOctets-zeros : (n : ℕ) → IsOctets (replicate n 0)
IsOctets-zeros n = recursion_from_All (λ o. o < 256) (replicate n 0) (All-replicate (λ o. o < 256) n 0 (omega arith))

-- what no octets are printed as
abbrev pub IsUnprinted : List ℕ → Type 0
IsUnprinted digits = (o : List ℕ) → IsOctets o → digits ≢ encode_lower o

pub drop-encode_lower : (k : ℕ) (l : List ℕ) → drop (2 * k) (encode_lower l) ≡ encode_lower (drop k l)
drop-encode_lower k l =
    append_cancel_left (take (2 * k) (encode_lower l)) (drop (2 * k) (encode_lower l)) (encode_lower (drop k l))
    (take-append-drop (2 * k) (encode_lower l) ∙ ap encode_lower (sym (take-append-drop k l)) ∙ encode_lower-append (take k l) (drop k l) ∙ ap (λ f. f ++ encode_lower (drop k l)) (sym (take-encode_lower k l)))

-- what is printed of no octets is in nothing that is printed of octets
pub IsUnprinted-part : (digits : List ℕ) (at k : ℕ) → IsUnprinted (take (2 * k) (drop (2 * at) digits)) → IsUnprinted digits
IsUnprinted-part digits at k none o is printed =
    none (take k (drop at o)) (IsOctets-take k (drop at o) (IsOctets-drop at o is))
    (ap (λ l. take (2 * k) (drop (2 * at) l)) printed ∙ ap (take (2 * k)) (drop-encode_lower at o) ∙ take-encode_lower k (drop at o))

pub encode_lower-zeros : (n : ℕ) → encode_lower (replicate n 0) ≡ replicate (2 * n) 48
unfolding encode_with
encode_lower-zeros zero = refl
encode_lower-zeros (suc n) = ap (λ l. 48 ∷ 48 ∷ l) (encode_lower-zeros n) ∙ ap (λ m. replicate m 48) {x = suc (suc (2 * n))} (omega arith)

-- fewer digits, in front of digits 0
pub few-unprinted : (digits new : List ℕ) (n : ℕ) → new ≡ digits → length digits ≡ 2 * n → n ≤ 16 → IsUnprinted (new ++ drop (length digits) (replicate 32 48)) → IsUnprinted digits
few-unprinted digits new n same size few none o is printed =
    let rest : 32 - length digits ≡ 2 * (16 - n) = omega arith in
    none (o ++ replicate (16 - n) 0) (IsOctets-append o (replicate (16 - n) 0) is (IsOctets-zeros (16 - n)))
    (ap (λ l. l ++ drop (length digits) (replicate 32 48)) (same ∙ printed)
    ∙ ap (λ l. encode_lower o ++ l) (drop-replicate (length digits) 32 48 ∙ ap (λ k. replicate k 48) rest ∙ sym (encode_lower-zeros (16 - n)))
    ∙ sym (encode_lower-append o (replicate (16 - n) 0)))

pub few-printed : (digits new rest sixteen octets : List ℕ) (n : ℕ) → new ≡ digits → length digits ≡ 2 * n → new ++ rest ≡ encode_lower sixteen → octets ≡ take n sixteen → digits ≡ encode_lower octets
few-printed digits new rest sixteen octets n same size printed is =
    sym same ∙ sym (take_at new rest (2 * n) (ap length same ∙ size)) ∙ ap (take (2 * n)) printed ∙ take-encode_lower n sixteen ∙ ap encode_lower (sym is)

-- a piece of so many digits from this place on
pub piece-unprinted : (digits : List ℕ) (n m at k : ℕ) → n ≡ 2 * k → m ≡ 2 * at → IsUnprinted (take n (drop m digits)) → IsUnprinted digits
piece-unprinted digits n m at k e f none =
    IsUnprinted-part digits at k (subst (λ x. IsUnprinted (take x (drop (2 * at) digits))) e (subst (λ y. IsUnprinted (take n (drop y digits))) f none))

pub rest-unprinted : (digits : List ℕ) (n m at k : ℕ) → length digits ≡ 2 * k → m ≡ 2 * at → at ≤ k → n ≡ length digits - m → IsUnprinted (take n (drop m digits)) → IsUnprinted digits
rest-unprinted digits n m at k size f inside e none = piece-unprinted digits n m at (k - at) (omega arith) f none

pub piece-size : (digits new : List ℕ) (n m : ℕ) → take n (drop m digits) ≡ encode_lower new → m + n ≤ length digits → 2 * length new ≡ n
piece-size digits new n m e inside =
    omega (arith, ap length e, length-encode_with lower_digits new, length-take n (drop m digits), length-drop m digits, inside)

-- one piece more is read
pub piece-more : (digits octets new : List ℕ) (i n k : ℕ) → n ≡ 32 → 32 * i + 32 ≤ length digits → 16 * i + 16 ≤ length octets → take n (drop (32 * i) digits) ≡ encode_lower new
    → take (32 * i) digits ≡ encode_lower (take (16 * i) octets) → take (32 * (i + 1)) digits ≡ encode_lower (take (16 * (i + 1)) (put_mid (16 * i) k octets new))
piece-more digits octets new i n k is inside room e before =
    let next : 32 * (i + 1) ≡ 32 * i + 32 = omega arith in
    let size = piece-size digits new n (32 * i) e (omega (arith, is)) in
    ap (λ x. take x digits) next ∙ take-add (32 * i) 32 digits
    ∙ ap (λ l. l ++ take 32 (drop (32 * i) digits)) before
    ∙ ap (λ l. encode_lower (take (16 * i) octets) ++ l) (ap (λ x. take x (drop (32 * i) digits)) (sym is) ∙ e)
    ∙ sym (encode_lower-append (take (16 * i) octets) new)
    ∙ ap encode_lower (sym (take-put_mid (16 * i) k octets new (16 * (i + 1)) (omega (arith, size, is)) (omega (arith, room))))

pub length-put_mid : (octets new : List ℕ) (at k : ℕ) → at + k ≤ length octets → length new ≡ k → length (put_mid at k octets new) ≡ length octets
length-put_mid octets new at k room e =
    omega (arith, length-append (take at octets) (new ++ drop k (drop at octets)), length-append new (drop k (drop at octets)), length-take at octets, length-drop k (drop at octets), length-drop at octets, room, e)

-- fewer of what was read
pub fewer : (digits octets : List ℕ) (n m at : ℕ) → take n digits ≡ encode_lower (take m octets) → 2 * at ≤ n → at ≤ m → take (2 * at) digits ≡ encode_lower (take at octets)
fewer digits octets n m at read few less =
    sym (take-take (2 * at) n digits few) ∙ ap (take (2 * at)) read ∙ take-encode_lower at (take m octets) ∙ ap encode_lower (take-take at m octets less)

-- the last piece is read
pub piece-last : (digits octets new : List ℕ) (at k m : ℕ) → length octets - at ≤ k → length digits - 2 * at ≤ m → take m (drop (2 * at) digits) ≡ encode_lower new
    → take (2 * at) digits ≡ encode_lower (take at octets) → digits ≡ encode_lower (put_mid at k octets new)
piece-last digits octets new at k m room whole e before =
    let rest : encode_lower new ≡ drop (2 * at) digits = sym e ∙ take_all m (drop (2 * at) digits) (omega (arith, whole, length-drop (2 * at) digits)) in
    sym (take-append-drop (2 * at) digits)
    ∙ ap (λ l. l ++ drop (2 * at) digits) before
    ∙ ap (λ l. encode_lower (take at octets) ++ l) (sym rest)
    ∙ sym (encode_lower-append (take at octets) new)
    ∙ ap (λ l. encode_lower (take at octets ++ l)) (sym (append-nil new) ∙ ap (λ r. new ++ r) (sym (drop_all k (drop at octets) (omega (arith, room, length-drop at octets)))))
