-- Numbers and the bits that spell them.
use Rattle.std.proofs.Common.{◌≡◌, ℕ, suc, zero, ◌+◌, ◌*◌, ◌-◌, ◌<◌, ◌≤◌, ◌/◌, ◌%◌, ◌^◌, Bool, true, false, cond, eqb, List, [], ◌∷◌, ◌++◌, length, take, set, get_or, refl, sym, ap, ◌∙◌, subst, append_assoc, arith, length-append, length-take}
use Rattle.std.proofs.Common.{lit<}
use Rattle.std.proofs.Math.Nat.{pow-succ', mod-eq_of_lt, mod-lt, mul-le-mul_right, mul-add-div_right, div-add-mod'}
use Rattle.std.proofs.Math.Pow.{pow_mono, pow_pos, pow-add}
use Rattle.std.proofs.lemmas.List.{take_more, get_or_append_left, get_or-append-add, set-append_left, set-append_right, set_at}
use Rattle.std.proofs.lemmas.Nat.{shr_below, pow_below, shr_high, shr-shr, mod-pow-add}
use Rattle.narc_bits.specs.Bits.{is_odd, bits_of_number, bits, number_of_bits}

pub length-bits_of_number : (n v : ℕ) → length (bits_of_number n v) ≡ n
unfolding bits_of_number
length-bits_of_number zero v = refl
length-bits_of_number (suc n) v = ap suc (length-bits_of_number n v)

pub length-bits : (b : List ℕ) → length (bits b) ≡ 8 * length b
unfolding bits
length-bits [] = refl
length-bits (x ∷ xs) = omega (arith, length-append (bits_of_number 8 x) (bits xs), length-bits_of_number 8 x, length-bits xs)

pub bits-append : (a b : List ℕ) → bits (a ++ b) ≡ bits a ++ bits b
unfolding bits
bits-append [] b = refl
bits-append (x ∷ a) b = ap (λ l. bits_of_number 8 x ++ l) (bits-append a b) ∙ sym (append_assoc (bits_of_number 8 x) (bits a) (bits b))

odd-step : (h q : ℕ) → is_odd (h * 2 + q) ≡ is_odd q
odd-step h q = let e : (h * 2 + q) % 2 ≡ q % 2 = omega arith in ap (λ k. eqb k 1) e

pow-next : (m : ℕ) → 2 ^ suc m ≡ 2 * 2 ^ m
pow-next m = pow-succ' 2 m

-- a multiple of 2 ^ m is not seen in the last m bits
pub bits_of_number-low : (m hi lo : ℕ) → bits_of_number m (hi * 2 ^ m + lo) ≡ bits_of_number m lo
unfolding bits_of_number
bits_of_number-low zero hi lo = refl
bits_of_number-low (suc m) hi lo =
    let regroup : hi * (2 * 2 ^ m) + lo ≡ hi * 2 * 2 ^ m + lo = omega arith in
    let same : hi * 2 ^ suc m + lo ≡ hi * 2 * 2 ^ m + lo = ap (λ k. hi * k + lo) (pow-next m) ∙ regroup in
    ap (λ k. is_odd (k / 2 ^ m) ∷ bits_of_number m k) same
    ∙ ap (λ k. is_odd k ∷ bits_of_number m (hi * 2 * 2 ^ m + lo)) (mul-add-div_right (pow_pos m) (hi * 2) lo)
    ∙ ap (λ b. b ∷ bits_of_number m (hi * 2 * 2 ^ m + lo)) (odd-step hi (lo / 2 ^ m))
    ∙ ap (λ l. is_odd (lo / 2 ^ m) ∷ l) (bits_of_number-low m (hi * 2) lo)

-- high bits, then low bits
pub bits_of_number-append : (p m hi lo : ℕ) → lo < 2 ^ m → bits_of_number (p + m) (hi * 2 ^ m + lo) ≡ bits_of_number p hi ++ bits_of_number m lo
unfolding bits_of_number
bits_of_number-append zero m hi lo h = let e : 0 + m ≡ m = omega arith in ap (λ k. bits_of_number k (hi * 2 ^ m + lo)) e ∙ bits_of_number-low m hi lo
bits_of_number-append (suc p) m hi lo h =
    let x = hi * 2 ^ m + lo in
    let turned : p + m ≡ m + p = omega arith in
    let next : suc p + m ≡ suc (p + m) = omega arith in
    let top : x / 2 ^ (p + m) ≡ hi / 2 ^ p =
    ap (λ k. x / 2 ^ k) turned ∙ sym (shr-shr x m p) ∙ ap (λ k. k / 2 ^ p) (shr_high hi m lo h) in
    ap (λ k. bits_of_number k x) next
    ∙ ap (λ k. is_odd k ∷ bits_of_number (p + m) x) top
    ∙ ap (λ l. is_odd (hi / 2 ^ p) ∷ l) (bits_of_number-append p m hi lo h)

pub number_of_bits_lt : (bs : List Bool) → number_of_bits bs < 2 ^ length bs
unfolding number_of_bits
number_of_bits_lt [] = lit< tt
number_of_bits_lt (true ∷ bs) = omega (arith, number_of_bits_lt bs, pow-next (length bs))
number_of_bits_lt (false ∷ bs) = omega (arith, number_of_bits_lt bs, pow-next (length bs))

-- a number that the bits spell is spelled by them
pub bits_of_number-number_of_bits : (bs : List Bool) → bits_of_number (length bs) (number_of_bits bs) ≡ bs
unfolding bits_of_number number_of_bits
bits_of_number-number_of_bits [] = refl
bits_of_number-number_of_bits (true ∷ bs) =
    let m = length bs in
    let same : 2 ^ m + number_of_bits bs ≡ 1 * 2 ^ m + number_of_bits bs = omega arith in
    ap (λ k. is_odd (k / 2 ^ m) ∷ bits_of_number m k) same
    ∙ ap (λ k. is_odd k ∷ bits_of_number m (1 * 2 ^ m + number_of_bits bs)) (shr_high 1 m (number_of_bits bs) (number_of_bits_lt bs))
    ∙ ap (λ l. true ∷ l) (bits_of_number-low m 1 (number_of_bits bs) ∙ bits_of_number-number_of_bits bs)
bits_of_number-number_of_bits (false ∷ bs) =
    let m = length bs in
    let same : 0 + number_of_bits bs ≡ 0 * 2 ^ m + number_of_bits bs = omega arith in
    ap (λ k. is_odd (k / 2 ^ m) ∷ bits_of_number m k) same
    ∙ ap (λ k. is_odd k ∷ bits_of_number m (0 * 2 ^ m + number_of_bits bs)) (shr_high 0 m (number_of_bits bs) (number_of_bits_lt bs))
    ∙ ap (λ l. false ∷ l) (bits_of_number-low m 0 (number_of_bits bs) ∙ bits_of_number-number_of_bits bs)

weight : (r w : ℕ) → r < 2 → cond (eqb r 1) w 0 ≡ r * w
weight zero w h = omega arith
weight (suc zero) w h = omega arith
weight (suc (suc r)) w h = absurd (omega arith)

odd_weight : (q w : ℕ) → cond (is_odd q) w 0 ≡ q % 2 * w
odd_weight q w = weight (q % 2) w (omega arith)

-- the number of the last n bits
pub number_of_bits-bits_of_number : (n v : ℕ) → number_of_bits (bits_of_number n v) ≡ v % 2 ^ n
unfolding bits_of_number number_of_bits
number_of_bits-bits_of_number zero v = omega arith
number_of_bits-bits_of_number (suc n) v =
    let next : 1 + n ≡ suc n = omega arith in
    let one : v / 2 ^ n % 2 ≡ v / 2 ^ n % 2 ^ 1 = refl in
    ap (λ k. cond (is_odd (v / 2 ^ n)) (2 ^ k) 0 + number_of_bits (bits_of_number n v)) (length-bits_of_number n v)
    ∙ ap (λ k. cond (is_odd (v / 2 ^ n)) (2 ^ n) 0 + k) (number_of_bits-bits_of_number n v)
    ∙ ap (λ k. k + v % 2 ^ n) (odd_weight (v / 2 ^ n) (2 ^ n))
    ∙ ap (λ k. k * 2 ^ n + v % 2 ^ n) one
    ∙ sym (mod-pow-add v 1 n)
    ∙ ap (λ k. v % 2 ^ k) next

pub number_of_bits-bits_of_number_lt : (n v : ℕ) → v < 2 ^ n → number_of_bits (bits_of_number n v) ≡ v
number_of_bits-bits_of_number_lt n v h = number_of_bits-bits_of_number n v ∙ mod-eq_of_lt h

-- one bit more
pub number_of_bits-push : (bs : List Bool) (b : Bool) → number_of_bits (bs ++ b ∷ []) ≡ number_of_bits bs * 2 + cond b 1 0
unfolding number_of_bits
number_of_bits-push [] b = omega arith
number_of_bits-push (false ∷ bs) b = omega (arith, number_of_bits-push bs b)
number_of_bits-push (true ∷ bs) b =
    let size : length (bs ++ b ∷ []) ≡ suc (length bs) = omega (arith, length-append bs (b ∷ [])) in
    let top : 2 ^ length (bs ++ b ∷ []) ≡ 2 * 2 ^ length bs = ap (λ k. 2 ^ k) size ∙ pow-next (length bs) in
    omega (arith, number_of_bits-push bs b, top)

-- the bit of a number at a place from the left
pub get_or-bits_of_number : (n v k : ℕ) → k < n → get_or (bits_of_number n v) k false ≡ is_odd (v / 2 ^ (n - 1 - k))
unfolding bits_of_number
get_or-bits_of_number zero v k h = absurd (omega arith)
get_or-bits_of_number (suc n) v zero h = let e : n ≡ suc n - 1 - zero = omega arith in ap (λ j. is_odd (v / 2 ^ j)) e
get_or-bits_of_number (suc n) v (suc k) h = let e : n - 1 - k ≡ suc n - 1 - suc k = omega arith in get_or-bits_of_number n v k (omega arith) ∙ ap (λ j. is_odd (v / 2 ^ j)) e

-- the bit of octets at a place
pub get_or-bits : (b : List ℕ) (i k : ℕ) → i < length b → k < 8 → get_or (bits b) (8 * i + k) false ≡ get_or (bits_of_number 8 (get_or b i 0)) k false
unfolding bits
get_or-bits [] i k h l = absurd (omega arith)
get_or-bits (x ∷ b) zero k h l =
    let e : 8 * zero + k ≡ k = omega arith in
    ap (λ j. get_or (bits_of_number 8 x ++ bits b) j false) e ∙ get_or_append_left (bits_of_number 8 x) (bits b) false k (omega (arith, length-bits_of_number 8 x))
get_or-bits (x ∷ b) (suc i) k h l =
    let e : 8 * suc i + k ≡ length (bits_of_number 8 x) + (8 * i + k) = omega (arith, length-bits_of_number 8 x) in
    ap (λ j. get_or (bits_of_number 8 x ++ bits b) j false) e ∙ get_or-append-add (bits_of_number 8 x) (bits b) (8 * i + k) false ∙ get_or-bits b i k (omega arith) l

-- one octet changed in one bit
pub set-bits : (b : List ℕ) (i k y : ℕ) (v : Bool) → i < length b → k < 8 → bits_of_number 8 y ≡ set (bits_of_number 8 (get_or b i 0)) k v → bits (set b i y) ≡ set (bits b) (8 * i + k) v
unfolding bits
set-bits [] i k y v h l e = absurd (omega arith)
set-bits (x ∷ b) zero k y v h l e =
    let same : k ≡ 8 * zero + k = omega arith in
    ap (λ w. w ++ bits b) e ∙ sym (set-append_left (bits_of_number 8 x) (bits b) k v (omega (arith, length-bits_of_number 8 x))) ∙ ap (λ j. set (bits_of_number 8 x ++ bits b) j v) same
set-bits (x ∷ b) (suc i) k y v h l e =
    let size : length (bits_of_number 8 x) ≡ 8 = length-bits_of_number 8 x in
    let left : 8 ≤ 8 * suc i + k = omega arith in
    let same : 8 * i + k ≡ 8 * suc i + k - 8 = omega arith in
    ap (λ w. bits_of_number 8 x ++ w) (set-bits b i k y v (omega arith) l e)
    ∙ ap (λ j. bits_of_number 8 x ++ set (bits b) j v) same
    ∙ sym (set-append_right (bits_of_number 8 x) (bits b) 8 (8 * suc i + k) v size left)

bounded : (bit w lo t : ℕ) → lo < w → bit < 2 → t ≡ 2 * w → bit * w + lo < t
bounded zero w lo t h b e = omega arith
bounded (suc zero) w lo t h b e = omega arith
bounded (suc (suc n)) w lo t h b e = absurd (omega arith)

three : (p m hi lo bit : ℕ) → lo < 2 ^ m → bit < 2 → bits_of_number (p + suc m) (hi * 2 ^ suc m + (bit * 2 ^ m + lo)) ≡ bits_of_number p hi ++ eqb bit 1 ∷ bits_of_number m lo
unfolding bits_of_number
three p m hi lo bit h b =
    let low : bit * 2 ^ m + lo < 2 ^ suc m = bounded bit (2 ^ m) lo (2 ^ suc m) h b (pow-next m) in
    let top : (bit * 2 ^ m + lo) / 2 ^ m ≡ bit = shr_high bit m lo h in
    let small : bit % 2 ≡ bit = mod-eq_of_lt b in
    bits_of_number-append p (suc m) hi (bit * 2 ^ m + lo) low
    ∙ ap (λ k. bits_of_number p hi ++ is_odd k ∷ bits_of_number m (bit * 2 ^ m + lo)) top
    ∙ ap (λ k. bits_of_number p hi ++ eqb k 1 ∷ bits_of_number m (bit * 2 ^ m + lo)) small
    ∙ ap (λ l. bits_of_number p hi ++ eqb bit 1 ∷ l) (bits_of_number-low m bit lo)

-- one bit of a number replaced
pub set-bits_of_number : (p m hi lo bit new : ℕ) (v : Bool) → lo < 2 ^ m → bit < 2 → new < 2 → v ≡ eqb new 1 → set (bits_of_number (p + suc m) (hi * 2 ^ suc m + (bit * 2 ^ m + lo))) p v ≡ bits_of_number (p + suc m) (hi * 2 ^ suc m + (new * 2 ^ m + lo))
set-bits_of_number p m hi lo bit new v h b w e =
    ap (λ l. set l p v) (three p m hi lo bit h b)
    ∙ set_at (bits_of_number p hi) (eqb bit 1) (bits_of_number m lo) v p (length-bits_of_number p hi)
    ∙ ap (λ x. bits_of_number p hi ++ x ∷ bits_of_number m lo) e
    ∙ sym (three p m hi lo new h w)

pub mask_is : (k : ℕ) → k < 8 → 1 * 2 ^ (7 - k) % 256 ≡ 2 ^ (7 - k)
mask_is k h = let below : 2 ^ (7 - k) < 2 ^ 8 = pow_below (7 - k) 8 (omega arith) in let one : 1 * 2 ^ (7 - k) ≡ 2 ^ (7 - k) = omega arith in ap (λ n. n % 256) one ∙ mod-eq_of_lt below

-- a number is its high bits, a bit, and its low bits
pub parts : (x m : ℕ) → x ≡ x / 2 ^ suc m * 2 ^ suc m + (x / 2 ^ m % 2 * 2 ^ m + x % 2 ^ m)
parts x m =
    let next : 1 + m ≡ suc m = omega arith in
    let low : x % 2 ^ suc m ≡ x / 2 ^ m % 2 * 2 ^ m + x % 2 ^ m = ap (λ k. x % 2 ^ k) (sym next) ∙ mod-pow-add x 1 m in
    sym (div-add-mod' x (2 ^ suc m)) ∙ ap (λ r. x / 2 ^ suc m * 2 ^ suc m + r) low

-- the octet with the bit set or cleared
pub replaced : (x k new : ℕ) (y : ℕ) (v : Bool) → k < 8 → new < 2 → v ≡ eqb new 1
    → y ≡ x / 2 ^ suc (7 - k) * 2 ^ suc (7 - k) + (new * 2 ^ (7 - k) + x % 2 ^ (7 - k)) → bits_of_number 8 y ≡ set (bits_of_number 8 x) k v
replaced x k new y v h w e same =
    let m = 7 - k in
    let size : k + suc m ≡ 8 = omega arith in
    let hi = x / 2 ^ suc m in
    let low = x % 2 ^ m in
    let done = set-bits_of_number k m hi low (x / 2 ^ m % 2) new v (mod-lt x (pow_pos m)) (omega arith) w e in
    let turned : set (bits_of_number 8 x) k v ≡ bits_of_number 8 y =
    ap (λ n. set (bits_of_number 8 n) k v) (parts x m)
    ∙ ap (λ n. set (bits_of_number n (hi * 2 ^ suc m + (x / 2 ^ m % 2 * 2 ^ m + low))) k v) (sym size)
    ∙ done
    ∙ ap (λ n. bits_of_number n (hi * 2 ^ suc m + (new * 2 ^ m + low))) size
    ∙ ap (bits_of_number 8) (sym same)
    in
    sym turned

gone : (a w r : ℕ) → a + (0 * w + r) ≡ a + r
gone a w r = omega arith

-- where the bit is not set, adding it carries nothing on
pub no_carry : (x m : ℕ) → m < 8 → x < 2 ^ 8 → x / 2 ^ m % 2 ≡ 0 → x + 2 ^ m < 256
no_carry x m h b z =
    let hi = x / 2 ^ suc m in
    let w = 2 ^ suc m in
    let fits : 7 - m + suc m ≡ 8 = omega arith in
    let top : hi < 2 ^ (7 - m) = shr_below x (7 - m) (suc m) (subst (λ n. x < 2 ^ n) (sym fits) b) in
    let whole : 2 ^ (7 - m) * w ≡ 256 = sym (pow-add 2 (7 - m) (suc m)) ∙ ap (λ n. 2 ^ n) fits in
    let room : (hi + 1) * w ≤ 2 ^ (7 - m) * w = mul-le-mul_right w (omega arith) in
    let apart : (hi + 1) * w ≡ hi * w + w = omega arith in
    let split : x ≡ hi * w + x % 2 ^ m = parts x m ∙ ap (λ n. hi * w + (n * 2 ^ m + x % 2 ^ m)) z ∙ gone (hi * w) (2 ^ m) (x % 2 ^ m) in
    omega (arith, mod-lt x (pow_pos m), pow-next m)

pub number_of_bits_below : (bs : List Bool) (k : ℕ) → length bs ≤ k → number_of_bits bs < 2 ^ k
number_of_bits_below bs k h = omega (arith, number_of_bits_lt bs, pow_mono {i = length bs} {j = k} h)

-- the number of one bit more
pub number_of_bits-more : (bs : List Bool) (i : ℕ) → i < length bs → number_of_bits (take (i + 1) bs) ≡ number_of_bits (take i bs) * 2 + cond (get_or bs i false) 1 0
number_of_bits-more bs i h = ap number_of_bits (take_more bs i false h) ∙ number_of_bits-push (take i bs) (get_or bs i false)

-- the first n bits, and the number that they spell
pub take-spelled : (n : ℕ) (b : List Bool) → n ≤ length b → take n b ≡ bits_of_number n (number_of_bits (take n b))
take-spelled n b h =
    let size : length (take n b) ≡ n = omega (arith, length-take n b) in
    sym (ap (λ k. bits_of_number k (number_of_bits (take n b))) (sym size) ∙ bits_of_number-number_of_bits (take n b))

pub number_of_bits-take_lt : (n : ℕ) (b : List Bool) → n ≤ length b → number_of_bits (take n b) < 2 ^ n
number_of_bits-take_lt n b h =
    let size : length (take n b) ≡ n = omega (arith, length-take n b) in
    subst (λ k. number_of_bits (take n b) < 2 ^ k) size (number_of_bits_lt (take n b))
