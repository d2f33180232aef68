-- Changes of octets that stand between others.
use Rattle.std.proofs.Common.{◌≡◌, ℕ, ◌+◌, ◌*◌, ◌-◌, ◌/◌, ◌%◌, ◌≤◌, Bool, true, false, List, [], ◌∷◌, ◌++◌, length, if◌then◌else◌, fold, refl, ap, ◌∙◌, arith}
use Rattle.narc_bits.specs.Bits.{overlay}
use Rattle.narc_bits.specs.Octets.{IsOctets, big_endian, number_at}
use Rattle.narc_bits.proofs.Lists.{length-overlay}
use Rattle.narc_bits.proofs.Octets.{IsOctets-big_endian}
use Rattle.narc_bits.proofs.NumbersAt.{number-between}
use Rattle.narc_bits.proofs.Overlays.{overlay-between, IsOctets-overlay}
use Rattle.narc_mend.specs.declared.mend.Zero.{Zero}
use Rattle.narc_mend.specs.Mended.{mended, with_word}
use Rattle.narc_patch.specs.declared.change.Checksum.{Checksum}
use Rattle.narc_patch.specs.Change.{is_absent, with_mended, with_octets}

-- a part between others
module _ (front part back : List ℕ) (n : ℕ) (size : length front ≡ n) where
  pub mended-between : (before after k : ℕ) (zero : Zero) → k + 2 ≤ length part
      → with_mended before after (front ++ (part ++ back)) (record { at = n + k; zero = zero }) ≡ front ++ (with_mended before after part (record { at = k; zero = zero }) ++ back)
  mended-between before after k zero inside =
      let sum = number_at part k 2 in
      ap (λ s. if is_absent zero s then front ++ (part ++ back) else with_word (front ++ (part ++ back)) (n + k) (mended s before after zero)) (number-between front part back n size k 2 inside)
      ∙ ap (λ l. if is_absent zero sum then front ++ (part ++ back) else l) (overlay-between front part back n size k (big_endian 2 (mended sum before after zero)) inside)
      ∙ moved (is_absent zero sum) (with_word part k (mended sum before after zero))
    where
      moved : (t : Bool) (l : List ℕ) → (if t then front ++ (part ++ back) else front ++ (l ++ back)) ≡ front ++ ((if t then part else l) ++ back)
      moved true l = refl
      moved false l = refl

-- octets of a word of the part
module _ (front part back : List ℕ) (n : ℕ) (size : length front ≡ n) (even : n % 2 ≡ 0) (k : ℕ) (s : List ℕ) (inside : k + length s ≤ length part) (word_inside : k / 2 * 2 + 2 ≤ length part) where
  abbrev whole : List ℕ
  whole = front ++ (part ++ back)

  abbrev written : List ℕ
  written = overlay part k s

  word_is : (n + k) / 2 * 2 ≡ n + k / 2 * 2
  word_is = omega (arith, even)

  length_written : length written ≡ length part
  length_written = length-overlay part k s inside

  pub before_is : number_at whole ((n + k) / 2 * 2) 2 ≡ number_at part (k / 2 * 2) 2
  before_is = ap (λ m. number_at whole m 2) word_is ∙ number-between front part back n size (k / 2 * 2) 2 word_inside

  pub after_is : number_at (overlay whole (n + k) s) ((n + k) / 2 * 2) 2 ≡ number_at written (k / 2 * 2) 2
  after_is =
      ap (λ m. number_at (overlay whole (n + k) s) m 2) word_is
      ∙ ap (λ l. number_at l (n + k / 2 * 2) 2) (overlay-between front part back n size k s inside)
      ∙ number-between front written back n size (k / 2 * 2) 2 (omega (arith, word_inside, length_written))

  -- under a checksum in the part
  pub octets_between : (hole : ℕ) (zero : Zero) → hole + 2 ≤ length part
      → with_octets whole (n + k) s (record { at = n + hole; zero = zero } ∷ []) ≡ front ++ (with_octets part k s (record { at = hole; zero = zero } ∷ []) ++ back)
  octets_between hole zero hole_inside =
      let sum : Checksum = record { at = n + hole; zero = zero } in
      let new = overlay whole (n + k) s in
      let before = number_at part (k / 2 * 2) 2 in
      let after = number_at written (k / 2 * 2) 2 in
      ap (λ m. with_mended m (number_at new ((n + k) / 2 * 2) 2) new sum) before_is
      ∙ ap (λ m. with_mended before m new sum) after_is
      ∙ ap (λ l. with_mended before after l sum) (overlay-between front part back n size k s inside)
      ∙ mended-between front written back n size before after hole zero (omega (arith, hole_inside, length_written))

-- octets stay octets
if_each : (t : Bool) (l m : List ℕ) → IsOctets l → IsOctets m → IsOctets (if t then l else m)
if_each true l m p q = p
if_each false l m p q = q

pub with_mended_each : (before after : ℕ) (l : List ℕ) (c : Checksum) → IsOctets l → IsOctets (with_mended before after l c)
with_mended_each before after l c each =
    let sum = number_at l c.at 2 in
    let new = mended sum before after c.zero in
    if_each (is_absent c.zero sum) l (with_word l c.at new) each (IsOctets-overlay l c.at (big_endian 2 new) each (IsOctets-big_endian 2 new))

mended_each : (before after : ℕ) (l : List ℕ) (sums : List Checksum) → IsOctets l → IsOctets (fold (with_mended before after) l sums)
mended_each before after l [] each = each
mended_each before after l (c ∷ sums) each = mended_each before after (with_mended before after l c) sums (with_mended_each before after l c each)

pub with_octets_each : (l : List ℕ) (at : ℕ) (octets : List ℕ) (sums : List Checksum) → IsOctets l → IsOctets octets → IsOctets (with_octets l at octets sums)
with_octets_each l at octets sums each octets_each =
    mended_each (number_at l (at / 2 * 2) 2) (number_at (overlay l at octets) (at / 2 * 2) 2) (overlay l at octets) sums (IsOctets-overlay l at octets each octets_each)

-- as many octets stay
if_size : (t : Bool) (l m : List ℕ) → length m ≡ length l → length (if t then l else m) ≡ length l
if_size true l m e = refl
if_size false l m e = e

pub with_mended_size : (before after : ℕ) (l : List ℕ) (c : Checksum) → c.at + 2 ≤ length l → length (with_mended before after l c) ≡ length l
with_mended_size before after l c inside =
    let sum = number_at l c.at 2 in
    let new = mended sum before after c.zero in
    if_size (is_absent c.zero sum) l (with_word l c.at new) (length-overlay l c.at (big_endian 2 new) inside)

pub with_octets_size : (l : List ℕ) (at : ℕ) (octets : List ℕ) (c : Checksum) → at + length octets ≤ length l → c.at + 2 ≤ length l → length (with_octets l at octets (c ∷ [])) ≡ length l
with_octets_size l at octets c inside sum_inside =
    let new = overlay l at octets in
    let size = length-overlay l at octets inside in
    with_mended_size (number_at l (at / 2 * 2) 2) (number_at new (at / 2 * 2) 2) new c (omega (arith, size, sum_inside)) ∙ size
