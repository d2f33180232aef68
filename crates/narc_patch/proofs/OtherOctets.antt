-- The octets that changes leave as they are.
use Rattle.std.proofs.Common.{◌≡◌, ℕ, ◌+◌, ◌*◌, ◌-◌, ◌/◌, ◌<◌, Bool, true, false, List, [], ◌∷◌, ◌++◌, length, take, drop, get_or, fold, if◌then◌else◌, refl, sym, ap, ◌∙◌, subst, inl, inr, arith, length-append, length-take, length-drop}
use Rattle.std.specs.List.{AllByRecursion}
use Rattle.std.proofs.lemmas.List.{get_or-take, get_or-append_right, get_or_append_left, get_or-drop}
use Rattle.narc_bits.specs.Bits.{overlay}
use Rattle.narc_bits.specs.Octets.{big_endian, number_at}
use Rattle.narc_bits.proofs.Spelled.{length-big_endian}
use Rattle.narc_mend.specs.Mended.{mended, with_word}
use Rattle.narc_patch.specs.declared.change.Checksum.{Checksum}
use Rattle.narc_patch.specs.Change.{Change, is_absent, with_mended, changed}
use Rattle.narc_patch.specs.Patched.{changes}
use Rattle.narc_patch.specs.Laws.{IsOutside, IsLeft, OtherOctetsStay}

module _ (i : ℕ) where
  -- the octet is there in both lists, and the same
  record Stays (old new : List ℕ) : Type 0 where
    there : i < length new
    same : get_or new i 0 ≡ get_or old i 0

  after_both : (a b c : List ℕ) → Stays a b → Stays b c → Stays a c
  after_both a b c s t = record { there = t.there; same = t.same ∙ s.same }

  overlay_stays : (l : List ℕ) (k : ℕ) (s : List ℕ) → i < length l → IsOutside i k (length s) → Stays l (overlay l k s)
  unfolding overlay
  overlay_stays l k s inside (inl before) =
      let front = take k l in
      let back = s ++ drop (k + length s) l in
      let short : i < length front = omega (arith, length-take k l, inside, before) in
      record {
        there = omega (arith, length-append front back, short);
        same = get_or_append_left front back 0 i short ∙ get_or-take k l i 0 before;
      }
  overlay_stays l k s inside (inr behind) =
      let front = take k l in
      let tail = drop (k + length s) l in
      let size : length front ≡ k = omega (arith, length-take k l, inside, behind) in
      let sizes = length-append s tail in
      let long = length-drop (k + length s) l in
      let at : k + length s + (i - k - length s) ≡ i = omega (arith, behind) in
      record {
        there = omega (arith, length-append front (s ++ tail), size, sizes, long, inside, behind);
        same = get_or-append_right front (s ++ tail) k i 0 size (omega (arith, behind))
            ∙ get_or-append_right s tail (length s) (i - k) 0 refl (omega (arith, behind))
            ∙ get_or-drop (k + length s) l (i - k - length s) 0
            ∙ ap (λ n. get_or l n 0) at;
      }

  if_stays : (t : Bool) (l m : List ℕ) → i < length l → Stays l m → Stays l (if t then l else m)
  if_stays true l m inside s = record { there = inside; same = refl }
  if_stays false l m inside s = s

  mended_stays : (before after : ℕ) (l : List ℕ) (c : Checksum) → i < length l → IsOutside i c.at 2 → Stays l (with_mended before after l c)
  mended_stays before after l c inside outside =
      let sum = number_at l c.at 2 in
      let new = mended sum before after c.zero in
      if_stays (is_absent c.zero sum) l (with_word l c.at new) inside (overlay_stays l c.at (big_endian 2 new) inside outside)

  sums_stay : (before after : ℕ) (l : List ℕ) (sums : List Checksum) → i < length l → AllByRecursion (λ (sum : Checksum). IsOutside i sum.at 2) sums → Stays l (fold (with_mended before after) l sums)
  sums_stay before after l [] inside all = record { there = inside; same = refl }
  sums_stay before after l (c ∷ sums) inside all =
      let m = with_mended before after l c in
      let one = mended_stays before after l c inside all.0 in
      after_both l m (fold (with_mended before after) m sums) one (sums_stay before after m sums one.there all.1)

  change_stays : (l : List ℕ) (c : Change) → i < length l → IsLeft i c → Stays l (changed l c)
  change_stays l c inside left =
      let octets = big_endian c.count (c.to (number_at l c.at c.count)) in
      let word = c.at / 2 * 2 in
      let written = overlay l c.at octets in
      let one : Stays l written = overlay_stays l c.at octets inside (subst (IsOutside i c.at) (sym (length-big_endian c.count (c.to (number_at l c.at c.count)))) left.0) in
      after_both l written (changed l c) one (sums_stay (number_at l word 2) (number_at written word 2) written c.sums one.there left.1)

  changes_stay : (l : List ℕ) (all : List Change) → i < length l → AllByRecursion (IsLeft i) all → Stays l (fold changed l all)
  changes_stay l [] inside left = record { there = inside; same = refl }
  changes_stay l (c ∷ all) inside left =
      let m = changed l c in
      let one = change_stays l c inside left.0 in
      after_both l m (fold changed m all) one (changes_stay m all one.there left.1)

pub other_octets_stay : OtherOctetsStay
other_octets_stay es frame place inside left = (changes_stay place frame (changes es frame) inside left).same
