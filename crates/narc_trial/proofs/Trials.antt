-- Many packets of a trial, one after the other.
use Rattle.std.proofs.Common.{◌≡◌, ℕ, ◌+◌, ◌*◌, ◌%◌, ◌^◌, ◌≤◌, List, [], ◌∷◌, ◌++◌, map, length, Result, Ok, Err, sym, ap, ◌∙◌, arith, zero-add, add-zero}
use Rattle.std.specs.Prelude.{◌↔◌, IsOk, IfOk, take, sum_by}
use Rattle.std.specs.List.{AllByRecursion}
use Rattle.std.proofs.lemmas.List.{map_push, take_all}
use Rattle.std.proofs.lemmas.List.FromFn.{map-range_with_len_more}
use Rattle.std.proofs.lemmas.List.Sums.{sum_by_push}
use Rattle.narc_bits.specs.declared.limits.TheConstants.{MAX_FRAME}
use Rattle.narc_packet.specs.Canonical.{canonical_frame}
use Rattle.narc_packet.specs.PacketView.{PacketView}
use Rattle.narc_trial.specs.declared.fate.Fate.{Fate}
use Rattle.narc_trial.specs.declared.fate.Fate.TheVariants.{Same, Other, Refused}
use Rattle.narc_trial.specs.declared.counts.TrialCounts.{TrialCounts}
use Rattle.narc_trial.specs.Made.{made}
use Rattle.narc_trial.specs.Hurt.{hurt, hurt_place, made_size, with_bit_changed}
use Rattle.narc_trial.specs.Trying.{Tried, IsFate, IsRightlyTried, AreTried, numbers}
use Rattle.narc_trial.specs.Counting.{IsTrial, counts_of, counts_after, hurt_cost}

-- the room that a frame fills is the frame
pub written : {E : Type 0} (r : Result ℕ E) (before room frame : List ℕ) → IsOk r ↔ (length frame ≤ length before)
    → IfOk r (λ n. n ≡ length frame) → IfOk r (λ n. take n room ≡ frame) → length room ≡ length before → length before ≡ length frame → room ≡ frame
written (Ok n) before room frame fits size is kept filled = sym (take_all n room (omega (arith, size, kept, filled))) ∙ is
written (Err e) before room frame fits size is kept filled = absurd (cc (fits.1 (omega arith)))

-- the frame of this packet, with its bit changed
pub hurt_is : (k : ℕ) (p : PacketView) (room octets : List ℕ) → p ≡ made k → room ≡ canonical_frame p → octets ≡ with_bit_changed (hurt_place k (length room)) room → octets ≡ hurt k
unfolding hurt made_size
hurt_is k p room octets e f g = g ∙ ap (λ r. with_bit_changed (hurt_place k (length r)) r) (f ∙ ap canonical_frame e)

All-push : {X : Type 0} (P : X → Type 0) (xs : List X) (x : X) → AllByRecursion P xs → P x → AllByRecursion P (xs ++ x ∷ [])
All-push P [] x each p = (p, tt)
All-push P (y ∷ xs) x each p = (each.0, All-push P xs x each.1 p)

pub numbers-push : (seed i : ℕ) → numbers seed (i + 1) ≡ numbers seed i ++ ((seed + i) % 2 ^ 32) ∷ []
numbers-push seed i = map-range_with_len_more (λ j. (seed + j) % 2 ^ 32) 0 i i (zero-add i)

pub AreTried-push : (seed i : ℕ) (tried : List Tried) (fate : Fate) → AreTried seed i tried → let k = (seed + i) % 2 ^ 32 in IsFate (made k) (hurt k) fate
    → AreTried seed (i + 1) (tried ++ record { number = k; fate = fate } ∷ [])
AreTried-push seed i tried fate are right =
    let k = (seed + i) % 2 ^ 32 in
    let t : Tried = record { number = k; fate = fate } in
    record {
      all = map_push (λ (t : Tried). t.number) tried t ∙ ap (λ l. l ++ k ∷ []) are.all ∙ sym (numbers-push seed i);
      right = All-push IsRightlyTried tried t are.right right;
    }

count-push : (tried : List Tried) (k : ℕ) (fate : Fate) → counts_of (tried ++ record { number = k; fate = fate } ∷ []) ≡ counts_after (counts_of tried) (made_size k) fate
count-push tried k Same = simp (sum_by_push {X = Tried}, add-zero)
count-push tried k Other = simp (sum_by_push {X = Tried}, add-zero)
count-push tried k Refused = simp (sum_by_push {X = Tried}, add-zero)

pub hurt_cost-push : (seed i : ℕ) → hurt_cost (numbers seed (i + 1)) ≡ hurt_cost (numbers seed i) + (16 * length (hurt ((seed + i) % 2 ^ 32)) + 1)
hurt_cost-push seed i =
    ap hurt_cost (numbers-push seed i)
    ∙ ap (sum_by (λ octets. 16 * length octets + 1)) (map_push hurt (numbers seed i) ((seed + i) % 2 ^ 32))
    ∙ sum_by_push (λ octets. 16 * length octets + 1) (map hurt (numbers seed i)) (hurt ((seed + i) % 2 ^ 32))

-- one packet more
pub IsTrial-push : (seed i : ℕ) (counts after : TrialCounts) (fate : Fate) → IsTrial seed i counts → let k = (seed + i) % 2 ^ 32 in IsFate (made k) (hurt k) fate
    → after ≡ counts_after counts (made_size k) fate → IsTrial seed (i + 1) after
IsTrial-push seed i counts after fate trial right e =
    let k = (seed + i) % 2 ^ 32 in
    record {
      tried = trial.tried ++ record { number = k; fate = fate } ∷ [];
      are = AreTried-push seed i trial.tried fate trial.are right;
      counted = e ∙ ap (λ (c : TrialCounts). counts_after c (made_size k) fate) trial.counted ∙ sym (count-push trial.tried k fate);
    }

-- The counts after so many packets.
pub record Bounded (counts : TrialCounts) (packets : ℕ) : Type 0 where
  pub octets : counts.octets ≤ MAX_FRAME * packets
  pub same : counts.same ≤ packets
  pub other : counts.other ≤ packets
  pub refused : counts.refused ≤ packets

pub Bounded-push : (counts : TrialCounts) (i size : ℕ) (fate : Fate) → Bounded counts i → size ≤ MAX_FRAME → Bounded (counts_after counts size fate) (i + 1)
Bounded-push counts i size Same b small = record { octets = omega arith; same = omega arith; other = omega arith; refused = omega arith }
Bounded-push counts i size Other b small = record { octets = omega arith; same = omega arith; other = omega arith; refused = omega arith }
Bounded-push counts i size Refused b small = record { octets = omega arith; same = omega arith; other = omega arith; refused = omega arith }
