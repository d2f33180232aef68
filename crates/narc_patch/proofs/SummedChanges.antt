-- Data of IPv4 whose checksum covers a pseudo header too, of which some octets in one word are others.
use Rattle.std.proofs.Common.{◌≡◌, ℕ, ◌+◌, ◌*◌, ◌/◌, ◌%◌, ◌<◌, ◌≤◌, ◌^◌, List, ◌∷◌, ◌++◌, length, if◌then◌else◌, ap, ◌∙◌, arith, length-append}
use Rattle.narc_bits.specs.Bits.{overlay}
use Rattle.narc_bits.specs.Octets.{IsOctets, big_endian, number_at}
use Rattle.narc_bits.specs.InternetSum.{IsGoodSum}
use Rattle.narc_bits.proofs.Lists.{overlay-behind}
use Rattle.narc_bits.proofs.Octets.{IsOctets-append}
use Rattle.narc_bits.proofs.NumbersAt.{number-behind}
use Rattle.narc_packet.specs.Ranges.{IsIp}
use Rattle.narc_packet.proofs.PseudoHeaders.{pseudo_size, pseudo_each, pseudo_some}
use Rattle.narc_mend.specs.declared.mend.Zero.{Zero}
use Rattle.narc_mend.specs.Mended.{mended, with_word}
use Rattle.narc_mend.proofs.Holes.{IsHole, IsWordChange, hole-behind, stays_good}
use Rattle.narc_patch.specs.Change.{is_absent, with_mended}

-- a checksum in its hole, mended unless it is absent
pub hole_mended : (before after hole : ℕ) (zero : Zero) (octets : ℕ → List ℕ) → IsHole hole octets → (sum : ℕ) → sum < 2 ^ 16
    → with_mended before after (octets sum) (record { at = hole; zero = zero }) ≡ (if is_absent zero sum then octets sum else octets (mended sum before after zero))
hole_mended before after hole zero octets h sum small =
    ap (λ s. if is_absent zero s then octets sum else with_word (octets sum) hole (mended s before after zero)) (h.sum_is sum small)
    ∙ ap (λ l. if is_absent zero sum then octets sum else l) (h.put sum (mended sum before after zero))

abbrev pub pseudo : (protocol : ℕ) → (src dst : List ℕ) → (n : ℕ) → List ℕ
pseudo protocol src dst n = src ++ dst ++ (0 ∷ protocol ∷ big_endian 2 n)

-- Some octets of one word of data and its pseudo header, by which they become other data between other addresses.
pub record IsSummedChange (protocol size hole : ℕ) (src dst next_src next_dst : List ℕ) (old new : ℕ → List ℕ) (k : ℕ) (octets : List ℕ) : Type 0 where
  pub overlaid : (n sum : ℕ) → overlay (pseudo protocol src dst n ++ old sum) k octets ≡ pseudo protocol next_src next_dst n ++ new sum
  pub src_is : IsIp src
  pub dst_is : IsIp dst
  pub next_src_is : IsIp next_src
  pub next_dst_is : IsIp next_dst
  pub word : IsWordChange (12 + size) (12 + hole) k octets

module _ (protocol size hole : ℕ) (src dst next_src next_dst : List ℕ) (old new : ℕ → List ℕ) (k : ℕ) (octets : List ℕ) (c : IsSummedChange protocol size hole src dst next_src next_dst old new k octets) (zero : Zero) (n sum : ℕ) where
  abbrev here : List ℕ
  here = pseudo protocol src dst n

  abbrev there : List ℕ
  there = pseudo protocol next_src next_dst n

  abbrev next_sum : ℕ
  next_sum = mended sum (number_at (here ++ old sum) (k / 2 * 2) 2) (number_at (there ++ new sum) (k / 2 * 2) 2) zero

  pub sum_stays_good : IsHole hole old → IsHole hole new → 0 < protocol → protocol < 256 → hole % 2 ≡ 0 → sum < 2 ^ 16 → size ≤ length (old sum) → IsOctets (old sum) → IsGoodSum (here ++ old sum) → IsGoodSum (there ++ new next_sum)
  sum_stays_good old_hole new_hole some known even small room each good =
      let w = c.word in
      let twelve = pseudo_size src dst protocol n c.src_is c.dst_is in
      stays_good (12 + hole) k octets zero (λ s. here ++ old s) (λ s. there ++ new s)
      (hole-behind here 12 hole old twelve old_hole)
      (hole-behind there 12 hole new (pseudo_size next_src next_dst protocol n c.next_src_is c.next_dst_is) new_hole)
      sum small (omega (arith, even))
      (record { each = w.each; in_word = w.in_word; inside = omega (arith, length-append here (old sum), twelve, room, w.inside); apart = w.apart })
      (c.overlaid n sum)
      (IsOctets-append here (old sum) (pseudo_each src dst protocol n c.src_is c.dst_is known) each)
      (pseudo_some next_src next_dst (new next_sum) protocol n c.next_src_is c.next_dst_is some)
      good

-- octets of the data alone
module _ (protocol size hole : ℕ) (src dst : List ℕ) (s : IsIp src) (d : IsIp dst) (k : ℕ) where
  pub data_change : (old new : ℕ → List ℕ) (octets : List ℕ) → ((sum : ℕ) → overlay (old sum) k octets ≡ new sum) → IsWordChange size hole k octets → IsSummedChange protocol size hole src dst src dst old new (12 + k) octets
  data_change old new octets overlaid w = record {
    overlaid = λ n sum. overlay-behind (pseudo protocol src dst n) (old sum) 12 k octets (pseudo_size src dst protocol n s d) ∙ ap (λ l. pseudo protocol src dst n ++ l) (overlaid sum);
    src_is = s;
    dst_is = d;
    next_src_is = s;
    next_dst_is = d;
    word = record { each = w.each; in_word = omega (arith, w.in_word); inside = omega (arith, w.inside); apart = λ e. w.apart (omega (arith, e)) };
  }

-- a word of the data is that of what is summed
pub data_word : (protocol n : ℕ) (src dst l : List ℕ) (k : ℕ) → IsIp src → IsIp dst → number_at (pseudo protocol src dst n ++ l) ((12 + k) / 2 * 2) 2 ≡ number_at l (k / 2 * 2) 2
data_word protocol n src dst l k s d =
    let word_is : (12 + k) / 2 * 2 ≡ 12 + k / 2 * 2 = omega arith in
    ap (λ m. number_at (pseudo protocol src dst n ++ l) m 2) word_is ∙ number-behind (pseudo protocol src dst n) l 12 (k / 2 * 2) 2 (pseudo_size src dst protocol n s d)
