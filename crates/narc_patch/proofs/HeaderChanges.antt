-- The header of IPv4 with a word changed and its checksum mended.
use Rattle.std.proofs.Common.{◌≡◌, ℕ, ◌+◌, ◌*◌, ◌/◌, ◌<◌, ◌^◌, List, [], ◌∷◌, ◌++◌, refl, ap, ◌∙◌, subst, arith, length-append}
use Rattle.narc_bits.specs.Bits.{overlay}
use Rattle.narc_bits.specs.Octets.{IsOctets, number_at}
use Rattle.narc_bits.specs.InternetSum.{IsGoodSum}
use Rattle.narc_bits.proofs.Lists.{overlay-front}
use Rattle.narc_bits.proofs.Octets.{IsOctets-append}
use Rattle.narc_bits.proofs.NumbersAt.{number-front}
use Rattle.narc_packet.specs.PacketView.{Ipv4View}
use Rattle.narc_packet.specs.Ranges.{IsIp}
use Rattle.narc_packet.specs.Ipv4.{ipv4_header}
use Rattle.narc_packet.proofs.Ipv4Fields.{header_size, header_sum_is, header_some}
use Rattle.narc_mend.specs.declared.mend.Zero.TheVariants.{Plain}
use Rattle.narc_mend.specs.Mended.{mended}
use Rattle.narc_mend.proofs.Holes.{IsHole, IsWordChange, hole-before, stays_good}
use Rattle.narc_patch.specs.declared.change.Checksum.{Checksum}
use Rattle.narc_patch.specs.Change.{with_mended, with_octets}
use Rattle.narc_patch.proofs.SummedChanges.{hole_mended}

-- the checksum in the header
abbrev pub own_sum : Checksum
own_sum = record { at = 10; zero = Plain }

-- the header by its checksum
abbrev header : Ipv4View → (la lc : ℕ) → ℕ → List ℕ
header p la lc sum = ipv4_header p sum la lc

header_hole : (p : Ipv4View) → IsIp p.src → IsIp p.dst → (la lc : ℕ) → IsHole 10 (header p la lc)
unfolding overlay
header_hole p src dst la lc = record { inside = λ sum. omega (arith, header_size p src dst la lc sum); sum_is = header_sum_is p src dst la lc; put = λ sum other. refl }

-- Some octets of one word, by which the header of p becomes that of q.
pub record IsHeaderChange (p q : Ipv4View) (k : ℕ) (octets : List ℕ) : Type 0 where
  pub overlaid : (sum la lc : ℕ) → overlay (ipv4_header p sum la lc) k octets ≡ ipv4_header q sum la lc
  pub word : IsWordChange 20 10 k octets

module _ (p q : Ipv4View) (src : IsIp p.src) (dst : IsIp p.dst) (q_src : IsIp q.src) (q_dst : IsIp q.dst) (k : ℕ) (octets : List ℕ) (c : IsHeaderChange p q k octets) (sum la lc : ℕ) (small : sum < 2 ^ 16) where
  abbrev word : ℕ
  word = k / 2 * 2

  abbrev old : List ℕ
  old = ipv4_header p sum la lc

  abbrev new : List ℕ
  new = ipv4_header q sum la lc

  -- the checksum that is written
  abbrev pub next_sum : ℕ
  next_sum = mended sum (number_at old word 2) (number_at new word 2) Plain

  pub header_changed : with_octets old k octets (own_sum ∷ []) ≡ ipv4_header q next_sum la lc
  header_changed =
      ap (λ l. with_mended (number_at old word 2) (number_at l word 2) l own_sum) (c.overlaid sum la lc)
      ∙ hole_mended (number_at old word 2) (number_at new word 2) 10 Plain (header q la lc) (header_hole q q_src q_dst la lc) sum small

  pub header_good : (area : List ℕ) → IsOctets old → IsOctets area → IsGoodSum (old ++ area) → IsGoodSum (ipv4_header q next_sum la lc ++ area)
  header_good area each area_each good =
      let w = c.word in
      let size = header_size p src dst la lc sum in
      let mend = λ (before after : ℕ). ipv4_header q (mended sum before after Plain) la lc ++ area in
      let is : mend (number_at (old ++ area) word 2) (number_at (new ++ area) word 2) ≡ mend (number_at old word 2) (number_at new word 2) =
      ap (λ n. mend n (number_at (new ++ area) word 2)) (number-front old area word 2 (omega (arith, size, w.inside)))
      ∙ ap (mend (number_at old word 2)) (number-front new area word 2 (omega (arith, header_size q q_src q_dst la lc sum, w.inside)))
      in
      subst IsGoodSum is
      (stays_good 10 k octets Plain (λ s. header p la lc s ++ area) (λ s. header q la lc s ++ area)
      (hole-before 10 (header p la lc) area (header_hole p src dst la lc)) (hole-before 10 (header q la lc) area (header_hole q q_src q_dst la lc)) sum small refl
      (record { each = w.each; in_word = w.in_word; inside = omega (arith, size, w.inside, length-append old area); apart = w.apart })
      (overlay-front old area k octets (omega (arith, size, w.in_word, w.inside)) ∙ ap (λ l. l ++ area) (c.overlaid sum la lc))
      (IsOctets-append old area each area_each) (header_some q q_src q_dst la lc _ area) good)
