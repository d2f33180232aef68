-- A datagram with a word changed, in it or in its pseudo header, and its checksum mended.
use Rattle.std.proofs.Common.{◌≡◌, ℕ, ◌+◌, ◌*◌, ◌/◌, ◌<◌, ◌⊎◌, Bool, true, false, List, ◌++◌, take, nat_eq, if◌then◌else◌, refl, sym, ap, ◌∙◌, subst, inl, inr, arith, lit<}
use Rattle.std.proofs.lemmas.Bool.{eqb-true}
use Rattle.std.proofs.lemmas.List.{take_at}
use Rattle.narc_bits.specs.Bits.{overlay}
use Rattle.narc_bits.specs.Octets.{IsOctets, number_at}
use Rattle.narc_bits.specs.InternetSum.{IsGoodSum}
use Rattle.narc_bits.proofs.Octets.{IsOctets-front}
use Rattle.narc_bits.proofs.NetworkOrder.{number_of-big_endian}
use Rattle.narc_packet.specs.PacketView.{UdpView}
use Rattle.narc_packet.specs.Ranges.{IsUdpInRange}
use Rattle.narc_packet.specs.Udp.{udp_length, udp_octets, udp_pseudo_header, IsUdp}
use Rattle.narc_mend.specs.declared.mend.Zero.TheVariants.{Udp}
use Rattle.narc_mend.specs.Mended.{mended}
use Rattle.narc_mend.proofs.MendedSums.{mended_small}
use Rattle.narc_mend.proofs.Holes.{IsHole, hole-before}
use Rattle.narc_patch.specs.declared.change.Checksum.{Checksum}
use Rattle.narc_patch.specs.Change.{with_mended}
use Rattle.narc_patch.proofs.Places.{with_mended_each}
use Rattle.narc_patch.proofs.SummedChanges.{IsSummedChange, hole_mended, sum_stays_good}

-- the checksum in the datagram
abbrev pub own_sum : Checksum
own_sum = record { at = 6; zero = Udp }

udp_hole : (u : UdpView) → IsHole 6 (udp_octets u)
unfolding overlay
udp_hole u = record { inside = λ sum. omega arith; sum_is = λ sum small. number_of-big_endian 2 sum small; put = λ sum other. refl }

-- Some octets of one word of a datagram u and its pseudo header, by which they become those of v between other addresses.
pub record IsUdpChange (src dst next_src next_dst : List ℕ) (u v : UdpView) (k : ℕ) (octets : List ℕ) : Type 0 where
  pub summed : IsSummedChange 17 8 6 src dst next_src next_dst (udp_octets u) (udp_octets v) k octets
  pub as_long : udp_length v ≡ udp_length u
  pub in_range : IsUdpInRange v

module _ (src dst next_src next_dst : List ℕ) (u v : UdpView) (k : ℕ) (octets content written : List ℕ) (c : IsUdpChange src dst next_src next_dst u v k octets) (f : IsUdp src dst u content) (layout : written ≡ udp_octets v f.sum ++ f.surplus) (each : IsOctets written) where
  abbrev n : ℕ
  n = udp_length u

  abbrev before : ℕ
  before = number_at (udp_pseudo_header src dst n ++ udp_octets u f.sum) (k / 2 * 2) 2

  abbrev after : ℕ
  after = number_at (udp_pseudo_header next_src next_dst n ++ udp_octets v f.sum) (k / 2 * 2) 2

  abbrev next_sum : ℕ
  next_sum = mended f.sum before after Udp

  -- the datagram without the surplus
  datagram : (x : UdpView) (sum : ℕ) → take (udp_length x) (udp_octets x sum ++ f.surplus) ≡ udp_octets x sum
  datagram x sum = take_at (udp_octets x sum) f.surplus (udp_length x) (omega arith)

  was_good : nat_eq f.sum 0 ≡ false → (f.sum ≡ 0) ⊎ IsGoodSum (udp_pseudo_header src dst n ++ take n content) → IsGoodSum (udp_pseudo_header src dst n ++ udp_octets u f.sum)
  was_good e (inl none) = let zero_is : nat_eq f.sum 0 ≡ true = ap (λ m. nat_eq m 0) none in cc
  was_good e (inr good) = subst IsGoodSum (ap (λ l. udp_pseudo_header src dst n ++ l) (ap (take n) f.layout ∙ datagram u f.sum)) good

  next_good : nat_eq f.sum 0 ≡ false → IsGoodSum (udp_pseudo_header next_src next_dst n ++ udp_octets v next_sum)
  next_good e =
      sum_stays_good 17 8 6 src dst next_src next_dst (udp_octets u) (udp_octets v) k octets c.summed Udp n f.sum (udp_hole u) (udp_hole v) (lit< tt) (lit< tt) refl f.sum_range (omega arith)
      (IsOctets-front (udp_octets u f.sum) f.surplus (subst IsOctets f.layout f.octets)) (was_good e f.checked)

  -- absent or not
  next_is : (t : Bool) → nat_eq f.sum 0 ≡ t → (l : List ℕ) → l ≡ (if t then udp_octets v f.sum ++ f.surplus else udp_octets v next_sum ++ f.surplus) → IsOctets l → IsUdp next_src next_dst v l
  next_is true e l is l_each = record {
    sum = f.sum;
    surplus = f.surplus;
    layout = is;
    fits = omega (arith, c.as_long, f.fits);
    checked = inl (eqb-true f.sum 0 e);
    in_range = c.in_range;
    sum_range = f.sum_range;
    octets = l_each;
  }
  next_is false e l is l_each = record {
    sum = next_sum;
    surplus = f.surplus;
    layout = is;
    fits = omega (arith, c.as_long, f.fits);
    checked = inr (subst IsGoodSum (ap (λ m. udp_pseudo_header next_src next_dst m ++ udp_octets v next_sum) (sym c.as_long) ∙ ap (λ d. udp_pseudo_header next_src next_dst (udp_length v) ++ d) (sym (ap (take (udp_length v)) is ∙ datagram v next_sum))) (next_good e));
    in_range = c.in_range;
    sum_range = mended_small f.sum before after Udp;
    octets = l_each;
  }

  pub udp_changed : IsUdp next_src next_dst v (with_mended before after written own_sum)
  udp_changed =
      next_is (nat_eq f.sum 0) refl (with_mended before after written own_sum)
      (ap (λ l. with_mended before after l own_sum) layout ∙ hole_mended before after 6 Udp (λ s. udp_octets v s ++ f.surplus) (hole-before 6 (udp_octets v) f.surplus (udp_hole v)) f.sum f.sum_range)
      (with_mended_each before after written own_sum each)
