-- A segment with a word changed, in it or in its pseudo header, and its checksum mended.
use Rattle.std.proofs.Common.{◌≡◌, ℕ, ◌+◌, ◌*◌, ◌/◌, ◌<◌, List, ◌++◌, length, refl, sym, ap, ◌∙◌, subst, arith, lit<, length-append}
use Rattle.narc_bits.specs.Bits.{overlay}
use Rattle.narc_bits.specs.Octets.{IsOctets, number_at}
use Rattle.narc_bits.specs.InternetSum.{IsGoodSum}
use Rattle.narc_bits.proofs.NetworkOrder.{number_of-big_endian}
use Rattle.narc_packet.specs.PacketView.{TcpView}
use Rattle.narc_packet.specs.Ranges.{IsTcpInRange}
use Rattle.narc_packet.specs.Options.{IsTcpArea}
use Rattle.narc_packet.specs.Tcp.{tcp_octets, tcp_pseudo_header, IsTcp}
use Rattle.narc_mend.specs.declared.mend.Zero.TheVariants.{Plain}
use Rattle.narc_mend.specs.Mended.{mended}
use Rattle.narc_mend.proofs.MendedSums.{mended_small}
use Rattle.narc_mend.proofs.Holes.{IsHole}
use Rattle.narc_patch.specs.declared.change.Checksum.{Checksum}
use Rattle.narc_patch.specs.Change.{with_mended}
use Rattle.narc_patch.proofs.Places.{with_mended_each}
use Rattle.narc_patch.proofs.SummedChanges.{IsSummedChange, hole_mended, sum_stays_good}

-- the checksum in the segment
abbrev pub own_sum : Checksum
own_sum = record { at = 16; zero = Plain }

-- the segment by its checksum
abbrev pub segment : TcpView → (area : List ℕ) → ℕ → List ℕ
segment t area sum = tcp_octets t sum area

tcp_hole : (t : TcpView) (area : List ℕ) → IsHole 16 (segment t area)
unfolding overlay
tcp_hole t area = record { inside = λ sum. omega arith; sum_is = λ sum small. number_of-big_endian 2 sum small; put = λ sum other. refl }

-- Some octets of one word of a segment t and its pseudo header, by which they become those of v between other addresses.
pub record IsTcpChange (src dst next_src next_dst : List ℕ) (t v : TcpView) (area : List ℕ) (k : ℕ) (octets : List ℕ) : Type 0 where
  pub summed : IsSummedChange 6 20 16 src dst next_src next_dst (segment t area) (segment v area) k octets
  pub options : v.options ≡ t.options
  pub as_long : length v.payload ≡ length t.payload
  pub in_range : IsTcpInRange v

module _ (src dst next_src next_dst : List ℕ) (t v : TcpView) (k : ℕ) (octets content written : List ℕ) (f : IsTcp src dst t content) (c : IsTcpChange src dst next_src next_dst t v f.area k octets) (layout : written ≡ tcp_octets v f.sum f.area) (each : IsOctets written) where
  abbrev n : ℕ
  n = length content

  abbrev before : ℕ
  before = number_at (tcp_pseudo_header src dst n ++ tcp_octets t f.sum f.area) (k / 2 * 2) 2

  abbrev after : ℕ
  after = number_at (tcp_pseudo_header next_src next_dst n ++ tcp_octets v f.sum f.area) (k / 2 * 2) 2

  abbrev next : List ℕ
  next = tcp_octets v (mended f.sum before after Plain) f.area

  next_size : length next ≡ n
  next_size = omega (arith, length-append f.area v.payload, length-append f.area t.payload, ap length f.layout, c.as_long)

  next_good : IsGoodSum (tcp_pseudo_header next_src next_dst (length next) ++ next)
  next_good =
      subst (λ m. IsGoodSum (tcp_pseudo_header next_src next_dst m ++ next)) (sym next_size)
      (sum_stays_good 6 20 16 src dst next_src next_dst (segment t f.area) (segment v f.area) k octets c.summed Plain n f.sum (tcp_hole t f.area) (tcp_hole v f.area) (lit< tt) (lit< tt) refl f.sum_range (omega arith)
      (subst IsOctets f.layout f.octets) (subst (λ l. IsGoodSum (tcp_pseudo_header src dst n ++ l)) f.layout f.checked))

  pub tcp_changed : IsTcp next_src next_dst v (with_mended before after written own_sum)
  tcp_changed =
      let there : with_mended before after written own_sum ≡ next = ap (λ l. with_mended before after l own_sum) layout ∙ hole_mended before after 16 Plain (segment v f.area) (tcp_hole v f.area) f.sum f.sum_range in
      let fits = f.fits in
      subst (IsTcp next_src next_dst v) (sym there) (record {
        sum = mended f.sum before after Plain;
        area = f.area;
        options = subst (λ o. IsTcpArea o f.area) (sym c.options) f.options;
        layout = refl;
        fits = omega (arith, next_size, fits);
        checked = next_good;
        in_range = c.in_range;
        sum_range = mended_small f.sum before after Plain;
        octets = subst IsOctets there (with_mended_each before after written own_sum each);
      })
