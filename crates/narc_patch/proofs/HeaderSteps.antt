-- A frame of an IPv4 packet, by its parts, with a field of the header changed.
use Rattle.std.proofs.Common.{◌≡◌, ℕ, ◌+◌, ◌<◌, ◌≤◌, ◌^◌, List, [], ◌∷◌, ◌++◌, length, refl, sym, ap, ◌∙◌, subst, arith, length-append}
use Rattle.narc_bits.specs.Octets.{IsOctets, big_endian}
use Rattle.narc_bits.specs.InternetSum.{IsGoodSum}
use Rattle.narc_bits.proofs.Octets.{IsOctets-front, IsOctets-back}
use Rattle.narc_packet.specs.declared.limits.TheConstants.{MAX_LENGTH}
use Rattle.narc_packet.specs.PacketView.{Ipv4View}
use Rattle.narc_packet.specs.Ranges.{IsMac}
use Rattle.narc_packet.specs.Options.{IsIpArea}
use Rattle.narc_packet.specs.Ipv4.{IsIpBody, IsIpv4InRange, MayHaveBody, ipv4_header, is_fragment}
use Rattle.narc_packet.specs.Frame.{ipv4_type}
use Rattle.narc_packet.proofs.Ipv4Fields.{header_size}
use Rattle.narc_mend.specs.declared.mend.Zero.TheVariants.{Plain}
use Rattle.narc_patch.specs.Change.{with_octets}
use Rattle.narc_patch.specs.Patched.{header_sum}
use Rattle.narc_patch.proofs.Places.{octets_between, with_octets_each, with_octets_size}
use Rattle.narc_patch.proofs.HeaderChanges.{IsHeaderChange, next_sum, header_changed, header_good}
use Rattle.narc_mend.proofs.MendedSums.{mended_small}

abbrev pub ethernet : (dst src : List ℕ) → List ℕ
ethernet dst src = dst ++ src ++ big_endian 2 ipv4_type

-- A frame of the packet, of so many octets and with its data from an octet on, but for the checksum of the data, which is
-- that between these two addresses.
pub record IsIpv4Frame (mac_dst mac_src src dst : List ℕ) (start size : ℕ) (p : Ipv4View) (frame : List ℕ) : Type 0 where
  pub sum : ℕ
  pub area : List ℕ
  pub content : List ℕ
  pub pad : List ℕ
  pub layout : frame ≡ ethernet mac_dst mac_src ++ (ipv4_header p sum (length area) (length content) ++ (area ++ (content ++ pad)))
  pub options : IsIpArea p.options area
  pub fits : 20 + length area + length content ≤ MAX_LENGTH
  pub checked : IsGoodSum (ipv4_header p sum (length area) (length content) ++ area)
  pub may_have_body : MayHaveBody (is_fragment p.mf p.offset) p.body
  pub body : IsIpBody src dst p.body content
  pub in_range : IsIpv4InRange p
  pub sum_range : sum < 2 ^ 16
  pub mac_dst_is : IsMac mac_dst
  pub mac_src_is : IsMac mac_src
  pub octets : IsOctets frame
  pub starts : 34 + length area ≡ start
  pub as_long : length frame ≡ size

-- q is p but for what the octets of one word of the header say
pub record IsHeaderStep (p q : Ipv4View) (k : ℕ) (octets : List ℕ) : Type 0 where
  pub change : IsHeaderChange p q k octets
  pub options : q.options ≡ p.options
  pub body : q.body ≡ p.body
  pub fragment : is_fragment q.mf q.offset ≡ is_fragment p.mf p.offset
  pub in_range : IsIpv4InRange q

pub ethernet_size : (dst src : List ℕ) → IsMac dst → IsMac src → length (ethernet dst src) ≡ 14
ethernet_size dst src d s = omega (arith, length-append (dst ++ src) (big_endian 2 ipv4_type), length-append dst src, d.0, s.0)

module _ (mac_dst mac_src src dst : List ℕ) (start whole : ℕ) (p q : Ipv4View) (k : ℕ) (octets frame : List ℕ) (c : IsHeaderStep p q k octets) (f : IsIpv4Frame mac_dst mac_src src dst start whole p frame) where
  abbrev front : List ℕ
  front = ethernet mac_dst mac_src

  abbrev back : List ℕ
  back = f.area ++ (f.content ++ f.pad)

  abbrev old : List ℕ
  old = ipv4_header p f.sum (length f.area) (length f.content)

  abbrev sum : ℕ
  sum = next_sum p q f.in_range.src f.in_range.dst c.in_range.src c.in_range.dst k octets c.change f.sum (length f.area) (length f.content) f.sum_range

  new_layout : with_octets frame (14 + k) octets (header_sum ∷ []) ≡ front ++ (ipv4_header q sum (length f.area) (length f.content) ++ back)
  new_layout =
      let size = header_size p f.in_range.src f.in_range.dst (length f.area) (length f.content) f.sum in
      let end = c.change.word.in_word in
      let inside = c.change.word.inside in
      ap (λ l. with_octets l (14 + k) octets (header_sum ∷ [])) f.layout
      ∙ octets_between front old back 14 (ethernet_size mac_dst mac_src f.mac_dst_is f.mac_src_is) refl k octets (omega (arith, size, end, inside)) (omega (arith, size, inside)) 10 Plain (omega (arith, size))
      ∙ ap (λ l. front ++ (l ++ back)) (header_changed p q f.in_range.src f.in_range.dst c.in_range.src c.in_range.dst k octets c.change f.sum (length f.area) (length f.content) f.sum_range)

  old_each : IsOctets old
  old_each = IsOctets-front old back (IsOctets-back front (old ++ back) (subst IsOctets f.layout f.octets))

  new_size : length (with_octets frame (14 + k) octets (header_sum ∷ [])) ≡ length frame
  new_size =
      let ours = ethernet_size mac_dst mac_src f.mac_dst_is f.mac_src_is in
      let size = header_size p f.in_range.src f.in_range.dst (length f.area) (length f.content) f.sum in
      let end = c.change.word.in_word in
      let inside = c.change.word.inside in
      let room : 34 ≤ length frame = omega (arith, ap length f.layout, length-append front (old ++ back), length-append old back, ours, size) in
      with_octets_size frame (14 + k) octets header_sum (omega (arith, room, end, inside)) (omega (arith, room))

  pub header_step : IsIpv4Frame mac_dst mac_src src dst start whole q (with_octets frame (14 + k) octets (header_sum ∷ []))
  header_step = record {
    sum = sum;
    area = f.area;
    content = f.content;
    pad = f.pad;
    layout = new_layout;
    options = subst (λ o. IsIpArea o f.area) (sym c.options) f.options;
    fits = f.fits;
    checked = header_good p q f.in_range.src f.in_range.dst c.in_range.src c.in_range.dst k octets c.change f.sum (length f.area) (length f.content) f.sum_range f.area old_each f.options.octets f.checked;
    may_have_body = subst (λ t. MayHaveBody t q.body) (sym c.fragment) (subst (MayHaveBody (is_fragment p.mf p.offset)) (sym c.body) f.may_have_body);
    body = subst (λ b. IsIpBody src dst b f.content) (sym c.body) f.body;
    in_range = c.in_range;
    sum_range = mended_small _ _ _ Plain;
    mac_dst_is = f.mac_dst_is;
    mac_src_is = f.mac_src_is;
    octets = with_octets_each frame (14 + k) octets (header_sum ∷ []) f.octets c.change.word.each;
    starts = f.starts;
    as_long = new_size ∙ f.as_long;
  }
