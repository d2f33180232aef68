-- A frame of a datagram or a segment with a field of its header changed.
use Rattle.std.proofs.Common.{◌≡◌, ℕ, ◌+◌, ◌*◌, ◌/◌, ◌≤◌, Bool, List, [], ◌∷◌, ◌++◌, length, refl, sym, ap, ◌∙◌, subst, arith, lit≤, length-append}
use Rattle.narc_bits.specs.Bits.{overlay}
use Rattle.narc_bits.specs.Octets.{number_at}
use Rattle.narc_bits.proofs.Lists.{overlay-front}
use Rattle.narc_bits.proofs.NumbersAt.{number-front}
use Rattle.narc_bits.proofs.Overlays.{IsOctets-overlay}
use Rattle.narc_packet.specs.PacketView.{Ipv4View, IpBodyView, UdpView, TcpView, UdpBody, TcpBody}
use Rattle.narc_packet.specs.Ranges.{IsIp, IsUdpInRange, IsTcpInRange}
use Rattle.narc_packet.specs.Udp.{IsUdp, udp_octets, udp_length, udp_pseudo_header}
use Rattle.narc_packet.specs.Tcp.{IsTcp, tcp_octets, tcp_pseudo_header}
use Rattle.narc_packet.specs.Ipv4.{IsIpBody, MayHaveBody, protocol_of}
use Rattle.narc_mend.specs.declared.mend.Zero.{Zero}
use Rattle.narc_mend.specs.declared.mend.Zero.TheVariants.{Plain, Udp}
use Rattle.narc_mend.proofs.Holes.{IsWordChange}
use Rattle.narc_patch.specs.declared.change.Checksum.{Checksum}
use Rattle.narc_patch.specs.Change.{with_mended, with_octets}
use Rattle.narc_patch.specs.Patched.{udp_sums, tcp_sums}
use Rattle.narc_patch.proofs.Places.{octets_between, with_octets_each, with_octets_size}
use Rattle.narc_patch.proofs.HeaderSteps.{IsIpv4Frame}
use Rattle.narc_patch.proofs.SummedChanges.{data_change, data_word}
use Rattle.narc_patch.proofs.UdpChanges.{IsUdpChange, udp_changed}
use Rattle.narc_patch.proofs.TcpChanges.{IsTcpChange, segment, tcp_changed}
use Rattle.narc_patch.proofs.DataSteps.{front, front_layout, front_size, even_start, data_step}

-- Some octets of one word of a datagram, by which u becomes v.
pub record IsUdpField (u v : UdpView) (k : ℕ) (octets : List ℕ) : Type 0 where
  pub overlaid : (sum : ℕ) → overlay (udp_octets u sum) k octets ≡ udp_octets v sum
  pub as_long : udp_length v ≡ udp_length u
  pub in_range : IsUdpInRange v
  pub word : IsWordChange 8 6 k octets

module _ (src dst : List ℕ) (s : IsIp src) (d : IsIp dst) (u v : UdpView) (k : ℕ) (octets content : List ℕ) (c : IsUdpField u v k octets) (f : IsUdp src dst u content) where
  abbrev written : List ℕ
  written = overlay content k octets

  room : k + length octets ≤ length (udp_octets u f.sum)
  room = let w = c.word in let end = w.in_word in let inside = w.inside in omega (arith, end, inside)

  placed : written ≡ udp_octets v f.sum ++ f.surplus
  placed = ap (λ l. overlay l k octets) f.layout ∙ overlay-front (udp_octets u f.sum) f.surplus k octets room ∙ ap (λ l. l ++ f.surplus) (c.overlaid f.sum)

  change : IsUdpChange src dst src dst u v (12 + k) octets
  change = record { summed = data_change 17 8 6 src dst s d k (udp_octets u) (udp_octets v) octets c.overlaid c.word; as_long = c.as_long; in_range = c.in_range }

  -- the word of the datagram is that of what is summed
  same_word : (x : UdpView) (l : List ℕ) → l ≡ udp_octets x f.sum ++ f.surplus → number_at (udp_pseudo_header src dst (udp_length u) ++ udp_octets x f.sum) ((12 + k) / 2 * 2) 2 ≡ number_at l (k / 2 * 2) 2
  same_word x l is = data_word 17 (udp_length u) src dst (udp_octets x f.sum) k s d ∙ sym (ap (λ m. number_at m (k / 2 * 2) 2) is ∙ number-front (udp_octets x f.sum) f.surplus (k / 2 * 2) 2 (omega (arith, c.word.inside)))

  pub udp_written : IsUdp src dst v (with_octets content k octets (record { at = 6; zero = Udp } ∷ []))
  udp_written =
      let own : Checksum = record { at = 6; zero = Udp } in
      let before = number_at content (k / 2 * 2) 2 in
      let changed = udp_changed src dst src dst u v (12 + k) octets content written change f placed (IsOctets-overlay content k octets f.octets c.word.each) in
      subst (λ n. IsUdp src dst v (with_mended before n written own)) (same_word v written placed)
      (subst (λ n. IsUdp src dst v (with_mended n (number_at (udp_pseudo_header src dst (udp_length u) ++ udp_octets v f.sum) ((12 + k) / 2 * 2) 2) written own)) (same_word u content f.layout) changed)

-- Some octets of one word of a segment with this area, by which t becomes v.
pub record IsTcpField (t v : TcpView) (area : List ℕ) (k : ℕ) (octets : List ℕ) : Type 0 where
  pub overlaid : (sum : ℕ) → overlay (tcp_octets t sum area) k octets ≡ tcp_octets v sum area
  pub options : v.options ≡ t.options
  pub as_long : length v.payload ≡ length t.payload
  pub in_range : IsTcpInRange v
  pub word : IsWordChange 20 16 k octets

module _ (src dst : List ℕ) (s : IsIp src) (d : IsIp dst) (t v : TcpView) (k : ℕ) (octets content : List ℕ) (f : IsTcp src dst t content) (c : IsTcpField t v f.area k octets) where
  abbrev written_segment : List ℕ
  written_segment = overlay content k octets

  abbrev segment_pseudo : List ℕ
  segment_pseudo = tcp_pseudo_header src dst (length content)

  segment_placed : written_segment ≡ tcp_octets v f.sum f.area
  segment_placed = ap (λ l. overlay l k octets) f.layout ∙ c.overlaid f.sum

  segment_change : IsTcpChange src dst src dst t v f.area (12 + k) octets
  segment_change = record { summed = data_change 6 20 16 src dst s d k (segment t f.area) (segment v f.area) octets c.overlaid c.word; options = c.options; as_long = c.as_long; in_range = c.in_range }

  same_segment_word : (x : TcpView) (l : List ℕ) → l ≡ tcp_octets x f.sum f.area → number_at (segment_pseudo ++ tcp_octets x f.sum f.area) ((12 + k) / 2 * 2) 2 ≡ number_at l (k / 2 * 2) 2
  same_segment_word x l is = data_word 6 (length content) src dst (tcp_octets x f.sum f.area) k s d ∙ sym (ap (λ m. number_at m (k / 2 * 2) 2) is)

  pub tcp_written : IsTcp src dst v (with_octets content k octets (record { at = 16; zero = Plain } ∷ []))
  tcp_written =
      let own : Checksum = record { at = 16; zero = Plain } in
      let before = number_at content (k / 2 * 2) 2 in
      let changed = tcp_changed src dst src dst t v (12 + k) octets content written_segment f segment_change segment_placed (IsOctets-overlay content k octets f.octets c.word.each) in
      subst (λ n. IsTcp src dst v (with_mended before n written_segment own)) (same_segment_word v written_segment segment_placed)
      (subst (λ n. IsTcp src dst v (with_mended n (number_at (segment_pseudo ++ tcp_octets v f.sum f.area) ((12 + k) / 2 * 2) 2) written_segment own)) (same_segment_word t content f.layout) changed)

module _ (mac_dst mac_src : List ℕ) (start whole : ℕ) (ip : Ipv4View) (k : ℕ) (octets frame : List ℕ) where
  abbrev FrameOf : IpBodyView → List ℕ → Type 0
  FrameOf body l = IsIpv4Frame mac_dst mac_src ip.src ip.dst start whole (record ip { body = body }) l

  -- with a checksum in the data
  data_field : (body next : IpBodyView) → protocol_of next ≡ protocol_of body → ((t : Bool) → MayHaveBody t body → MayHaveBody t next) → (size hole : ℕ) (zero : Zero) → hole + 2 ≤ size → IsWordChange size hole k octets
      → (f : FrameOf body frame) → size ≤ length f.content → IsIpBody ip.src ip.dst next (with_octets f.content k octets (record { at = hole; zero = zero } ∷ [])) → FrameOf next (with_octets frame (start + k) octets (record { at = start + hole; zero = zero } ∷ []))
  data_field body next protocol may size hole zero fits w f room is =
      let p : Ipv4View = record ip { body = body } in
      let own : Checksum = record { at = hole; zero = zero } in
      let sums : List Checksum = record { at = start + hole; zero = zero } ∷ [] in
      let here = front mac_dst mac_src ip.src ip.dst start whole p frame f in
      data_step mac_dst mac_src ip.src ip.dst start whole p frame f ip.src ip.dst next protocol may (with_octets f.content k octets (own ∷ [])) (with_octets frame (start + k) octets sums)
      (with_octets_size f.content k octets own (omega (arith, room, w.in_word, w.inside)) (omega (arith, room, fits)))
      is
      (with_octets_each frame (start + k) octets sums f.octets w.each)
      (ap (λ l. with_octets l (start + k) octets sums) (front_layout mac_dst mac_src ip.src ip.dst start whole p frame f)
      ∙ octets_between here f.content f.pad start (front_size mac_dst mac_src ip.src ip.dst start whole p frame f) (even_start mac_dst mac_src ip.src ip.dst start whole p frame f) k octets (omega (arith, room, w.in_word, w.inside)) (omega (arith, room, w.inside)) hole zero (omega (arith, room, fits)))

  pub udp_step : (u v : UdpView) → IsUdpField u v k octets → FrameOf (UdpBody u) frame → FrameOf (UdpBody v) (with_octets frame (start + k) octets (udp_sums start))
  udp_step u v c f =
      data_field (UdpBody u) (UdpBody v) refl (λ t m. m) 8 6 Udp (lit≤ tt) c.word f (omega (arith, ap length f.body.layout, length-append (udp_octets u f.body.sum) f.body.surplus))
      (udp_written ip.src ip.dst f.in_range.src f.in_range.dst u v k octets f.content c f.body)

  pub tcp_step : (t v : TcpView) (f : FrameOf (TcpBody t) frame) → IsTcpField t v f.body.area k octets → FrameOf (TcpBody v) (with_octets frame (start + k) octets (tcp_sums start))
  tcp_step t v f c =
      data_field (TcpBody t) (TcpBody v) refl (λ t m. m) 20 16 Plain (lit≤ tt) c.word f (omega (arith, ap length f.body.layout, length-append f.body.area t.payload))
      (tcp_written ip.src ip.dst f.in_range.src f.in_range.dst t v k octets f.content f.body c)
