-- A frame of an IPv4 packet with a word of its addresses changed, which stand in the header and under the checksum of its data.
use Rattle.std.proofs.Common.{◌≡◌, ℕ, ◌+◌, ◌*◌, ◌/◌, ◌≤◌, List, [], ◌∷◌, ◌++◌, length, refl, sym, ap, ◌∙◌, subst, arith, length-append}
use Rattle.narc_bits.specs.Bits.{overlay}
use Rattle.narc_bits.specs.Octets.{IsOctets, big_endian, number_at}
use Rattle.narc_bits.proofs.Lists.{overlay-front, overlay-behind}
use Rattle.narc_bits.proofs.NumbersAt.{number-front, number-behind}
use Rattle.narc_packet.specs.PacketView.{Ipv4View, IpBodyView, UdpView, TcpView, UdpBody, TcpBody, RawBody}
use Rattle.narc_packet.specs.Ranges.{IsIp}
use Rattle.narc_packet.specs.Udp.{IsUdp, udp_octets, udp_length}
use Rattle.narc_packet.specs.Tcp.{IsTcp, tcp_octets}
use Rattle.narc_packet.specs.Ipv4.{IsIpBody, IsIpv4InRange, ipv4_header, fragment_word, protocol_of}
use Rattle.narc_packet.proofs.Ipv4Fields.{header_size}
use Rattle.narc_mend.specs.declared.mend.Zero.{Zero}
use Rattle.narc_mend.specs.declared.mend.Zero.TheVariants.{Plain, Udp}
use Rattle.narc_patch.specs.declared.change.Checksum.{Checksum}
use Rattle.narc_patch.specs.Change.{with_mended, with_octets}
use Rattle.narc_patch.specs.Patched.{header_sum, udp_sums, tcp_sums}
use Rattle.narc_patch.proofs.Places.{mended-between, before_is, after_is, with_mended_each, with_mended_size}
use Rattle.narc_patch.proofs.HeaderSteps.{IsIpv4Frame, IsHeaderStep, header_step, ethernet, ethernet_size}
use Rattle.narc_patch.proofs.SummedChanges.{IsSummedChange}
use Rattle.narc_patch.proofs.UdpChanges.{udp_changed}
use Rattle.narc_patch.proofs.TcpChanges.{segment, tcp_changed}
use Rattle.narc_patch.proofs.DataSteps.{front, front_layout, front_size, data_step}

-- the checksums of the data
abbrev pub body_sums : (start : ℕ) → IpBodyView → List Checksum
body_sums start (UdpBody u) = udp_sums start
body_sums start (TcpBody t) = tcp_sums start
body_sums start (RawBody protocol payload) = []

-- Some octets of one word of both addresses, by which they become others.
pub record IsEndsChange (p : Ipv4View) (next_src next_dst : List ℕ) (k : ℕ) (octets : List ℕ) : Type 0 where
  pub overlaid : overlay (p.src ++ p.dst) k octets ≡ next_src ++ next_dst
  pub next_src_is : IsIp next_src
  pub next_dst_is : IsIp next_dst
  pub each : IsOctets octets
  pub in_word : k + length octets ≤ k / 2 * 2 + 2
  pub inside : k / 2 * 2 + 2 ≤ 8

-- the header before the addresses
abbrev head : Ipv4View → (sum la lc : ℕ) → List ℕ
head p sum la lc =
    let h = 20 + la in
    ((64 + h / 4) ∷ p.tos ∷ []) ++ big_endian 2 (h + lc) ++ big_endian 2 p.id
    ++ big_endian 2 (fragment_word p) ++ (p.ttl ∷ protocol_of p.body ∷ []) ++ big_endian 2 sum

module _ (p : Ipv4View) (range : IsIpv4InRange p) (next_src next_dst : List ℕ) (k : ℕ) (octets : List ℕ) (c : IsEndsChange p next_src next_dst k octets) where
  abbrev pub moved : Ipv4View
  moved = record p { src = next_src; dst = next_dst }

  word_is : (12 + k) / 2 * 2 ≡ 12 + k / 2 * 2
  word_is = omega arith

  pub ends_step : IsHeaderStep p moved (12 + k) octets
  ends_step =
      let end = c.in_word in
      let inside = c.inside in
      record {
        change = record {
          overlaid = λ sum la lc. overlay-behind (head p sum la lc) (p.src ++ p.dst) 12 k octets refl ∙ ap (λ l. head p sum la lc ++ l) c.overlaid;
          word = record { each = c.each; in_word = omega (arith, end); inside = omega (arith, inside); apart = λ e. absurd (omega (arith, e)) };
        };
        options = refl;
        body = refl;
        fragment = refl;
        in_range = record { tos = range.tos; id = range.id; offset = range.offset; ttl = range.ttl; src = c.next_src_is; dst = c.next_dst_is };
      }

  ends_word : (x : Ipv4View) → IsIp x.src → IsIp x.dst → (sum la lc : ℕ) → number_at (ipv4_header x sum la lc) ((12 + k) / 2 * 2) 2 ≡ number_at (x.src ++ x.dst) (k / 2 * 2) 2
  ends_word x s d sum la lc = ap (λ n. number_at (ipv4_header x sum la lc) n 2) word_is ∙ number-behind (head x sum la lc) (x.src ++ x.dst) 12 (k / 2 * 2) 2 refl

  pub pseudo_word : (s d l m : List ℕ) → IsIp s → IsIp d → number_at (s ++ d ++ l ++ m) (k / 2 * 2) 2 ≡ number_at (s ++ d) (k / 2 * 2) 2
  pseudo_word s d l m si di =
      let inside = c.inside in
      number-front (s ++ d ++ l) m (k / 2 * 2) 2 (omega (arith, length-append (s ++ d) l, length-append s d, si.0, di.0, inside))
      ∙ number-front (s ++ d) l (k / 2 * 2) 2 (omega (arith, length-append s d, si.0, di.0, inside))

  abbrev pub place : ℕ
  place = 14 + (12 + k)

  module _ (mac_dst mac_src : List ℕ) (start whole : ℕ) (frame : List ℕ) (f : IsIpv4Frame mac_dst mac_src p.src p.dst start whole p frame) where
    abbrev pub before : ℕ
    before = number_at frame (place / 2 * 2) 2

    abbrev pub after : ℕ
    after = number_at (overlay frame place octets) (place / 2 * 2) 2

    abbrev old : List ℕ
    old = ipv4_header p f.sum (length f.area) (length f.content)

    abbrev back : List ℕ
    back = f.area ++ (f.content ++ f.pad)

    old_size : length old ≡ 20
    old_size = header_size p f.in_range.src f.in_range.dst (length f.area) (length f.content) f.sum

    ours : length (ethernet mac_dst mac_src) ≡ 14
    ours = ethernet_size mac_dst mac_src f.mac_dst_is f.mac_src_is

    room : (12 + k) + length octets ≤ length old
    room = let end = c.in_word in let inside = c.inside in omega (arith, old_size, end, inside)

    word_room : (12 + k) / 2 * 2 + 2 ≤ length old
    word_room = let inside = c.inside in omega (arith, old_size, inside)

    pub before_word : before ≡ number_at (p.src ++ p.dst) (k / 2 * 2) 2
    before_word =
        ap (λ l. number_at l (place / 2 * 2) 2) f.layout
        ∙ before_is (ethernet mac_dst mac_src) old back 14 ours refl (12 + k) octets room word_room
        ∙ ends_word p f.in_range.src f.in_range.dst f.sum (length f.area) (length f.content)

    pub after_word : after ≡ number_at (next_src ++ next_dst) (k / 2 * 2) 2
    after_word =
        let step = ends_step in
        ap (λ l. number_at (overlay l place octets) (place / 2 * 2) 2) f.layout
        ∙ after_is (ethernet mac_dst mac_src) old back 14 ours refl (12 + k) octets room word_room
        ∙ ap (λ l. number_at l ((12 + k) / 2 * 2) 2) (step.change.overlaid f.sum (length f.area) (length f.content))
        ∙ ends_word moved c.next_src_is c.next_dst_is f.sum (length f.area) (length f.content)

    -- the header is right, and the data has the old addresses still
    abbrev pub between : List ℕ
    between = with_octets frame place octets (header_sum ∷ [])

    pub stepped : IsIpv4Frame mac_dst mac_src p.src p.dst start whole moved between
    stepped = header_step mac_dst mac_src p.src p.dst start whole p moved (12 + k) octets frame ends_step f

  -- what is summed with a pseudo header
  summed_overlaid : (tail l : List ℕ) → overlay (p.src ++ p.dst ++ tail ++ l) k octets ≡ next_src ++ next_dst ++ tail ++ l
  summed_overlaid tail l =
      let end = c.in_word in
      let inside = c.inside in
      let room : k + length octets ≤ length (p.src ++ p.dst) = omega (arith, length-append p.src p.dst, range.src.0, range.dst.0, end, inside) in
      overlay-front (p.src ++ p.dst ++ tail) l k octets (omega (arith, length-append (p.src ++ p.dst) tail, room))
      ∙ ap (λ m. m ++ l) (overlay-front (p.src ++ p.dst) tail k octets room ∙ ap (λ m. m ++ tail) c.overlaid)

  pub summed_change : (protocol size hole : ℕ) (whole : ℕ → List ℕ) → IsSummedChange protocol size hole p.src p.dst next_src next_dst whole whole k octets
  summed_change protocol size hole whole =
      let inside = c.inside in
      record {
        overlaid = λ n sum. summed_overlaid (0 ∷ protocol ∷ big_endian 2 n) (whole sum);
        src_is = range.src;
        dst_is = range.dst;
        next_src_is = c.next_src_is;
        next_dst_is = c.next_dst_is;
        word = record { each = c.each; in_word = c.in_word; inside = omega (arith, inside); apart = λ e. absurd (omega (arith, inside, e)) };
      }

-- the words of the pseudo header that are changed and those of the header are the same
module _ (mac_dst mac_src : List ℕ) (start whole : ℕ) (ip : Ipv4View) (next_src next_dst : List ℕ) (k : ℕ) (octets frame : List ℕ) (c : IsEndsChange ip next_src next_dst k octets) where
  module _ (body : IpBodyView) (f : IsIpv4Frame mac_dst mac_src ip.src ip.dst start whole (record ip { body = body }) frame) where
    abbrev p : Ipv4View
    p = record ip { body = body }

    abbrev q : Ipv4View
    q = record ip { src = next_src; dst = next_dst; body = body }

    abbrev to : IsEndsChange p next_src next_dst k octets
    to = record { overlaid = c.overlaid; next_src_is = c.next_src_is; next_dst_is = c.next_dst_is; each = c.each; in_word = c.in_word; inside = c.inside }

    abbrev first : List ℕ
    first = between p f.in_range next_src next_dst k octets to mac_dst mac_src start whole frame f

    s : IsIpv4Frame mac_dst mac_src ip.src ip.dst start whole q first
    s = stepped p f.in_range next_src next_dst k octets to mac_dst mac_src start whole frame f

    abbrev old_word : ℕ
    old_word = before p f.in_range next_src next_dst k octets to mac_dst mac_src start whole frame f

    abbrev new_word : ℕ
    new_word = after p f.in_range next_src next_dst k octets to mac_dst mac_src start whole frame f

    old_is : (l m : List ℕ) → number_at (ip.src ++ ip.dst ++ l ++ m) (k / 2 * 2) 2 ≡ old_word
    old_is l m = pseudo_word p f.in_range next_src next_dst k octets to ip.src ip.dst l m f.in_range.src f.in_range.dst ∙ sym (before_word p f.in_range next_src next_dst k octets to mac_dst mac_src start whole frame f)

    new_is : (l m : List ℕ) → number_at (next_src ++ next_dst ++ l ++ m) (k / 2 * 2) 2 ≡ new_word
    new_is l m = pseudo_word p f.in_range next_src next_dst k octets to next_src next_dst l m c.next_src_is c.next_dst_is ∙ sym (after_word p f.in_range next_src next_dst k octets to mac_dst mac_src start whole frame f)

    -- the checksum of the data is mended
    placed : (hole : ℕ) (zero : Zero) → hole + 2 ≤ length s.content
        → with_mended old_word new_word first (record { at = start + hole; zero = zero })
        ≡ front mac_dst mac_src ip.src ip.dst start whole q first s ++ (with_mended old_word new_word s.content (record { at = hole; zero = zero }) ++ s.pad)
    placed hole zero inside =
        let sum : Checksum = record { at = start + hole; zero = zero } in
        ap (λ l. with_mended old_word new_word l sum) (front_layout mac_dst mac_src ip.src ip.dst start whole q first s)
        ∙ mended-between (front mac_dst mac_src ip.src ip.dst start whole q first s) s.content s.pad start (front_size mac_dst mac_src ip.src ip.dst start whole q first s) old_word new_word hole zero inside

    with_body : (hole : ℕ) (zero : Zero) → hole + 2 ≤ length s.content → IsIpBody next_src next_dst body (with_mended old_word new_word s.content (record { at = hole; zero = zero }))
        → IsIpv4Frame mac_dst mac_src next_src next_dst start whole q (with_mended old_word new_word first (record { at = start + hole; zero = zero }))
    with_body hole zero inside is =
        let sum : Checksum = record { at = start + hole; zero = zero } in
        let own : Checksum = record { at = hole; zero = zero } in
        data_step mac_dst mac_src ip.src ip.dst start whole q first s next_src next_dst body refl (λ t m. m) (with_mended old_word new_word s.content own) (with_mended old_word new_word first sum)
        (with_mended_size old_word new_word s.content own inside) is (with_mended_each old_word new_word first sum s.octets) (placed hole zero inside)

  pub udp_ends : (u : UdpView) → IsIpv4Frame mac_dst mac_src ip.src ip.dst start whole (record ip { body = UdpBody u }) frame
      → IsIpv4Frame mac_dst mac_src next_src next_dst start whole (record ip { src = next_src; dst = next_dst; body = UdpBody u }) (with_octets frame (14 + (12 + k)) octets (header_sum ∷ udp_sums start))
  udp_ends u f =
      let body = UdpBody u in
      let b = (s body f).body in
      let content = (s body f).content in
      let tail = 0 ∷ 17 ∷ big_endian 2 (udp_length u) in
      let own : Checksum = record { at = 6; zero = Udp } in
      let changed = udp_changed ip.src ip.dst next_src next_dst u u k octets content content (record { summed = summed_change (p body f) f.in_range next_src next_dst k octets (to body f) 17 8 6 (udp_octets u); as_long = refl; in_range = b.in_range }) b b.layout b.octets in
      let is : IsUdp next_src next_dst u (with_mended (old_word body f) (new_word body f) content own) =
      subst (λ n. IsUdp next_src next_dst u (with_mended n (new_word body f) content own)) (old_is body f tail (udp_octets u b.sum))
      (subst (λ n. IsUdp next_src next_dst u (with_mended (number_at (ip.src ++ ip.dst ++ tail ++ udp_octets u b.sum) (k / 2 * 2) 2) n content own)) (new_is body f tail (udp_octets u b.sum)) changed)
      in
      with_body body f 6 Udp (omega (arith, ap length b.layout, length-append (udp_octets u b.sum) b.surplus)) is

  pub tcp_ends : (t : TcpView) → IsIpv4Frame mac_dst mac_src ip.src ip.dst start whole (record ip { body = TcpBody t }) frame
      → IsIpv4Frame mac_dst mac_src next_src next_dst start whole (record ip { src = next_src; dst = next_dst; body = TcpBody t }) (with_octets frame (14 + (12 + k)) octets (header_sum ∷ tcp_sums start))
  tcp_ends t f =
      let body = TcpBody t in
      let b = (s body f).body in
      let content = (s body f).content in
      let tail = 0 ∷ 6 ∷ big_endian 2 (length content) in
      let own : Checksum = record { at = 16; zero = Plain } in
      let changed = tcp_changed ip.src ip.dst next_src next_dst t t k octets content content b (record { summed = summed_change (p body f) f.in_range next_src next_dst k octets (to body f) 6 20 16 (segment t b.area); options = refl; as_long = refl; in_range = b.in_range }) b.layout b.octets in
      let is : IsTcp next_src next_dst t (with_mended (old_word body f) (new_word body f) content own) =
      subst (λ n. IsTcp next_src next_dst t (with_mended n (new_word body f) content own)) (old_is body f tail (tcp_octets t b.sum b.area))
      (subst (λ n. IsTcp next_src next_dst t (with_mended (number_at (ip.src ++ ip.dst ++ tail ++ tcp_octets t b.sum b.area) (k / 2 * 2) 2) n content own)) (new_is body f tail (tcp_octets t b.sum b.area)) changed)
      in
      with_body body f 16 Plain (omega (arith, ap length b.layout, length-append b.area t.payload)) is

  -- unread data has no checksum
  pub raw_ends : (protocol : ℕ) (payload : List ℕ) → IsIpv4Frame mac_dst mac_src ip.src ip.dst start whole (record ip { body = RawBody protocol payload }) frame
      → IsIpv4Frame mac_dst mac_src next_src next_dst start whole (record ip { src = next_src; dst = next_dst; body = RawBody protocol payload }) (with_octets frame (14 + (12 + k)) octets (header_sum ∷ []))
  raw_ends protocol payload f =
      let body = RawBody protocol payload in
      let here = s body f in
      data_step mac_dst mac_src ip.src ip.dst start whole (q body f) (first body f) here next_src next_dst body refl (λ t m. m) here.content (first body f) refl here.body here.octets
      (front_layout mac_dst mac_src ip.src ip.dst start whole (q body f) (first body f) here)
