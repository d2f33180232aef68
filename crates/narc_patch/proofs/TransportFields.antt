-- A frame of a datagram or a segment with one field of its header assigned.
use Rattle.std.proofs.Common.{◌≡◌, ℕ, ◌+◌, ◌*◌, ◌/◌, ◌%◌, ◌<◌, ◌≤◌, ◌≢◌, ◌^◌, List, ◌∷◌, ◌++◌, length, fold, refl, sym, ap, ◌∙◌, subst, add-zero, arith, lit<, lit≤, length-append}
use Rattle.narc_bits.specs.Bits.{overlay}
use Rattle.narc_bits.specs.Octets.{big_endian, number_at}
use Rattle.narc_bits.proofs.Octets.{IsOctets-big_endian}
use Rattle.narc_bits.proofs.NetworkOrder.{number_of-big_endian}
use Rattle.narc_bits.proofs.NumbersAt.{number-between}
use Rattle.narc_bits.proofs.WordValues.{long_high, long_low}
use Rattle.narc_packet.specs.PacketView.{Ipv4View, UdpView, TcpView, UdpBody, TcpBody}
use Rattle.narc_packet.specs.Udp.{udp_octets}
use Rattle.narc_packet.specs.Tcp.{tcp_octets}
use Rattle.narc_mend.proofs.Holes.{IsWordChange}
use Rattle.narc_patch.specs.Change.{changed, with_octets}
use Rattle.narc_patch.specs.Patched.{whole, part, words, udp_sums, tcp_sums}
use Rattle.narc_patch.proofs.HeaderSteps.{IsIpv4Frame}
use Rattle.narc_patch.proofs.DataSteps.{front, front_layout, front_size}
use Rattle.narc_patch.proofs.PortSteps.{IsUdpField, IsTcpField, udp_step, tcp_step}

-- a number of two octets at an even place
word_change : (size hole k n : ℕ) → k + 2 ≤ k / 2 * 2 + 2 → k / 2 * 2 + 2 ≤ size → hole ≢ k / 2 * 2 → IsWordChange size hole k (big_endian 2 n)
word_change size hole k n end inside apart = record { each = IsOctets-big_endian 2 n; in_word = end; inside = inside; apart = apart }

apart : (hole k : ℕ) → k < hole → hole ≢ k
apart hole k h e = absurd (omega (arith, h, e))

apart_behind : (hole k : ℕ) → hole < k → hole ≢ k
apart_behind hole k h e = absurd (omega (arith, h, e))

module _ (mac_dst mac_src : List ℕ) (start size : ℕ) (ip : Ipv4View) where
  abbrev UdpFrame : UdpView → List ℕ → Type 0
  UdpFrame u l = IsIpv4Frame mac_dst mac_src ip.src ip.dst start size (record ip { body = UdpBody u }) l

  module _ (u : UdpView) (frame : List ℕ) (f : UdpFrame u frame) where
    udp_sport_overlaid : (v sum : ℕ) → overlay (udp_octets u sum) 0 (big_endian 2 v) ≡ udp_octets (record u { sport = v }) sum
    unfolding overlay
    udp_sport_overlaid v sum = refl

    udp_dport_overlaid : (v sum : ℕ) → overlay (udp_octets u sum) 2 (big_endian 2 v) ≡ udp_octets (record u { dport = v }) sum
    unfolding overlay
    udp_dport_overlaid v sum = refl

    pub udp_sport_step : (v : ℕ) → v < 2 ^ 16 → UdpFrame (record u { sport = v }) (changed frame (whole start 2 v (udp_sums start)))
    udp_sport_step v small =
        let range = f.body.in_range in
        let to : UdpView = record u { sport = v } in
        let field : IsUdpField u to 0 (big_endian 2 v) = record { overlaid = udp_sport_overlaid v; as_long = refl; in_range = record { sport = small; dport = range.dport; payload = range.payload }; word = word_change 8 6 0 v (lit≤ tt) (lit≤ tt) (apart 6 0 (lit< tt)) } in
        subst (λ n. UdpFrame to (with_octets frame n (big_endian 2 v) (udp_sums start))) (add-zero start) (udp_step mac_dst mac_src start size ip 0 (big_endian 2 v) frame u to field f)

    pub udp_dport_step : (v : ℕ) → v < 2 ^ 16 → UdpFrame (record u { dport = v }) (changed frame (whole (start + 2) 2 v (udp_sums start)))
    udp_dport_step v small =
        let range = f.body.in_range in
        let to : UdpView = record u { dport = v } in
        let field : IsUdpField u to 2 (big_endian 2 v) = record { overlaid = udp_dport_overlaid v; as_long = refl; in_range = record { sport = range.sport; dport = small; payload = range.payload }; word = word_change 8 6 2 v (lit≤ tt) (lit≤ tt) (apart 6 2 (lit< tt)) } in
        udp_step mac_dst mac_src start size ip 2 (big_endian 2 v) frame u to field f

module _ (mac_dst mac_src : List ℕ) (start size : ℕ) (ip : Ipv4View) where
  abbrev TcpFrame : TcpView → List ℕ → Type 0
  TcpFrame t l = IsIpv4Frame mac_dst mac_src ip.src ip.dst start size (record ip { body = TcpBody t }) l

  module _ (t : TcpView) (frame : List ℕ) (f : TcpFrame t frame) where
    abbrev area : List ℕ
    area = f.body.area

    -- the word of offset, reserved bits and flags
    abbrev word : ℕ
    word = (20 + length area) / 4 * 4096 + t.reserved * 64 + t.flags

    short_area : length area ≤ 40
    short_area = f.body.options.bound

    sport_overlaid : (v sum : ℕ) → overlay (tcp_octets t sum area) 0 (big_endian 2 v) ≡ tcp_octets (record t { sport = v }) sum area
    unfolding overlay
    sport_overlaid v sum = refl

    dport_overlaid : (v sum : ℕ) → overlay (tcp_octets t sum area) 2 (big_endian 2 v) ≡ tcp_octets (record t { dport = v }) sum area
    unfolding overlay
    dport_overlaid v sum = refl

    window_overlaid : (v sum : ℕ) → overlay (tcp_octets t sum area) 14 (big_endian 2 v) ≡ tcp_octets (record t { window = v }) sum area
    unfolding overlay
    window_overlaid v sum = refl

    urgent_overlaid : (v sum : ℕ) → overlay (tcp_octets t sum area) 18 (big_endian 2 v) ≡ tcp_octets (record t { urgent = v }) sum area
    unfolding overlay
    urgent_overlaid v sum = refl

    abbrev ports : List ℕ
    ports = big_endian 2 t.sport ++ big_endian 2 t.dport

    abbrev behind : (sum : ℕ) → List ℕ
    behind sum = big_endian 2 word ++ big_endian 2 t.window ++ big_endian 2 sum ++ big_endian 2 t.urgent ++ area ++ t.payload

    seq_high_overlaid : (v sum : ℕ) → overlay (tcp_octets t sum area) 4 (big_endian 2 v) ≡ tcp_octets (record t { seq = v * 65536 + t.seq % 65536 }) sum area
    unfolding overlay
    seq_high_overlaid v sum = ap (λ l. ports ++ (l ++ (big_endian 4 t.ack ++ behind sum))) (long_high t.seq v)

    seq_low_overlaid : (v : ℕ) → v < 65536 → (sum : ℕ) → overlay (tcp_octets t sum area) 6 (big_endian 2 v) ≡ tcp_octets (record t { seq = t.seq / 65536 * 65536 + v }) sum area
    unfolding overlay
    seq_low_overlaid v small sum = ap (λ l. ports ++ (l ++ (big_endian 4 t.ack ++ behind sum))) (long_low t.seq v small)

    ack_high_overlaid : (v sum : ℕ) → overlay (tcp_octets t sum area) 8 (big_endian 2 v) ≡ tcp_octets (record t { ack = v * 65536 + t.ack % 65536 }) sum area
    unfolding overlay
    ack_high_overlaid v sum = ap (λ l. ports ++ (big_endian 4 t.seq ++ (l ++ behind sum))) (long_high t.ack v)

    ack_low_overlaid : (v : ℕ) → v < 65536 → (sum : ℕ) → overlay (tcp_octets t sum area) 10 (big_endian 2 v) ≡ tcp_octets (record t { ack = t.ack / 65536 * 65536 + v }) sum area
    unfolding overlay
    ack_low_overlaid v small sum = ap (λ l. ports ++ (big_endian 4 t.seq ++ (l ++ behind sum))) (long_low t.ack v small)

    pub sport_step : (v : ℕ) → v < 2 ^ 16 → TcpFrame (record t { sport = v }) (changed frame (whole start 2 v (tcp_sums start)))
    sport_step v small =
        let r = f.body.in_range in
        let to : TcpView = record t { sport = v } in
        let field : IsTcpField t to area 0 (big_endian 2 v) = record { overlaid = sport_overlaid v; options = refl; as_long = refl; in_range = record { sport = small; dport = r.dport; seq = r.seq; ack = r.ack; reserved = r.reserved; flags = r.flags; window = r.window; urgent = r.urgent; payload = r.payload }; word = word_change 20 16 0 v (lit≤ tt) (lit≤ tt) (apart 16 0 (lit< tt)) } in
        subst (λ n. TcpFrame to (with_octets frame n (big_endian 2 v) (tcp_sums start))) (add-zero start) (tcp_step mac_dst mac_src start size ip 0 (big_endian 2 v) frame t to f field)

    pub dport_step : (v : ℕ) → v < 2 ^ 16 → TcpFrame (record t { dport = v }) (changed frame (whole (start + 2) 2 v (tcp_sums start)))
    dport_step v small =
        let r = f.body.in_range in
        let to : TcpView = record t { dport = v } in
        let field : IsTcpField t to area 2 (big_endian 2 v) = record { overlaid = dport_overlaid v; options = refl; as_long = refl; in_range = record { sport = r.sport; dport = small; seq = r.seq; ack = r.ack; reserved = r.reserved; flags = r.flags; window = r.window; urgent = r.urgent; payload = r.payload }; word = word_change 20 16 2 v (lit≤ tt) (lit≤ tt) (apart 16 2 (lit< tt)) } in
        tcp_step mac_dst mac_src start size ip 2 (big_endian 2 v) frame t to f field

    pub window_step : (v : ℕ) → v < 2 ^ 16 → TcpFrame (record t { window = v }) (changed frame (whole (start + 14) 2 v (tcp_sums start)))
    window_step v small =
        let r = f.body.in_range in
        let to : TcpView = record t { window = v } in
        let field : IsTcpField t to area 14 (big_endian 2 v) = record { overlaid = window_overlaid v; options = refl; as_long = refl; in_range = record { sport = r.sport; dport = r.dport; seq = r.seq; ack = r.ack; reserved = r.reserved; flags = r.flags; window = small; urgent = r.urgent; payload = r.payload }; word = word_change 20 16 14 v (lit≤ tt) (lit≤ tt) (apart 16 14 (lit< tt)) } in
        tcp_step mac_dst mac_src start size ip 14 (big_endian 2 v) frame t to f field

    pub urgent_step : (v : ℕ) → v < 2 ^ 16 → TcpFrame (record t { urgent = v }) (changed frame (whole (start + 18) 2 v (tcp_sums start)))
    urgent_step v small =
        let r = f.body.in_range in
        let to : TcpView = record t { urgent = v } in
        let field : IsTcpField t to area 18 (big_endian 2 v) = record { overlaid = urgent_overlaid v; options = refl; as_long = refl; in_range = record { sport = r.sport; dport = r.dport; seq = r.seq; ack = r.ack; reserved = r.reserved; flags = r.flags; window = r.window; urgent = small; payload = r.payload }; word = word_change 20 16 18 v (lit≤ tt) (lit≤ tt) (apart_behind 16 18 (lit< tt)) } in
        tcp_step mac_dst mac_src start size ip 18 (big_endian 2 v) frame t to f field

    seq_high_step : (v : ℕ) → v < 65536 → TcpFrame (record t { seq = v * 65536 + t.seq % 65536 }) (changed frame (whole (start + 4) 2 v (tcp_sums start)))
    seq_high_step v small =
        let r = f.body.in_range in
        let to : TcpView = record t { seq = v * 65536 + t.seq % 65536 } in
        let field : IsTcpField t to area 4 (big_endian 2 v) = record { overlaid = seq_high_overlaid v; options = refl; as_long = refl; in_range = record { sport = r.sport; dport = r.dport; seq = omega (arith, small); ack = r.ack; reserved = r.reserved; flags = r.flags; window = r.window; urgent = r.urgent; payload = r.payload }; word = word_change 20 16 4 v (lit≤ tt) (lit≤ tt) (apart 16 4 (lit< tt)) } in
        tcp_step mac_dst mac_src start size ip 4 (big_endian 2 v) frame t to f field

    seq_low_step : (v : ℕ) → v < 65536 → TcpFrame (record t { seq = t.seq / 65536 * 65536 + v }) (changed frame (whole (start + 6) 2 v (tcp_sums start)))
    seq_low_step v small =
        let r = f.body.in_range in
        let seq = r.seq in
        let to : TcpView = record t { seq = t.seq / 65536 * 65536 + v } in
        let field : IsTcpField t to area 6 (big_endian 2 v) = record { overlaid = seq_low_overlaid v small; options = refl; as_long = refl; in_range = record { sport = r.sport; dport = r.dport; seq = omega (arith, small, seq); ack = r.ack; reserved = r.reserved; flags = r.flags; window = r.window; urgent = r.urgent; payload = r.payload }; word = word_change 20 16 6 v (lit≤ tt) (lit≤ tt) (apart 16 6 (lit< tt)) } in
        tcp_step mac_dst mac_src start size ip 6 (big_endian 2 v) frame t to f field

    ack_high_step : (v : ℕ) → v < 65536 → TcpFrame (record t { ack = v * 65536 + t.ack % 65536 }) (changed frame (whole (start + 8) 2 v (tcp_sums start)))
    ack_high_step v small =
        let r = f.body.in_range in
        let to : TcpView = record t { ack = v * 65536 + t.ack % 65536 } in
        let field : IsTcpField t to area 8 (big_endian 2 v) = record { overlaid = ack_high_overlaid v; options = refl; as_long = refl; in_range = record { sport = r.sport; dport = r.dport; seq = r.seq; ack = omega (arith, small); reserved = r.reserved; flags = r.flags; window = r.window; urgent = r.urgent; payload = r.payload }; word = word_change 20 16 8 v (lit≤ tt) (lit≤ tt) (apart 16 8 (lit< tt)) } in
        tcp_step mac_dst mac_src start size ip 8 (big_endian 2 v) frame t to f field

    ack_low_step : (v : ℕ) → v < 65536 → TcpFrame (record t { ack = t.ack / 65536 * 65536 + v }) (changed frame (whole (start + 10) 2 v (tcp_sums start)))
    ack_low_step v small =
        let r = f.body.in_range in
        let ack = r.ack in
        let to : TcpView = record t { ack = t.ack / 65536 * 65536 + v } in
        let field : IsTcpField t to area 10 (big_endian 2 v) = record { overlaid = ack_low_overlaid v small; options = refl; as_long = refl; in_range = record { sport = r.sport; dport = r.dport; seq = r.seq; ack = omega (arith, small, ack); reserved = r.reserved; flags = r.flags; window = r.window; urgent = r.urgent; payload = r.payload }; word = word_change 20 16 10 v (lit≤ tt) (lit≤ tt) (apart 16 10 (lit< tt)) } in
        tcp_step mac_dst mac_src start size ip 10 (big_endian 2 v) frame t to f field

    -- the word of offset, reserved bits and flags in the frame, and its second octet
    number_is : (k count : ℕ) → k + count ≤ 20 → number_at frame (start + k) count ≡ number_at (tcp_octets t f.body.sum area) k count
    number_is k count inside =
        let p : Ipv4View = record ip { body = TcpBody t } in
        let room : 20 ≤ length f.content = omega (arith, ap length f.body.layout, length-append area t.payload) in
        ap (λ l. number_at l (start + k) count) (front_layout mac_dst mac_src ip.src ip.dst start size p frame f)
        ∙ number-between (front mac_dst mac_src ip.src ip.dst start size p frame f) f.content f.pad start (front_size mac_dst mac_src ip.src ip.dst start size p frame f) k count (omega (arith, room, inside))
        ∙ ap (λ l. number_at l k count) f.body.layout

    word_small : word < 65536
    word_small =
        let r = f.body.in_range in
        let reserved = r.reserved in
        let flags = r.flags in
        omega (arith, short_area, reserved, flags)

    word_at : number_at frame (start + 12) 2 ≡ word
    word_at = number_is 12 2 (lit≤ tt) ∙ number_of-big_endian 2 word word_small

    octet_at : number_at frame (start + 13) 1 ≡ word % 256
    octet_at = number_is 13 1 (lit≤ tt) ∙ omega arith

    abbrev ahead : List ℕ
    ahead = ports ++ big_endian 4 t.seq ++ big_endian 4 t.ack

    abbrev after_word : (sum : ℕ) → List ℕ
    after_word sum = big_endian 2 t.window ++ big_endian 2 sum ++ big_endian 2 t.urgent ++ area ++ t.payload

    abbrev with_reserved : (n v : ℕ) → ℕ
    with_reserved n v = (n / 2 ^ 12 * 2 ^ 6 + v) * 2 ^ 6 + n % 2 ^ 6

    abbrev with_flags : (n v : ℕ) → ℕ
    with_flags n v = (n / 2 ^ 6 * 2 ^ 6 + v) * 2 ^ 0 + n % 2 ^ 0

    reserved_is : (v : ℕ) → v < 64 → with_reserved word v ≡ (20 + length area) / 4 * 4096 + v * 64 + t.flags
    reserved_is v small =
        let r = f.body.in_range in
        let reserved = r.reserved in
        let flags = r.flags in
        omega (arith, short_area, reserved, flags, small)

    reserved_overlaid : (v : ℕ) → v < 64 → (sum : ℕ) → overlay (tcp_octets t sum area) 12 (big_endian 2 (with_reserved word v)) ≡ tcp_octets (record t { reserved = v }) sum area
    unfolding overlay
    reserved_overlaid v small sum = ap (λ n. ahead ++ (big_endian 2 n ++ after_word sum)) (reserved_is v small)

    pub reserved_step : (v : ℕ) → v < 64 → TcpFrame (record t { reserved = v }) (changed frame (part (start + 12) 2 6 6 v (tcp_sums start)))
    reserved_step v small =
        let r = f.body.in_range in
        let to : TcpView = record t { reserved = v } in
        let octets = big_endian 2 (with_reserved word v) in
        let field : IsTcpField t to area 12 octets = record { overlaid = reserved_overlaid v small; options = refl; as_long = refl; in_range = record { sport = r.sport; dport = r.dport; seq = r.seq; ack = r.ack; reserved = small; flags = r.flags; window = r.window; urgent = r.urgent; payload = r.payload }; word = word_change 20 16 12 (with_reserved word v) (lit≤ tt) (lit≤ tt) (apart 16 12 (lit< tt)) } in
        subst (λ n. TcpFrame to (with_octets frame (start + 12) (big_endian 2 (with_reserved n v)) (tcp_sums start))) (sym word_at) (tcp_step mac_dst mac_src start size ip 12 octets frame t to f field)

    record IsFlagged (v : ℕ) : Type 0 where
      high : word / 256 % 256 ≡ ((20 + length area) / 4 * 4096 + t.reserved * 64 + v) / 256 % 256
      low : with_flags (word % 256) v % 256 ≡ ((20 + length area) / 4 * 4096 + t.reserved * 64 + v) % 256

    flagged : (v : ℕ) → v < 64 → IsFlagged v
    flagged v small =
        let r = f.body.in_range in
        let reserved = r.reserved in
        let flags = r.flags in
        record { high = omega (arith, reserved, flags, small); low = omega (arith, reserved, flags, small) }

    flags_overlaid : (v : ℕ) → v < 64 → (sum : ℕ) → overlay (tcp_octets t sum area) 13 (big_endian 1 (with_flags (word % 256) v)) ≡ tcp_octets (record t { flags = v }) sum area
    unfolding overlay
    flags_overlaid v small sum =
        let is = flagged v small in
        let next = (20 + length area) / 4 * 4096 + t.reserved * 64 + v in
        ap (λ n. ahead ++ (n ∷ (with_flags (word % 256) v % 256) ∷ after_word sum)) is.high ∙ ap (λ n. ahead ++ ((next / 256 % 256) ∷ n ∷ after_word sum)) is.low

    pub flags_step : (v : ℕ) → v < 64 → TcpFrame (record t { flags = v }) (changed frame (part (start + 13) 1 0 6 v (tcp_sums start)))
    flags_step v small =
        let r = f.body.in_range in
        let to : TcpView = record t { flags = v } in
        let octets = big_endian 1 (with_flags (word % 256) v) in
        let field : IsTcpField t to area 13 octets = record { overlaid = flags_overlaid v small; options = refl; as_long = refl; in_range = record { sport = r.sport; dport = r.dport; seq = r.seq; ack = r.ack; reserved = r.reserved; flags = small; window = r.window; urgent = r.urgent; payload = r.payload }; word = record { each = IsOctets-big_endian 1 (with_flags (word % 256) v); in_word = lit≤ tt; inside = lit≤ tt; apart = apart 16 12 (lit< tt) } } in
        subst (λ n. TcpFrame to (with_octets frame (start + 13) (big_endian 1 (with_flags n v)) (tcp_sums start))) (sym octet_at) (tcp_step mac_dst mac_src start size ip 13 octets frame t to f field)

  -- both words of a number
  high_is : (v : ℕ) → v < 2 ^ 32 → 256 * (v / 16777216 % 256) + v / 65536 % 256 ≡ v / 65536
  high_is v small = omega (arith, small)

  low_is : (v : ℕ) → 256 * (v / 256 % 256) + v % 256 ≡ v % 65536
  low_is v = omega arith

  -- written with these two words, the number is the whole
  abbrev with_words : List ℕ → (at high low : ℕ) → List ℕ
  with_words frame at high low = with_octets (with_octets frame at (big_endian 2 high) (tcp_sums start)) (at + 2) (big_endian 2 low) (tcp_sums start)

  both_words : (frame : List ℕ) (at v : ℕ) → v < 2 ^ 32 → with_words frame at (v / 65536) (v % 65536) ≡ fold changed frame (words at (big_endian 4 v) (tcp_sums start))
  both_words frame at v small = sym (ap (λ n. with_words frame at n (256 * (v / 256 % 256) + v % 256)) (high_is v small) ∙ ap (with_words frame at (v / 65536)) (low_is v))

  pub seq_step : (t : TcpView) (frame : List ℕ) → TcpFrame t frame → (v : ℕ) → v < 2 ^ 32 → TcpFrame (record t { seq = v }) (fold changed frame (words (start + 4) (big_endian 4 v) (tcp_sums start)))
  seq_step t frame f v small =
      let sums = tcp_sums start in
      let first = with_octets frame (start + 4) (big_endian 2 (v / 65536)) sums in
      let one = seq_high_step t frame f (v / 65536) (omega (arith, small)) in
      let half : TcpView = record t { seq = v / 65536 * 65536 + t.seq % 65536 } in
      let two = seq_low_step half first one (v % 65536) (omega arith) in
      let at : start + 6 ≡ start + 4 + 2 = omega arith in
      let whole_is : (v / 65536 * 65536 + t.seq % 65536) / 65536 * 65536 + v % 65536 ≡ v = omega arith in
      subst (TcpFrame (record t { seq = v })) (both_words frame (start + 4) v small)
      (subst (λ n. TcpFrame (record t { seq = v }) (with_octets first n (big_endian 2 (v % 65536)) sums)) at
      (subst (λ n. TcpFrame (record t { seq = n }) (with_octets first (start + 6) (big_endian 2 (v % 65536)) sums)) whole_is two))

  pub ack_step : (t : TcpView) (frame : List ℕ) → TcpFrame t frame → (v : ℕ) → v < 2 ^ 32 → TcpFrame (record t { ack = v }) (fold changed frame (words (start + 8) (big_endian 4 v) (tcp_sums start)))
  ack_step t frame f v small =
      let sums = tcp_sums start in
      let first = with_octets frame (start + 8) (big_endian 2 (v / 65536)) sums in
      let one = ack_high_step t frame f (v / 65536) (omega (arith, small)) in
      let half : TcpView = record t { ack = v / 65536 * 65536 + t.ack % 65536 } in
      let two = ack_low_step half first one (v % 65536) (omega arith) in
      let at : start + 10 ≡ start + 8 + 2 = omega arith in
      let whole_is : (v / 65536 * 65536 + t.ack % 65536) / 65536 * 65536 + v % 65536 ≡ v = omega arith in
      subst (TcpFrame (record t { ack = v })) (both_words frame (start + 8) v small)
      (subst (λ n. TcpFrame (record t { ack = v }) (with_octets first n (big_endian 2 (v % 65536)) sums)) at
      (subst (λ n. TcpFrame (record t { ack = n }) (with_octets first (start + 10) (big_endian 2 (v % 65536)) sums)) whole_is two))
