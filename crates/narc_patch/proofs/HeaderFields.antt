-- A frame of an IPv4 packet with one field of its header assigned.
use Rattle.std.proofs.Common.{◌≡◌, ℕ, ◌+◌, ◌*◌, ◌/◌, ◌%◌, ◌<◌, ◌≢◌, ◌^◌, Bool, true, false, List, [], ◌∷◌, ◌++◌, length, refl, sym, ap, ◌∙◌, subst, arith, lit<, lit≤}
use Rattle.std.proofs.Math.Nat.{mod-eq_of_lt}
use Rattle.narc_bits.specs.Bits.{overlay}
use Rattle.narc_bits.specs.Octets.{big_endian, number_at}
use Rattle.narc_bits.proofs.Octets.{IsOctets-big_endian}
use Rattle.narc_bits.proofs.NumbersAt.{number-between}
use Rattle.narc_packet.specs.PacketView.{Ipv4View}
use Rattle.narc_packet.specs.Ipv4.{IsIpv4InRange, ipv4_header, fragment_word, protocol_of}
use Rattle.narc_packet.proofs.Ipv4Fields.{header_size, fragment_bits}
use Rattle.narc_patch.specs.Change.{changed, with_octets}
use Rattle.narc_patch.specs.Patched.{whole, part, flag_number, header_sum}
use Rattle.narc_patch.proofs.HeaderChanges.{IsHeaderChange}
use Rattle.narc_patch.proofs.HeaderSteps.{IsIpv4Frame, header_step, ethernet, ethernet_size}

-- the octet of the flags, with `don't fragment` as it is assigned
abbrev flag_octet : (old : ℕ) → (df : Bool) → ℕ
flag_octet old df = (old / 2 ^ 7 * 2 ^ 1 + flag_number df) * 2 ^ 6 + old % 2 ^ 6

record IsFlagged (df new mf : Bool) (offset : ℕ) : Type 0 where
  high : flag_octet (fragment_bits df mf offset / 256 % 256) new % 256 ≡ fragment_bits new mf offset / 256 % 256
  low : fragment_bits df mf offset % 256 ≡ fragment_bits new mf offset % 256

flagged : (df new mf : Bool) (offset : ℕ) → offset < 8192 → IsFlagged df new mf offset
flagged true true true offset h = record { high = omega (arith, h); low = omega (arith, h) }
flagged true true false offset h = record { high = omega (arith, h); low = omega (arith, h) }
flagged true false true offset h = record { high = omega (arith, h); low = omega (arith, h) }
flagged true false false offset h = record { high = omega (arith, h); low = omega (arith, h) }
flagged false true true offset h = record { high = omega (arith, h); low = omega (arith, h) }
flagged false true false offset h = record { high = omega (arith, h); low = omega (arith, h) }
flagged false false true offset h = record { high = omega (arith, h); low = omega (arith, h) }
flagged false false false offset h = record { high = omega (arith, h); low = omega (arith, h) }

module _ (mac_dst mac_src src dst : List ℕ) (start size : ℕ) (p : Ipv4View) (frame : List ℕ) (f : IsIpv4Frame mac_dst mac_src src dst start size p frame) where
  abbrev Frame : Ipv4View → List ℕ → Type 0
  Frame q l = IsIpv4Frame mac_dst mac_src src dst start size q l

  tos_overlaid : (v sum la lc : ℕ) → overlay (ipv4_header p sum la lc) 1 (big_endian 1 v) ≡ ipv4_header (record p { tos = v % 256 }) sum la lc
  unfolding overlay
  tos_overlaid v sum la lc = refl

  id_overlaid : (v sum la lc : ℕ) → overlay (ipv4_header p sum la lc) 4 (big_endian 2 v) ≡ ipv4_header (record p { id = v }) sum la lc
  unfolding overlay
  id_overlaid v sum la lc = refl

  ttl_overlaid : (v sum la lc : ℕ) → overlay (ipv4_header p sum la lc) 8 (big_endian 1 v) ≡ ipv4_header (record p { ttl = v % 256 }) sum la lc
  unfolding overlay
  ttl_overlaid v sum la lc = refl

  apart : (n : ℕ) → n < 10 → 10 ≢ n
  apart n h e = absurd (omega (arith, h, e))

  apart_behind : (n : ℕ) → 10 < n → 10 ≢ n
  apart_behind n h e = absurd (omega (arith, h, e))

  pub tos_step : (v : ℕ) → v < 256 → Frame (record p { tos = v }) (changed frame (whole 15 1 v (header_sum ∷ [])))
  tos_step v small =
      let q : Ipv4View = record p { tos = v % 256 } in
      let same : v % 256 ≡ v = mod-eq_of_lt small in
      let range = f.in_range in
      let in_range : IsIpv4InRange q = record { tos = omega arith; id = range.id; offset = range.offset; ttl = range.ttl; src = range.src; dst = range.dst } in
      let change : IsHeaderChange p q 1 (big_endian 1 v) = record { overlaid = tos_overlaid v; word = record { each = IsOctets-big_endian 1 v; in_word = lit≤ tt; inside = lit≤ tt; apart = apart 0 (lit< tt) } } in
      subst (λ n. Frame (record p { tos = n }) (changed frame (whole 15 1 v (header_sum ∷ [])))) same
      (header_step mac_dst mac_src src dst start size p q 1 (big_endian 1 v) frame (record { change = change; options = refl; body = refl; fragment = refl; in_range = in_range }) f)

  pub id_step : (v : ℕ) → v < 2 ^ 16 → Frame (record p { id = v }) (changed frame (whole 18 2 v (header_sum ∷ [])))
  id_step v small =
      let q : Ipv4View = record p { id = v } in
      let range = f.in_range in
      let in_range : IsIpv4InRange q = record { tos = range.tos; id = small; offset = range.offset; ttl = range.ttl; src = range.src; dst = range.dst } in
      let change : IsHeaderChange p q 4 (big_endian 2 v) = record { overlaid = id_overlaid v; word = record { each = IsOctets-big_endian 2 v; in_word = lit≤ tt; inside = lit≤ tt; apart = apart 4 (lit< tt) } } in
      header_step mac_dst mac_src src dst start size p q 4 (big_endian 2 v) frame (record { change = change; options = refl; body = refl; fragment = refl; in_range = in_range }) f

  pub ttl_step : (v : ℕ) → v < 256 → Frame (record p { ttl = v }) (changed frame (whole 22 1 v (header_sum ∷ [])))
  ttl_step v small =
      let q : Ipv4View = record p { ttl = v % 256 } in
      let same : v % 256 ≡ v = mod-eq_of_lt small in
      let range = f.in_range in
      let in_range : IsIpv4InRange q = record { tos = range.tos; id = range.id; offset = range.offset; ttl = omega arith; src = range.src; dst = range.dst } in
      let change : IsHeaderChange p q 8 (big_endian 1 v) = record { overlaid = ttl_overlaid v; word = record { each = IsOctets-big_endian 1 v; in_word = lit≤ tt; inside = lit≤ tt; apart = apart 8 (lit< tt) } } in
      subst (λ n. Frame (record p { ttl = n }) (changed frame (whole 22 1 v (header_sum ∷ [])))) same
      (header_step mac_dst mac_src src dst start size p q 8 (big_endian 1 v) frame (record { change = change; options = refl; body = refl; fragment = refl; in_range = in_range }) f)

  -- the two octets of flags and offset, between what is before and behind them
  abbrev with_fragment : (sum la lc high low : ℕ) → List ℕ
  with_fragment sum la lc high low =
      let h = 20 + la in
      ((64 + h / 4) ∷ p.tos ∷ []) ++ big_endian 2 (h + lc) ++ big_endian 2 p.id ++ (high ∷ low ∷ []) ++ (p.ttl ∷ protocol_of p.body ∷ []) ++ big_endian 2 sum ++ p.src ++ p.dst

  abbrev old_octet : ℕ
  old_octet = fragment_word p / 256 % 256

  df_overlaid : (v : Bool) (sum la lc : ℕ) → overlay (ipv4_header p sum la lc) 6 (big_endian 1 (flag_octet old_octet v)) ≡ ipv4_header (record p { df = v }) sum la lc
  unfolding overlay
  df_overlaid v sum la lc =
      let is = flagged p.df v p.mf p.offset f.in_range.offset in
      ap (λ n. with_fragment sum la lc n (fragment_word p % 256)) is.high ∙ ap (λ n. with_fragment sum la lc (fragment_bits v p.mf p.offset / 256 % 256) n) is.low

  octet_is : number_at frame 20 1 ≡ old_octet
  octet_is =
      let old = ipv4_header p f.sum (length f.area) (length f.content) in
      ap (λ l. number_at l 20 1) f.layout
      ∙ number-between (ethernet mac_dst mac_src) old (f.area ++ (f.content ++ f.pad)) 14 (ethernet_size mac_dst mac_src f.mac_dst_is f.mac_src_is) 6 1 (omega (arith, header_size p f.in_range.src f.in_range.dst (length f.area) (length f.content) f.sum))
      ∙ omega arith

  pub df_step : (v : Bool) → Frame (record p { df = v }) (changed frame (part 20 1 6 1 (flag_number v) (header_sum ∷ [])))
  df_step v =
      let q : Ipv4View = record p { df = v } in
      let octets = big_endian 1 (flag_octet old_octet v) in
      let range = f.in_range in
      let in_range : IsIpv4InRange q = record { tos = range.tos; id = range.id; offset = range.offset; ttl = range.ttl; src = range.src; dst = range.dst } in
      let change : IsHeaderChange p q 6 octets = record { overlaid = df_overlaid v; word = record { each = IsOctets-big_endian 1 (flag_octet old_octet v); in_word = lit≤ tt; inside = lit≤ tt; apart = apart 6 (lit< tt) } } in
      subst (λ n. Frame q (with_octets frame 20 (big_endian 1 (flag_octet n v)) (header_sum ∷ []))) (sym octet_is)
      (header_step mac_dst mac_src src dst start size p q 6 octets frame (record { change = change; options = refl; body = refl; fragment = refl; in_range = in_range }) f)
