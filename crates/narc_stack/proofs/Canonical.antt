-- The octets that are written of a well-formed packet are a frame of it.
use Rattle.std.proofs.Common.{◌≡◌, ℕ, ◌+◌, ◌-◌, ◌/◌, ◌<◌, ◌≤◌, List, [], ◌∷◌, ◌++◌, length, replicate, refl, sym, subst, arith, length-append}
use Rattle.std.proofs.lemmas.List.{take_at}
use Rattle.narc_bits.specs.Octets.{IsOctets, big_endian}
use Rattle.narc_bits.specs.InternetSum.{total, IsGoodSum, checksum}
use Rattle.narc_bits.proofs.Octets.{IsOctets-append, IsOctets-big_endian}
use Rattle.narc_packet.specs.Options.{ip_option, IsIpOption, IsArea, ip_area}
use Rattle.narc_packet.specs.PacketView.{Ipv4View, EthBodyView, ArpBody, Ipv4Body, OtherBody, PacketView}
use Rattle.narc_packet.specs.Ipv4.{protocol_of, fragment_word, IsIpv4, ipv4_header, canonical_ip_body, canonical_ipv4}
use Rattle.narc_packet.specs.Canonical.{padded, canonical_eth_body, canonical_frame}
use Rattle.narc_packet.specs.Frame.{IsEthBody, IsFrame, arp_octets, ether_type_of}
use Rattle.narc_packet.specs.WellFormed.{IsWellFormedIpv4, smallest_length}
use Rattle.narc_eth.proofs.ArpLayout.{arp_layout}
use Rattle.narc_stack.specs.Admitted.{IsAdmittedBody, IsAdmitted}
use Rattle.narc_stack.proofs.CanonicalSums.{sum_is_good}
use Rattle.narc_stack.proofs.CanonicalContent.{zeros_each, filled_is_area, ip_each, canonical_body, canonical_length, body_each, known_protocol}

module _ (p : Ipv4View) (w : IsWellFormedIpv4 p) where
  abbrev ip_options : List ℕ
  ip_options = ip_area p.options

  abbrev its_data : List ℕ
  its_data = canonical_ip_body p.src p.dst p.body

  abbrev header : (sum : ℕ) → List ℕ
  header sum = ipv4_header p sum (length ip_options) (length its_data) ++ ip_options

  abbrev size : ℕ
  size = 20 + length ip_options

  abbrev ten : List ℕ
  ten = ((64 + size / 4) ∷ p.tos ∷ []) ++ big_endian 2 (size + length its_data) ++ big_endian 2 p.id ++ big_endian 2 (fragment_word p) ++ (p.ttl ∷ protocol_of p.body ∷ [])

  ten_some : 0 < total ten
  unfolding total
  ten_some = omega arith

  header_good : IsGoodSum (header (checksum (header 0)))
  header_good = sum_is_good ten (p.src ++ p.dst ++ ip_options) refl ten_some

  its_area : IsArea ip_option IsIpOption p.options ip_options
  its_area = filled_is_area ip_option IsIpOption p.options w.options (ip_each p.options w.options.each)

  header_length : (sum : ℕ) → length (header sum) ≡ size
  header_length sum =
      let r = w.in_range in
      let src = r.src.0 in
      let dst = r.dst.0 in
      omega (arith, length-append (ipv4_header p sum (length ip_options) (length its_data)) ip_options, length-append p.src p.dst, src, dst)

  header_each : (sum : ℕ) → IsOctets (header sum)
  header_each sum =
      let r = w.in_range in
      let bound = its_area.bound in
      let first : 64 + size / 4 < 256 = omega (arith, bound) in
      let numbers = IsOctets-append (big_endian 2 (size + length its_data)) (big_endian 2 p.id ++ big_endian 2 (fragment_word p)) (IsOctets-big_endian 2 (size + length its_data)) (IsOctets-append (big_endian 2 p.id) (big_endian 2 (fragment_word p)) (IsOctets-big_endian 2 p.id) (IsOctets-big_endian 2 (fragment_word p))) in
      let ends = IsOctets-append (p.src ++ p.dst) ip_options (IsOctets-append p.src p.dst r.src.1 r.dst.1) its_area.octets in
      let rest = IsOctets-append (big_endian 2 sum) (p.src ++ p.dst ++ ip_options) (IsOctets-big_endian 2 sum) ends in
      (first, (r.tos, IsOctets-append (big_endian 2 (size + length its_data) ++ (big_endian 2 p.id ++ big_endian 2 (fragment_word p))) (p.ttl ∷ protocol_of p.body ∷ (big_endian 2 sum ++ (p.src ++ p.dst ++ ip_options))) numbers (r.ttl, (known_protocol p.body w.body, rest))))

  pub canonical_is_ipv4 : IsIpv4 p (canonical_ipv4 p)
  canonical_is_ipv4 =
      let sum = checksum (header 0) in
      let r = w.in_range in
      let short = w.fits in
      let small : smallest_length p.body ≤ 65535 = omega (arith, short) in
      record {
        sum = sum;
        area = ip_options;
        content = its_data;
        layout = refl;
        options = its_area;
        fits = omega (arith, short, canonical_length p.src p.dst p.body);
        checked = subst IsGoodSum (sym (take_at (header sum) its_data size (header_length sum))) header_good;
        may_have_body = w.may_have_body;
        body = canonical_body p.src p.dst r.src r.dst p.body w.body small;
        in_range = r;
        sum_range = omega arith;
      }

  pub canonical_size : length (canonical_ipv4 p) ≡ 20 + length ip_options + smallest_length p.body
  canonical_size =
      let sum = checksum (header 0) in
      omega (arith, length-append (header sum) its_data, header_length sum, canonical_length p.src p.dst p.body)

  pub canonical_few : length (canonical_ipv4 p) ≤ 65535
  canonical_few =
      let short = w.fits in
      omega (arith, canonical_size, short)

  pub canonical_each : IsOctets (canonical_ipv4 p)
  canonical_each =
      let r = w.in_range in
      let short = w.fits in
      IsOctets-append (header (checksum (header 0))) its_data (header_each (checksum (header 0))) (body_each p.src p.dst p.body its_data (canonical_body p.src p.dst r.src r.dst p.body w.body (omega (arith, short))))

-- a frame
padded_each : (l : List ℕ) → IsOctets l → IsOctets (padded l)
padded_each l each = IsOctets-append l (replicate (46 - length l) 0) each (zeros_each (46 - length l))

eth_body_each : (b : EthBodyView) → IsAdmittedBody b → IsOctets (canonical_eth_body b)
eth_body_each (ArpBody a) h = padded_each (arp_octets a) (arp_layout.shape.each a h)
eth_body_each (Ipv4Body p) h = padded_each (canonical_ipv4 p) (canonical_each p h)
eth_body_each (OtherBody t payload) h = h.3

canonical_is_eth_body : (b : EthBodyView) → IsAdmittedBody b → IsEthBody b (canonical_eth_body b)
canonical_is_eth_body (ArpBody a) h = (h, replicate (46 - length (arp_octets a)) 0, refl)
canonical_is_eth_body (Ipv4Body p) h = (canonical_ipv4 p, replicate (46 - length (canonical_ipv4 p)) 0, canonical_is_ipv4 p h, refl)
canonical_is_eth_body (OtherBody t payload) h = (h.0, h.1, h.2, refl)

-- the canonical octets of a packet are a frame of it
pub canonical_is_frame : (p : PacketView) → IsAdmitted p → IsFrame p (canonical_frame p)
canonical_is_frame p h =
    let ether_type = big_endian 2 (ether_type_of p.body) in
    let front = IsOctets-append (p.dst ++ p.src) ether_type (IsOctets-append p.dst p.src h.dst.1 h.src.1) (IsOctets-big_endian 2 (ether_type_of p.body)) in
    record {
      content = canonical_eth_body p.body;
      layout = refl;
      body = canonical_is_eth_body p.body h.body;
      dst = h.dst;
      src = h.src;
      octets = IsOctets-append (p.dst ++ p.src ++ ether_type) (canonical_eth_body p.body) front (eth_body_each p.body h.body);
    }
