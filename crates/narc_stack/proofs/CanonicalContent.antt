-- The octets that are written of the data of a well-formed packet are its data.
use Rattle.std.proofs.Common.{◌≡◌, ℕ, zero, suc, ◌+◌, ◌*◌, ◌-◌, ◌/◌, ◌%◌, ◌^◌, ◌<◌, ◌≤◌, Bool, true, false, List, [], ◌∷◌, ◌++◌, length, take, replicate, nat_eq, if◌then◌else◌, refl, sym, ap, ◌∙◌, subst, append_assoc, append-nil, arith, inr, lit<, length-append}
use Rattle.std.specs.Prelude.{flat_map}
use Rattle.std.specs.List.{AllByRecursion}
use Rattle.std.proofs.lemmas.List.{take_at, length-replicate}
use Rattle.narc_bits.specs.Octets.{IsOctets, big_endian}
use Rattle.narc_bits.specs.InternetSum.{total, IsGoodSum, checksum}
use Rattle.narc_bits.proofs.Octets.{IsOctets-append, IsOctets-big_endian}
use Rattle.narc_bits.proofs.Sums.{total-append}
use Rattle.narc_packet.specs.Ranges.{IsIp, IsUdpInRange, IsTcpInRange}
use Rattle.narc_packet.proofs.TypedOptions.{IsOctets-spellings, IsOctets-ip_option, IsOctets-tcp_option}
use Rattle.narc_packet.specs.Options.{IpOptionView, TcpOptionView, ip_option, tcp_option, IsIpOption, IsTcpOption, IsListEnd, IsArea, filled, tcp_area}
use Rattle.narc_packet.specs.PacketView.{UdpView, TcpView, IpBodyView, UdpBody, TcpBody, RawBody}
use Rattle.narc_packet.specs.Udp.{udp_length, udp_octets, udp_pseudo_header, IsUdp, udp_checksum, canonical_udp}
use Rattle.narc_packet.specs.Tcp.{tcp_octets, tcp_pseudo_header, IsTcp, canonical_tcp}
use Rattle.narc_packet.specs.Ipv4.{protocol_of, IsIpBody, canonical_ip_body}
use Rattle.narc_packet.specs.WellFormed.{FitArea, IsWellFormedIpBody, smallest_length}
use Rattle.narc_stack.proofs.CanonicalSums.{sum_is_good, ones_are_good}

pub zeros_each : (k : ℕ) → IsOctets (replicate k 0)
zeros_each zero = tt
zeros_each (suc k) = (lit< tt, zeros_each k)

-- the shortest area
module _ {O : Type 0} (spelling : O → List ℕ) (IsOption : O → Type 0) (options : List O) (fit : FitArea spelling IsOption options) (each : IsOctets (flat_map spelling options)) where
  zeros_end : (k : ℕ) → IsListEnd (replicate k 0)
  zeros_end zero = tt
  zeros_end (suc k) = refl

  pub filled_is_area : IsArea spelling IsOption options (filled (flat_map spelling options))
  filled_is_area =
      let l = flat_map spelling options in
      let k = (4 - length l % 4) % 4 in
      let size = length-append l (replicate k 0) in
      let bound = fit.bound in
      record {
        rest = replicate k 0;
        layout = refl;
        ended = zeros_end k;
        each = fit.each;
        octets = IsOctets-append l (replicate k 0) each (zeros_each k);
        whole_words = omega (arith, size, length-replicate {A = ℕ} k 0);
        bound = omega (arith, size, length-replicate {A = ℕ} k 0, bound);
      }

pub ip_each : (os : List IpOptionView) → AllByRecursion IsIpOption os → IsOctets (flat_map ip_option os)
ip_each os h = IsOctets-spellings ip_option IsIpOption IsOctets-ip_option os h

tcp_each : (os : List TcpOptionView) → AllByRecursion IsTcpOption os → IsOctets (flat_map tcp_option os)
tcp_each os h = IsOctets-spellings tcp_option IsTcpOption IsOctets-tcp_option os h

-- the pseudo header has an even number of octets, and is not 0
pseudo_even : (src dst l : List ℕ) → IsIp src → IsIp dst → length l % 2 ≡ 0 → length (src ++ dst ++ l) % 2 ≡ 0
pseudo_even src dst l s d even = omega (arith, length-append (src ++ dst) l, length-append src dst, s.0, d.0, even)

pseudo_some : (src dst l : List ℕ) → IsIp src → IsIp dst → 0 < total l → 0 < total (src ++ dst ++ l)
pseudo_some src dst l s d some = omega (arith, total-append (src ++ dst) l (omega (arith, length-append src dst, s.0, d.0)), some)

-- a datagram
module _ (src dst : List ℕ) (s : IsIp src) (d : IsIp dst) (u : UdpView) (range : IsUdpInRange u) (short : udp_length u ≤ 65535) where
  abbrev udp_front : List ℕ
  udp_front = src ++ dst ++ (0 ∷ 17 ∷ (big_endian 2 (udp_length u) ++ (big_endian 2 u.sport ++ big_endian 2 u.dport ++ big_endian 2 (udp_length u))))

  udp_joined : (sum : ℕ) → udp_pseudo_header src dst (udp_length u) ++ udp_octets u sum ≡ udp_front ++ (big_endian 2 sum ++ u.payload)
  udp_joined sum =
      append_assoc (src ++ dst) (0 ∷ 17 ∷ big_endian 2 (udp_length u)) (udp_octets u sum)
      ∙ sym (append_assoc (src ++ dst) (0 ∷ 17 ∷ (big_endian 2 (udp_length u) ++ (big_endian 2 u.sport ++ big_endian 2 u.dport ++ big_endian 2 (udp_length u)))) (big_endian 2 sum ++ u.payload))

  udp_some : 0 < total udp_front
  unfolding total
  udp_some = pseudo_some src dst (0 ∷ 17 ∷ (big_endian 2 (udp_length u) ++ (big_endian 2 u.sport ++ big_endian 2 u.dport ++ big_endian 2 (udp_length u)))) s d (omega arith)

  udp_even : length udp_front % 2 ≡ 0
  udp_even = pseudo_even src dst (0 ∷ 17 ∷ (big_endian 2 (udp_length u) ++ (big_endian 2 u.sport ++ big_endian 2 u.dport ++ big_endian 2 (udp_length u)))) s d refl

  udp_sum : (n : ℕ) (t : Bool) → n ≡ checksum (udp_pseudo_header src dst (udp_length u) ++ udp_octets u 0) → nat_eq n 0 ≡ t → IsGoodSum (udp_pseudo_header src dst (udp_length u) ++ udp_octets u (if t then 65535 else n))
  udp_sum n true is e = subst IsGoodSum (sym (udp_joined 65535)) (ones_are_good udp_front u.payload udp_even udp_some (ap (λ l. nat_eq (checksum l) 0) (sym (udp_joined 0)) ∙ ap (λ k. nat_eq k 0) (sym is) ∙ e))
  udp_sum n false is e =
      let same : n ≡ checksum (udp_front ++ (big_endian 2 0 ++ u.payload)) = is ∙ ap checksum (udp_joined 0) in
      subst IsGoodSum (ap (λ k. udp_front ++ (big_endian 2 k ++ u.payload)) (sym same) ∙ sym (udp_joined n)) (sum_is_good udp_front u.payload udp_even udp_some)

  sum_small : (n : ℕ) (t : Bool) → n < 2 ^ 16 → (if t then 65535 else n) < 2 ^ 16
  sum_small n true h = lit< tt
  sum_small n false h = h

  udp_size : (sum : ℕ) → length (udp_octets u sum) ≡ udp_length u
  udp_size sum = omega arith

  pub canonical_is_udp : IsUdp src dst u (canonical_udp src dst u)
  canonical_is_udp =
      let n = checksum (udp_pseudo_header src dst (udp_length u) ++ udp_octets u 0) in
      let sum = udp_checksum src dst u in
      let all : take (udp_length u) (udp_octets u sum) ≡ udp_octets u sum = ap (take (udp_length u)) (sym (append-nil (udp_octets u sum))) ∙ take_at (udp_octets u sum) [] (udp_length u) (udp_size sum) in
      record {
        sum = sum;
        surplus = [];
        layout = sym (append-nil (udp_octets u sum));
        fits = short;
        checked = inr (subst IsGoodSum (ap (λ l. udp_pseudo_header src dst (udp_length u) ++ l) (sym all)) (udp_sum n (nat_eq n 0) refl refl));
        in_range = range;
        sum_range = sum_small n (nat_eq n 0) (omega arith);
        octets = IsOctets-append (big_endian 2 u.sport ++ big_endian 2 u.dport ++ big_endian 2 (udp_length u) ++ big_endian 2 sum) u.payload (IsOctets-append (big_endian 2 u.sport ++ big_endian 2 u.dport ++ big_endian 2 (udp_length u)) (big_endian 2 sum) (IsOctets-append (big_endian 2 u.sport ++ big_endian 2 u.dport) (big_endian 2 (udp_length u)) (IsOctets-append (big_endian 2 u.sport) (big_endian 2 u.dport) (IsOctets-big_endian 2 u.sport) (IsOctets-big_endian 2 u.dport)) (IsOctets-big_endian 2 (udp_length u))) (IsOctets-big_endian 2 sum)) range.payload;
      }

-- a segment
module _ (src dst : List ℕ) (s : IsIp src) (d : IsIp dst) (t : TcpView) (range : IsTcpInRange t) (fit : FitArea tcp_option IsTcpOption t.options) (short : 20 + length (tcp_area t.options) + length t.payload ≤ 65535) where
  abbrev area : List ℕ
  area = tcp_area t.options

  abbrev word : ℕ
  word = (20 + length area) / 4 * 4096 + t.reserved * 64 + t.flags

  abbrev n : ℕ
  n = 20 + length area + length t.payload

  abbrev sixteen : List ℕ
  sixteen = big_endian 2 t.sport ++ big_endian 2 t.dport ++ big_endian 4 t.seq ++ big_endian 4 t.ack ++ big_endian 2 word ++ big_endian 2 t.window

  abbrev behind : List ℕ
  behind = big_endian 2 t.urgent ++ (area ++ t.payload)

  abbrev tcp_front : List ℕ
  tcp_front = src ++ dst ++ (0 ∷ 6 ∷ (big_endian 2 n ++ sixteen))

  tcp_size : (sum : ℕ) → length (tcp_octets t sum area) ≡ n
  tcp_size sum = omega (arith, length-append area t.payload)

  tcp_joined : (sum : ℕ) → tcp_pseudo_header src dst n ++ tcp_octets t sum area ≡ tcp_front ++ (big_endian 2 sum ++ behind)
  tcp_joined sum = append_assoc (src ++ dst) (0 ∷ 6 ∷ big_endian 2 n) (tcp_octets t sum area) ∙ sym (append_assoc (src ++ dst) (0 ∷ 6 ∷ (big_endian 2 n ++ sixteen)) (big_endian 2 sum ++ behind))

  tcp_some : 0 < total tcp_front
  unfolding total
  tcp_some = pseudo_some src dst (0 ∷ 6 ∷ (big_endian 2 n ++ sixteen)) s d (omega arith)

  tcp_even : length tcp_front % 2 ≡ 0
  tcp_even = pseudo_even src dst (0 ∷ 6 ∷ (big_endian 2 n ++ sixteen)) s d refl

  abbrev tcp_sum : ℕ
  tcp_sum = checksum (tcp_pseudo_header src dst (length (tcp_octets t 0 area)) ++ tcp_octets t 0 area)

  sum_is : tcp_sum ≡ checksum (tcp_front ++ (big_endian 2 0 ++ behind))
  sum_is = ap (λ k. checksum (tcp_pseudo_header src dst k ++ tcp_octets t 0 area)) (tcp_size 0) ∙ ap checksum (tcp_joined 0)

  two : (a b : ℕ) → IsOctets (big_endian 2 a ++ big_endian 2 b)
  two a b = IsOctets-append (big_endian 2 a) (big_endian 2 b) (IsOctets-big_endian 2 a) (IsOctets-big_endian 2 b)

  fields_each : IsOctets (sixteen ++ big_endian 2 tcp_sum ++ big_endian 2 t.urgent)
  fields_each =
      let places = IsOctets-append (big_endian 4 t.seq) (big_endian 4 t.ack) (IsOctets-big_endian 4 t.seq) (IsOctets-big_endian 4 t.ack) in
      let words = IsOctets-append (big_endian 2 word ++ big_endian 2 t.window) (big_endian 2 tcp_sum ++ big_endian 2 t.urgent) (two word t.window) (two tcp_sum t.urgent) in
      IsOctets-append (big_endian 2 t.sport ++ big_endian 2 t.dport) (big_endian 4 t.seq ++ big_endian 4 t.ack ++ (big_endian 2 word ++ big_endian 2 t.window ++ (big_endian 2 tcp_sum ++ big_endian 2 t.urgent))) (two t.sport t.dport)
      (IsOctets-append (big_endian 4 t.seq ++ big_endian 4 t.ack) (big_endian 2 word ++ big_endian 2 t.window ++ (big_endian 2 tcp_sum ++ big_endian 2 t.urgent)) places words)

  pub canonical_is_tcp : IsTcp src dst t (canonical_tcp src dst t)
  canonical_is_tcp =
      let a = filled_is_area tcp_option IsTcpOption t.options fit (tcp_each t.options fit.each) in
      record {
        sum = tcp_sum;
        area = area;
        options = a;
        layout = refl;
        fits = omega (arith, tcp_size tcp_sum, short);
        checked = subst IsGoodSum (ap (λ k. tcp_front ++ (big_endian 2 k ++ behind)) (sym sum_is) ∙ sym (tcp_joined tcp_sum) ∙ ap (λ k. tcp_pseudo_header src dst k ++ tcp_octets t tcp_sum area) (sym (tcp_size tcp_sum))) (sum_is_good tcp_front behind tcp_even tcp_some);
        in_range = range;
        sum_range = omega arith;
        octets = IsOctets-append (sixteen ++ big_endian 2 tcp_sum ++ big_endian 2 t.urgent ++ area) t.payload (IsOctets-append (sixteen ++ big_endian 2 tcp_sum ++ big_endian 2 t.urgent) area fields_each a.octets) range.payload;
      }

-- the data of a packet
pub canonical_body : (src dst : List ℕ) → IsIp src → IsIp dst → (b : IpBodyView) → IsWellFormedIpBody b → smallest_length b ≤ 65535 → IsIpBody src dst b (canonical_ip_body src dst b)
canonical_body src dst s d (UdpBody u) w short = canonical_is_udp src dst s d u w short
canonical_body src dst s d (TcpBody t) w short = canonical_is_tcp src dst s d t w.0 w.1 short
canonical_body src dst s d (RawBody protocol payload) w short = (w.0, refl, w.1)

pub canonical_length : (src dst : List ℕ) (b : IpBodyView) → length (canonical_ip_body src dst b) ≡ smallest_length b
canonical_length src dst (UdpBody u) = omega arith
canonical_length src dst (TcpBody t) = omega (arith, length-append (tcp_area t.options) t.payload)
canonical_length src dst (RawBody protocol payload) = refl

pub body_each : (src dst : List ℕ) (b : IpBodyView) (x : List ℕ) → IsIpBody src dst b x → IsOctets x
body_each src dst (UdpBody u) x h = h.octets
body_each src dst (TcpBody t) x h = h.octets
body_each src dst (RawBody protocol payload) x h = h.2

pub known_protocol : (b : IpBodyView) → IsWellFormedIpBody b → protocol_of b < 256
known_protocol (UdpBody u) w = lit< tt
known_protocol (TcpBody t) w = lit< tt
known_protocol (RawBody protocol payload) w = w.0
