-- Worked frames, by evaluation: which packet they are a frame of, and which frame is written for it.
use Rattle.std.specs.Prelude.{◌≡◌, ℕ, ◌+◌, ◌≤◌, ◌<◌, ◌^◌, Bool, true, false, List, [], ◌∷◌, ◌++◌, codes, length, take, drop, replicate, refl}
use Rattle.std.proofs.Common.{lit<, lit≤, inl, inr, arith}
use Rattle.narc_bits.specs.Octets.{IsOctets}
use Rattle.narc_bits.specs.InternetSum.{total, folded, IsGoodSum}
use Rattle.narc_packet.specs.Options.{IpOptionView, IpNop, IpOther, TcpOptionView, TcpNop, TcpMss, TcpScale, TcpSackOk, TcpTimes, IsIpArea}
use Rattle.narc_packet.specs.PacketView.{PacketView, EthBodyView, ArpBody, Ipv4Body, OtherBody, Ipv4View, IpBodyView, UdpBody, TcpBody, RawBody, UdpView, TcpView}
use Rattle.narc_packet.specs.Udp.{IsUdp}
use Rattle.narc_packet.specs.Ipv4.{ipv4_header, is_fragment, MayHaveBody, IsIpBody}
use Rattle.narc_packet.specs.Frame.{IsFrame}
use Rattle.narc_packet.specs.Canonical.{canonical_frame}
use Rattle.narc_packet.specs.WellFormed.{IsWellFormed}
use Rattle.narc_packet.proofs.WorkedOctets.{from_hex, octets_by_test, other_frame, arp_frame, padded_frame, udp_frame, ones_sum_frame, ones_udp_frame, absent_udp_frame, spare_area_frame, option_frame, no_operation_frame, fragment_frame, tcp_frame, request_frame, odd_frame, surplus_frame}

abbrev destination : List ℕ
destination = from_hex (codes "0200000000aa")

abbrev source : List ℕ
source = from_hex (codes "0200000000bb")

abbrev packet : EthBodyView → PacketView
packet body = record { dst = destination; src = source; body = body }

abbrev sender : List ℕ
sender = from_hex (codes "0a000001")

abbrev target : List ℕ
target = from_hex (codes "0a000002")

abbrev ipv4 : (id : ℕ) (df mf : Bool) → List IpOptionView → IpBodyView → Ipv4View
ipv4 id df mf options body = record { tos = 0; id = id; df = df; mf = mf; offset = 0; ttl = 64; src = sender; dst = target; options = options; body = body }

abbrev other_packet : PacketView
other_packet = packet (OtherBody 34997 (0 ∷ []))

abbrev arp_packet : PacketView
arp_packet = packet (ArpBody (record { op = 1; sender_mac = source; sender_ip = sender; target_mac = replicate 6 0; target_ip = target }))

abbrev datagram : (sport : ℕ) (payload : List ℕ) → UdpView
datagram sport payload = record { sport = sport; dport = 2; payload = payload }

abbrev request : List TcpOptionView → TcpView
request options = record { sport = 1025; dport = 80; seq = 1; ack = 0; reserved = 0; flags = 2; window = 8192; urgent = 0; options = options; payload = [] }

abbrev request_options : List TcpOptionView
request_options = TcpMss 1460 ∷ TcpSackOk ∷ TcpTimes 1 0 ∷ TcpNop ∷ TcpScale 7 ∷ []

IsFrame-other : IsFrame other_packet other_frame
IsFrame-other = record {
  content = 0 ∷ [];
  layout = refl;
  body = (lit< tt, (λ e. omega arith), (λ e. omega arith), refl);
  dst = (refl, octets_by_test destination refl);
  src = (refl, octets_by_test source refl);
  octets = octets_by_test other_frame refl;
}

-- any padding is free
IsFrame-arp : IsFrame arp_packet padded_frame
IsFrame-arp = record {
  content = drop 14 padded_frame;
  layout = refl;
  body = (
    record {
      op = lit< tt;
      sender_mac = (refl, octets_by_test source refl);
      sender_ip = (refl, octets_by_test sender refl);
      target_mac = (refl, octets_by_test (replicate 6 0) refl);
      target_ip = (refl, octets_by_test target refl);
    },
    replicate 18 170,
    refl,
  );
  dst = (refl, octets_by_test destination refl);
  src = (refl, octets_by_test source refl);
  octets = octets_by_test padded_frame refl;
}

-- an IPv4 packet, by its checksum, options area, data and padding
worked : (id : ℕ) (df mf : Bool) (options : List IpOptionView) (body : IpBodyView) (sum : ℕ) (area content pad frame : List ℕ)
    → let p = ipv4 id df mf options body in
    let x = ipv4_header p sum (length area) (length content) ++ area ++ content in
    frame ≡ destination ++ source ++ (8 ∷ 0 ∷ []) ++ (x ++ pad) → IsOctets frame → IsIpArea options area → id < 2 ^ 16
    → 20 + length area + length content ≤ 65535 → IsGoodSum (take (20 + length area) x)
    → MayHaveBody (is_fragment mf 0) body → IsIpBody sender target body content → sum < 2 ^ 16 → IsFrame (packet (Ipv4Body p)) frame
worked id df mf options body sum area content pad frame layout octets has_area id_range fits good may is_body sum_range = record {
  content = (ipv4_header (ipv4 id df mf options body) sum (length area) (length content) ++ area ++ content) ++ pad;
  layout = layout;
  body = (
    ipv4_header (ipv4 id df mf options body) sum (length area) (length content) ++ area ++ content,
    pad,
    record {
      sum = sum;
      area = area;
      content = content;
      layout = refl;
      options = has_area;
      fits = fits;
      checked = good;
      may_have_body = may;
      body = is_body;
      in_range = record {
        tos = lit< tt;
        id = id_range;
        offset = lit< tt;
        ttl = lit< tt;
        src = (refl, octets_by_test sender refl);
        dst = (refl, octets_by_test target refl);
      };
      sum_range = sum_range;
    },
    refl,
  );
  dst = (refl, octets_by_test destination refl);
  src = (refl, octets_by_test source refl);
  octets = octets;
}

no_area : IsIpArea [] []
no_area = record { rest = []; layout = refl; ended = tt; each = tt; octets = tt; whole_words = refl; bound = lit≤ tt }

-- the datagram from port 1, and any surplus
is_datagram : (surplus : List ℕ) → IsOctets (from_hex (codes "000100020008ebd8") ++ surplus) → IsUdp sender target (datagram 1 []) (from_hex (codes "000100020008ebd8") ++ surplus)
unfolding total
is_datagram surplus octets = record {
  sum = 0xebd8;
  surplus = surplus;
  layout = refl;
  fits = lit≤ tt;
  checked = inr refl;
  in_range = record { sport = lit< tt; dport = lit< tt; payload = tt };
  sum_range = lit< tt;
  octets = octets;
}

abbrev udp_content : List ℕ
udp_content = from_hex (codes "000100020008ebd8")

IsFrame-udp : IsFrame (packet (Ipv4Body (ipv4 0 false false [] (UdpBody (datagram 1 []))))) udp_frame
unfolding total
IsFrame-udp = worked 0 false false [] (UdpBody (datagram 1 [])) 0x66cf [] udp_content [] udp_frame refl (octets_by_test udp_frame refl) no_area (lit< tt) (lit≤ tt) refl refl
    (is_datagram [] (octets_by_test udp_content refl)) (lit< tt)

-- a header checksum of all ones stands as well as one of 0
IsFrame-ones_sum : IsFrame (packet (Ipv4Body (ipv4 26319 false false [] (UdpBody (datagram 1 []))))) ones_sum_frame
unfolding total
IsFrame-ones_sum = worked 26319 false false [] (UdpBody (datagram 1 [])) 65535 [] udp_content [] ones_sum_frame refl (octets_by_test ones_sum_frame refl) no_area (lit< tt) (lit≤ tt) refl refl
    (is_datagram [] (octets_by_test udp_content refl)) (lit< tt)

-- an absent UDP checksum
IsFrame-absent_udp : IsFrame (packet (Ipv4Body (ipv4 0 false false [] (UdpBody (datagram 60377 []))))) absent_udp_frame
unfolding total
IsFrame-absent_udp = worked 0 false false [] (UdpBody (datagram 60377 [])) 0x66cf [] (from_hex (codes "ebd9000200080000")) [] absent_udp_frame refl (octets_by_test absent_udp_frame refl) no_area (lit< tt) (lit≤ tt) refl refl
    (record {
      sum = 0;
      surplus = [];
      layout = refl;
      fits = lit≤ tt;
      checked = inl refl;
      in_range = record { sport = lit< tt; dport = lit< tt; payload = tt };
      sum_range = lit< tt;
      octets = octets_by_test (from_hex (codes "ebd9000200080000")) refl;
    })
    (lit< tt)

-- any octets behind an end of the options
IsFrame-spare_area : IsFrame (packet (Ipv4Body (ipv4 0 false false [] (UdpBody (datagram 1 []))))) spare_area_frame
unfolding total
IsFrame-spare_area = worked 0 false false [] (UdpBody (datagram 1 [])) 0xb152 (0 ∷ replicate 39 170) udp_content [] spare_area_frame refl (octets_by_test spare_area_frame refl)
    (record { rest = 0 ∷ replicate 39 170; layout = refl; ended = refl; each = tt; octets = octets_by_test (0 ∷ replicate 39 170) refl; whole_words = refl; bound = lit≤ tt })
    (lit< tt) (lit≤ tt) refl refl (is_datagram [] (octets_by_test udp_content refl)) (lit< tt)

-- no operation, an option without data, and an end
IsFrame-no_operation : IsFrame (packet (Ipv4Body (ipv4 0 false false (IpNop ∷ IpOther 68 (0 ∷ []) ∷ []) (UdpBody (datagram 1 []))))) no_operation_frame
unfolding total
IsFrame-no_operation = worked 0 false false (IpNop ∷ IpOther 68 (0 ∷ []) ∷ []) (UdpBody (datagram 1 [])) 0x6187 (from_hex (codes "01440300")) udp_content [] no_operation_frame refl (octets_by_test no_operation_frame refl)
    (record {
      rest = [];
      layout = refl;
      ended = tt;
      each = (tt, (record { least = lit≤ tt; kind_range = lit< tt; bound = lit≤ tt; each = (lit< tt, tt) }, tt));
      octets = octets_by_test (from_hex (codes "01440300")) refl;
      whole_words = refl;
      bound = lit≤ tt;
    })
    (lit< tt) (lit≤ tt) refl refl (is_datagram [] (octets_by_test udp_content refl)) (lit< tt)

-- the data of a first fragment stays raw
IsFrame-fragment : IsFrame (packet (Ipv4Body (ipv4 0 false true [] (RawBody 17 udp_content)))) fragment_frame
unfolding total
IsFrame-fragment = worked 0 false true [] (RawBody 17 udp_content) 0x46cf [] udp_content [] fragment_frame refl (octets_by_test fragment_frame refl) no_area (lit< tt) (lit≤ tt) refl refl
    (lit< tt, refl, octets_by_test udp_content refl) (lit< tt)

-- surplus behind the UDP length
IsFrame-surplus : IsFrame (packet (Ipv4Body (ipv4 0 false false [] (UdpBody (datagram 1 []))))) surplus_frame
unfolding total
IsFrame-surplus = worked 0 false false [] (UdpBody (datagram 1 [])) 0x66cd [] (udp_content ++ (190 ∷ 239 ∷ [])) [] surplus_frame refl (octets_by_test surplus_frame refl) no_area (lit< tt) (lit≤ tt) refl refl
    (is_datagram (190 ∷ 239 ∷ []) (octets_by_test (udp_content ++ (190 ∷ 239 ∷ [])) refl)) (lit< tt)

-- a TCP segment with one option, behind which the frame is padded
IsFrame-tcp : IsFrame (packet (Ipv4Body (ipv4 0 false false [] (TcpBody (request (TcpMss 1460 ∷ [])))))) tcp_frame
unfolding total
IsFrame-tcp = worked 0 false false [] (TcpBody (request (TcpMss 1460 ∷ []))) 0x66ca [] (take 24 (drop 34 tcp_frame)) (0 ∷ 0 ∷ []) tcp_frame refl (octets_by_test tcp_frame refl) no_area (lit< tt) (lit≤ tt) refl refl
    (record {
      sum = 0x5fd2;
      area = from_hex (codes "020405b4");
      options = record {
        rest = [];
        layout = refl;
        ended = tt;
        each = (lit< tt, tt);
        octets = octets_by_test (from_hex (codes "020405b4")) refl;
        whole_words = refl;
        bound = lit≤ tt;
      };
      layout = refl;
      fits = lit< tt;
      checked = refl;
      in_range = record {
        sport = lit< tt;
        dport = lit< tt;
        seq = lit< tt;
        ack = lit< tt;
        reserved = lit< tt;
        flags = lit< tt;
        window = lit< tt;
        urgent = lit< tt;
        payload = tt;
      };
      sum_range = lit< tt;
      octets = octets_by_test (take 24 (drop 34 tcp_frame)) refl;
    })
    (lit< tt)

-- what is written
canonical_frame-ethernet : (canonical_frame other_packet ≡ other_frame) × (canonical_frame arp_packet ≡ arp_frame ++ replicate 18 0)
canonical_frame-ethernet = (refl, refl)

canonical_frame-udp : canonical_frame (packet (Ipv4Body (ipv4 0 false false [] (UdpBody (datagram 1 []))))) ≡ udp_frame ++ replicate 18 0
unfolding total folded
canonical_frame-udp = refl

-- a UDP checksum that computes to 0 is all ones
canonical_frame-ones : canonical_frame (packet (Ipv4Body (ipv4 0 false false [] (UdpBody (datagram 60377 []))))) ≡ ones_udp_frame ++ replicate 18 0
unfolding total folded
canonical_frame-ones = refl

canonical_frame-option : canonical_frame (packet (Ipv4Body (ipv4 0 false false (IpOther 148 (0 ∷ 0 ∷ []) ∷ []) (UdpBody (datagram 1 []))))) ≡ option_frame ++ replicate 14 0
unfolding total folded
canonical_frame-option = refl

canonical_frame-fragment : canonical_frame (packet (Ipv4Body (ipv4 0 false true [] (RawBody 17 udp_content)))) ≡ fragment_frame ++ replicate 18 0
unfolding total folded
canonical_frame-fragment = refl

canonical_frame-tcp : canonical_frame (packet (Ipv4Body (ipv4 0 false false [] (TcpBody (request (TcpMss 1460 ∷ [])))))) ≡ tcp_frame
unfolding total folded
canonical_frame-tcp = refl

canonical_frame-request : canonical_frame (packet (Ipv4Body (ipv4 0 true false [] (TcpBody (request request_options))))) ≡ request_frame
unfolding total folded
canonical_frame-request = refl

canonical_frame-odd : canonical_frame (packet (Ipv4Body (ipv4 0 false false [] (UdpBody (datagram 1 (255 ∷ [])))))) ≡ odd_frame ++ replicate 17 0
unfolding total folded
canonical_frame-odd = refl

-- raw data with protocol 17 is well formed in a fragment alone
not_well_formed : (payload : List ℕ) → IsWellFormed (packet (Ipv4Body (ipv4 0 false false [] (RawBody 17 payload)))) → ⊥
not_well_formed payload w = let e = w.body.may_have_body in cc

-- the longest packet has 65,515 octets of data
too_long : IsWellFormed (packet (Ipv4Body (ipv4 0 false false [] (RawBody 253 (replicate 65516 0))))) → ⊥
too_long w = let e = w.body.fits in omega arith
