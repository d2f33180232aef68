-- A packet's options and payload lie in its frame where its lengths say.
use Rattle.std.proofs.Common.{◌≡◌, ℕ, ◌+◌, ◌/◌, List, ◌++◌, length, take, drop, slice_index_or, ap, ◌∙◌, sym, append_assoc, length-append, arith}
use Rattle.std.proofs.Math.Seq.{drop-append_seam, take-append_seam, take-length}
use Rattle.std.proofs.lemmas.List.{get_or-drop, drop-drop, drop_at}
use Rattle.narc_bits.specs.Octets.{big_endian}
use Rattle.narc_packet.specs.Ranges.{IsMac, IsIp}
use Rattle.narc_packet.specs.Options.{AreTcpOptions}
use Rattle.narc_packet.specs.PacketView.{view, eth_body_view, ipv4_view, udp_view, tcp_view, ip_body_view, Ipv4View}
use Rattle.narc_packet.specs.Udp.{IsUdp}
use Rattle.narc_packet.specs.Tcp.{IsTcp}
use Rattle.narc_packet.specs.Ipv4.{IsIpv4, IsIpBody, ipv4_header}
use Rattle.narc_packet.specs.Frame.{IsFrame, IsEthBody, ether_type_of}
use Rattle.narc_packet.specs.WellFormed.{SpellsOptions, SpellsEthBody, SpellsIpv4, SpellsIpBody}
use Rattle.narc_packet.specs.declared.packet.Udp.{Udp}
use Rattle.narc_packet.specs.declared.packet.Tcp.{Tcp}
use Rattle.narc_packet.specs.declared.packet.IpBody.{IpBody}
use Rattle.narc_packet.specs.declared.packet.IpBody.TheVariants as ip_body
use Rattle.narc_packet.specs.declared.packet.Ipv4.{Ipv4}
use Rattle.narc_packet.specs.declared.packet.EthBody.{EthBody}
use Rattle.narc_packet.specs.declared.packet.EthBody.TheVariants as eth_body
use Rattle.narc_packet.specs.declared.packet.Packet.{Packet}
use Rattle.narc_c.specs.Places.{ipv4_data_at, tcp_data_at, IpBodyLies, Ipv4Lies, EthBodyLies}

-- what is behind a place, and the octets there
behind : (frame x : List ℕ) (at k : ℕ) → drop at frame ≡ x → drop (at + k) frame ≡ drop k x
behind frame x at k e = sym (drop-drop k at frame) ∙ ap (drop k) e

octet_behind : (frame x : List ℕ) (at k : ℕ) → drop at frame ≡ x → slice_index_or frame (at + k) 0 ≡ slice_index_or x k 0
octet_behind frame x at k e = sym (get_or-drop at frame k 0) ∙ ap (λ l. slice_index_or l k 0) e

-- behind the header of a frame
behind_ethernet : (dst src : List ℕ) (t : ℕ) (content : List ℕ) → IsMac dst → IsMac src → drop 14 (dst ++ src ++ big_endian 2 t ++ content) ≡ content
behind_ethernet dst src t content d s =
    drop_at (dst ++ src ++ big_endian 2 t) content 14 (omega (arith, length-append (dst ++ src) (big_endian 2 t), length-append dst src, d.0, s.0))

-- behind the header of an IPv4 packet
behind_header : (p : Ipv4View) (sum la lc : ℕ) (later : List ℕ) → IsIp p.src → IsIp p.dst → drop 20 (ipv4_header p sum la lc ++ later) ≡ later
behind_header p sum la lc later s d = drop_at (p.src ++ p.dst) later 8 (omega (arith, length-append p.src p.dst, s.0, d.0))

front_taken : (part rest all : List ℕ) → all ≡ part ++ rest → take (length part) all ≡ part
front_taken part rest all e = ap (take (length part)) e ∙ take-append_seam part rest

-- the data of an IPv4 packet, in octets that it begins in front of anything
udp_lies : (src dst : List ℕ) (u : Udp) (content pad : List ℕ) → IsUdp src dst (udp_view u) content → take (length u.payload.now) (drop 8 (content ++ pad)) ≡ u.payload.now
udp_lies src dst u content pad k =
    front_taken u.payload.now (k.surplus ++ pad) (drop 8 (content ++ pad))
    (ap (λ l. drop 8 (l ++ pad)) k.layout ∙ append_assoc u.payload.now k.surplus pad)

tcp_options_lie : (src dst : List ℕ) (t : Tcp) (content pad : List ℕ) → IsTcp src dst (tcp_view t) content → AreTcpOptions t.options.spelled.now → take (length t.options.spelled.now) (drop 20 (content ++ pad)) ≡ t.options.spelled.now
tcp_options_lie src dst t content pad k spelled =
    let s = t.options.spelled.now in
    let rest = k.options.rest in
    let payload = t.payload.now in
    let area : k.area ≡ s ++ rest = k.options.layout ∙ ap (λ l. l ++ rest) spelled.0 in
    front_taken s (rest ++ (payload ++ pad)) (drop 20 (content ++ pad))
    (ap (λ l. drop 20 (l ++ pad)) k.layout ∙ append_assoc k.area payload pad ∙ ap (λ l. l ++ (payload ++ pad)) area ∙ append_assoc s rest (payload ++ pad))

tcp_payload_lies : (src dst : List ℕ) (t : Tcp) (content pad : List ℕ) → (k : IsTcp src dst (tcp_view t) content) → take (length t.payload.now) (drop (20 + length k.area) (content ++ pad)) ≡ t.payload.now
tcp_payload_lies src dst t content pad k =
    let payload = t.payload.now in
    let la = length k.area in
    let headed : drop 20 (content ++ pad) ≡ k.area ++ (payload ++ pad) = ap (λ l. drop 20 (l ++ pad)) k.layout ∙ append_assoc k.area payload pad in
    front_taken payload pad (drop (20 + la) (content ++ pad))
    (behind (content ++ pad) (k.area ++ (payload ++ pad)) 20 la headed ∙ drop-append_seam k.area (payload ++ pad))

tcp_data_is : (src dst : List ℕ) (t : Tcp) (content pad frame : List ℕ) (at : ℕ) → (k : IsTcp src dst (tcp_view t) content) → slice_index_or frame (at + 12) 0 ≡ slice_index_or (content ++ pad) 12 0 → tcp_data_at frame at ≡ at + (20 + length k.area)
tcp_data_is src dst t content pad frame at k i =
    let there = i ∙ ap (λ l. slice_index_or (l ++ pad) 12 0) k.layout in
    omega (arith, there, k.options.whole_words, k.options.bound, k.in_range.reserved, k.in_range.flags)

body_lies : (src dst : List ℕ) (b : IpBody) (content pad frame : List ℕ) (at : ℕ) → IsIpBody src dst (ip_body_view b) content → SpellsIpBody b
    → drop at frame ≡ content ++ pad → IpBodyLies frame at b
body_lies src dst (ip_body.Udp u) content pad frame at is spelled e =
    ap (take (length u.payload.now)) (behind frame (content ++ pad) at 8 e) ∙ udp_lies src dst u content pad is
body_lies src dst (ip_body.Tcp t) content pad frame at is spelled e = (
  ap (take (length t.options.spelled.now)) (behind frame (content ++ pad) at 20 e) ∙ tcp_options_lie src dst t content pad is spelled,
  ap (λ a. take (length t.payload.now) (drop a frame)) (tcp_data_is src dst t content pad frame at is (octet_behind frame (content ++ pad) at 12 e))
      ∙ ap (take (length t.payload.now)) (behind frame (content ++ pad) at (20 + length is.area) e) ∙ tcp_payload_lies src dst t content pad is,
)
body_lies src dst (ip_body.Raw protocol payload) content pad frame at is spelled e =
    front_taken payload.now pad (drop at frame) (e ∙ ap (λ l. l ++ pad) is.1)

ipv4_lies : (p : Ipv4) (octets pad frame : List ℕ) → IsIpv4 (ipv4_view p) octets → SpellsIpv4 p → drop 14 frame ≡ octets ++ pad → Ipv4Lies frame p
ipv4_lies p octets pad frame is spelled e =
    let v = ipv4_view p in
    let la = length is.area in
    let lc = length is.content in
    let header = ipv4_header v is.sum la lc in
    let beyond = is.content ++ pad in
    let later = is.area ++ beyond in
    let s = p.options.spelled.now in
    let rest = is.options.rest in
    let here : octets ++ pad ≡ header ++ later =
    ap (λ l. l ++ pad) is.layout ∙ append_assoc (header ++ is.area) is.content pad ∙ append_assoc header is.area beyond in
    let headed : drop 34 frame ≡ later = behind frame (header ++ later) 14 20 (e ∙ here) ∙ behind_header v is.sum la lc later is.in_range.src is.in_range.dst in
    let first : slice_index_or frame 14 0 ≡ 64 + (20 + la) / 4 = octet_behind frame (header ++ later) 14 0 (e ∙ here) in
    let at : ipv4_data_at frame ≡ 34 + la = omega (arith, first, is.options.whole_words, is.options.bound) in
    let area : is.area ≡ s ++ rest = is.options.layout ∙ ap (λ l. l ++ rest) spelled.0.0 in (
      front_taken s (rest ++ beyond) (drop 34 frame) (headed ∙ ap (λ l. l ++ beyond) area ∙ append_assoc s rest beyond),
      body_lies v.src v.dst p.body is.content pad frame (ipv4_data_at frame) is.body spelled.1
          (ap (λ a. drop a frame) at ∙ behind frame later 34 la headed ∙ drop-append_seam is.area beyond),
    )

eth_body_lies : (frame : List ℕ) (b : EthBody) (content : List ℕ) → IsEthBody (eth_body_view b) content → SpellsEthBody b → drop 14 frame ≡ content → EthBodyLies frame b
eth_body_lies frame (eth_body.Arp a) content is spelled e = tt
eth_body_lies frame (eth_body.Ip p) content is spelled e = ipv4_lies p is.0 is.1 frame is.2 spelled (e ∙ is.3)
eth_body_lies frame (eth_body.Other ether_type payload) content is spelled e =
    ap (take (length payload.now)) (e ∙ is.3) ∙ take-length payload.now

-- The options and the payload lie in the frame.
pub packet_lies : (p : Packet) (frame : List ℕ) → IsFrame (view p) frame → SpellsOptions p → EthBodyLies frame p.body
packet_lies p frame f spelled =
    eth_body_lies frame p.body f.content f.body spelled
    (ap (drop 14) f.layout ∙ behind_ethernet p.dst p.src (ether_type_of (eth_body_view p.body)) f.content f.dst f.src)
