-- The octets that are read as an IPv4 packet and padding are just those that are one.
use Rattle.std.proofs.Common.{◌≡◌, ℕ, ◌+◌, ◌-◌, ◌<◌, ◌↔◌, List, [], ◌++◌, length, take, refl, sym, ap, ◌∙◌, subst, append_assoc, arith, lit<, length-append}
use Rattle.std.proofs.lemmas.List.{take_at}
use Rattle.narc_bits.specs.Octets.{IsOctets}
use Rattle.narc_bits.specs.InternetSum.{IsGoodSum}
use Rattle.narc_bits.proofs.Octets.{IsOctets-front, IsOctets-back}
use Rattle.narc_packet.specs.Ipv4.{IsIpv4, IsIpBody, ipv4_header}
use Rattle.narc_packet.specs.Ipv4 as ip
use Rattle.narc_packet.specs.WellFormed.{SpellsIpv4}
use Rattle.narc_packet.specs.PacketView.{Ipv4View, RawBody, ip_body_view, ipv4_view}
use Rattle.narc_packet.specs.declared.packet.IpBody.{IpBody}
use Rattle.narc_packet.specs.declared.packet.IpBody.TheVariants as ip_body
use Rattle.narc_packet.specs.declared.packet.Ipv4.{Ipv4}
use Rattle.narc_ipv4.specs.HeaderOctets.{IsHeader}
use Rattle.narc_ipv4.specs.HeaderOctets as head
use Rattle.narc_ipv4.proofs.HeaderOctets.{header_size}
use Rattle.narc_ipv4.specs.declared.as_header.IpHeader.{IpHeader}
use Rattle.narc_stack.specs.Ipv4.{context_of, RawIpv4, body_of, ipv4_of, protocol_of}
use Rattle.narc_stack.proofs.ContentRead.{IsHere, IsData, data_of_content, HasContent, content_of_data}
use Rattle.narc_stack.proofs.Ipv4Read.{IsPacketRead, IsIpv4Read}

-- an IPv4 packet, and any padding behind it
pub record IsPaddedIpv4 (p : Ipv4) (x : List ℕ) : Type 0 where
  pub spelled : SpellsIpv4 p
  pub octets : List ℕ
  pub pad : List ℕ
  pub is : IsIpv4 (ipv4_view p) octets
  pub joined : x ≡ octets ++ pad

-- a header with another protocol
abbrev header_with : Ipv4View → (sum area_length content_length protocol : ℕ) → List ℕ
header_with p sum area_length content_length protocol = ipv4_header (record p { body = RawBody protocol [] }) sum area_length content_length

pub protocol_view : (b : IpBody) → ip.protocol_of (ip_body_view b) ≡ protocol_of b
protocol_view (ip_body.Udp u) = refl
protocol_view (ip_body.Tcp t) = refl
protocol_view (ip_body.Raw protocol payload) = refl

-- what was read is a packet
module _ (n : ℕ) (w : RawIpv4) (x : List ℕ) (each : IsOctets x) (q : IsPacketRead n w x) where
  abbrev h : IpHeader
  h = w.0

  abbrev d : List ℕ
  d = q.second.front

  abbrev behind : List ℕ
  behind = q.second.back

  each_data : IsOctets d
  each_data = IsOctets-front d behind (subst IsOctets q.second.joined (IsOctets-back q.front q.back (subst IsOctets q.joined each)))

  header : IsHeader n h q.front
  header = q.first

  data_here : IsHere (context_of h) d
  data_here =
      let range = header.in_range in
      let total = header.small in
      record { ends = (range.src, range.dst); protocol = header.protocol; each = each_data; size = q.second.first.0; short = omega (arith, total) }

  data_is : IsData (context_of h) (body_of h.protocol w.1.0) d
  data_is = data_of_content (context_of h) d data_here w.1.0 q.second.first.1

  header_same : ipv4_header (head.packet_of h) header.sum (length header.area) (h.total - h.length) ≡ ipv4_header (ipv4_view (ipv4_of w)) header.sum (length header.area) (length d)
  header_same =
      ap (ipv4_header (head.packet_of h) header.sum (length header.area)) (sym q.second.first.0)
      ∙ ap (header_with (head.packet_of h) header.sum (length header.area) (length d)) (sym data_is.protocol ∙ sym (protocol_view (body_of h.protocol w.1.0)))

  packet_is : IsIpv4 (ipv4_view (ipv4_of w)) (q.front ++ d)
  packet_is =
      let range = header.in_range in
      let size = q.second.first.0 in
      record {
        sum = header.sum;
        area = header.area;
        content = d;
        layout = ap (λ l. l ++ d) header.layout ∙ ap (λ l. l ++ header.area ++ d) header_same;
        options = header.options;
        fits = omega (arith, header.size, header.fits, header.small, size);
        checked = subst IsGoodSum (sym (take_at q.front d (20 + length header.area) (header_size n h q.front header ∙ header.size))) header.checked;
        may_have_body = data_is.may_have_body;
        body = data_is.body;
        in_range = record { tos = range.tos; id = range.id; offset = range.offset; ttl = range.ttl; src = range.src; dst = range.dst };
        sum_range = header.sum_range;
      }

  padded_is : IsPaddedIpv4 (ipv4_of w) x
  padded_is = record {
    spelled = ((header.spelled, header.options.each), data_is.spelled);
    octets = q.front ++ d;
    pad = behind;
    is = packet_is;
    joined = q.joined ∙ ap (λ l. q.front ++ l) q.second.joined ∙ sym (append_assoc q.front d behind);
  }

-- and back
known_protocol : (src dst : List ℕ) (b : IpBody) (d : List ℕ) → IsIpBody src dst (ip_body_view b) d → protocol_of b < 256
known_protocol src dst (ip_body.Udp u) d k = lit< tt
known_protocol src dst (ip_body.Tcp t) d k = lit< tt
known_protocol src dst (ip_body.Raw protocol payload) d k = k.0

with_body : Ipv4 → IpBody → Ipv4
with_body p b = record p { body = b }

module _ (p : Ipv4) (x : List ℕ) (each : IsOctets x) (k : IsPaddedIpv4 p x) where
  abbrev f : IsIpv4 (ipv4_view p) k.octets
  f = k.is

  abbrev size : ℕ
  size = 20 + length f.area

  abbrev top : IpHeader
  top = record {
    length = size;
    tos = p.tos;
    total = size + length f.content;
    id = p.id;
    df = p.df;
    mf = p.mf;
    offset = p.offset;
    ttl = p.ttl;
    protocol = protocol_of p.body;
    src = p.src;
    dst = p.dst;
    options = p.options;
  }

  abbrev front : List ℕ
  front = ipv4_header (head.packet_of top) f.sum (length f.area) (length f.content) ++ f.area

  octets_are : k.octets ≡ front ++ f.content
  octets_are = f.layout ∙ ap (λ n. header_with (ipv4_view p) f.sum (length f.area) (length f.content) n ++ f.area ++ f.content) (protocol_view p.body)

  front_size : length front ≡ size
  front_size =
      let range = f.in_range in
      let src = range.src.0 in
      let dst = range.dst.0 in
      omega (arith, length-append (ipv4_header (head.packet_of top) f.sum (length f.area) (length f.content)) f.area, length-append p.src p.dst, src, dst)

  joined : x ≡ front ++ (f.content ++ k.pad)
  joined = k.joined ∙ ap (λ l. l ++ k.pad) octets_are ∙ append_assoc front f.content k.pad

  each_content : IsOctets f.content
  each_content = IsOctets-front f.content k.pad (IsOctets-back front (f.content ++ k.pad) (subst IsOctets joined each))

  known : protocol_of p.body < 256
  known = known_protocol p.src p.dst p.body f.content f.body

  header_is : IsHeader (length x) top front
  header_is =
      let r = f.in_range in
      let behind : length f.content ≡ size + length f.content - size = omega arith in
      record {
        sum = f.sum;
        area = f.area;
        layout = ap (λ n. ipv4_header (head.packet_of top) f.sum (length f.area) n ++ f.area) behind;
        options = f.options;
        spelled = k.spelled.0.0;
        size = refl;
        fits = omega arith;
        present = omega (arith, ap length joined, length-append front (f.content ++ k.pad), length-append f.content k.pad, front_size);
        small = omega (arith, f.fits);
        checked = subst IsGoodSum (ap (take size) octets_are ∙ take_at front f.content size front_size) f.checked;
        in_range = record { tos = r.tos; id = r.id; offset = r.offset; ttl = r.ttl; src = r.src; dst = r.dst };
        protocol = known;
        sum_range = f.sum_range;
      }

  here : IsHere (context_of top) f.content
  here =
      let r = f.in_range in
      record { ends = (r.src, r.dst); protocol = known; each = each_content; size = omega arith; short = omega (arith, f.fits) }

  content_is : HasContent (context_of top) f.content here p.body
  content_is = content_of_data (context_of top) f.content here p.body (record { protocol = refl; may_have_body = f.may_have_body; body = f.body; spelled = k.spelled.1 })

  packet_back : ipv4_of (top, (content_is.value, tt)) ≡ p
  unfolding with_body
  packet_back = ap (with_body p) content_is.back

  read_back : IsIpv4Read tt p x
  read_back = (
    (top, (content_is.value, tt)),
    record {
      front = front;
      back = f.content ++ k.pad;
      joined = joined;
      first = header_is;
      second = record { front = f.content; back = k.pad; joined = refl; first = (here.size, content_is.is); second = tt };
    },
    packet_back,
  )

pub ipv4_is : (p : Ipv4) (x : List ℕ) → IsOctets x → IsIpv4Read tt p x ↔ IsPaddedIpv4 p x
ipv4_is p x each = (
  λ r. subst (λ a. IsPaddedIpv4 a x) r.2 (padded_is (length x) r.0 x each r.1),
  λ k. read_back p x each k,
)
