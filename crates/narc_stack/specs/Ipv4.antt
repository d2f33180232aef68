-- IPv4 packets (RFC 791).
use Rattle.std.specs.Prelude.{◌≡◌, ℕ, ◌+◌, ◌*◌, ◌-◌, ◌/◌, ◌%◌, ◌<◌, ◌^◌, length}
use Rattle.narc_format.specs.Meaning.{Meaning}
use Rattle.narc_compose.specs.declared.either.Either.TheVariants.{Left, Right}
use Rattle.narc_compose.specs.Seq.{seq_tail}
use Rattle.narc_compose.specs.Strip.{stripped}
use Rattle.narc_list.specs.Pad.{padding}
use Rattle.narc_compose.specs.Measured.{measured}
use Rattle.narc_list.specs.Region.{region}
use Rattle.narc_packet.specs.PacketView.{ipv4_view}
use Rattle.narc_packet.specs.Ipv4.{is_fragment}
use Rattle.narc_packet.specs.declared.limits.TheConstants.{MAX_LENGTH}
use Rattle.narc_packet.specs.declared.packet.IpBody.{IpBody}
use Rattle.narc_packet.specs.declared.packet.IpBody.TheVariants as ip_body
use Rattle.narc_packet.specs.declared.packet.Ipv4.{Ipv4}
use Rattle.narc_packet.specs.declared.packet.Tcp.{Tcp}
use Rattle.narc_ipv4.specs.Header.{ip_head}
use Rattle.narc_ipv4.specs.declared.as_header.IpHeader.{IpHeader}
use Rattle.narc_stack.specs.declared.content.ContentContext.{ContentContext}
use Rattle.narc_stack.specs.Content.{RawContent, IsContentContext, ip_content}

-- what the data is read with, and the padding that fills a frame of 60 octets
abbrev pub context_of : IpHeader → ContentContext
context_of h = record {
  ends = record { src = h.src; dst = h.dst };
  protocol = h.protocol;
  fragment = is_fragment h.mf h.offset;
  octets = h.total - h.length;
}

abbrev pub zeros_of : IpHeader → ℕ
zeros_of h = 46 - h.total

abbrev pub IsPadded : ContentContext × ℕ → Type 0
IsPadded c = IsContentContext c.0 × (c.1 < 2 ^ 64)

abbrev pub RawIpv4 : Type 0
RawIpv4 = IpHeader × (RawContent × Unit {0})

abbrev pub body_of : (protocol : ℕ) → RawContent → IpBody
body_of protocol (Left u) = ip_body.Udp u
body_of protocol (Right (Left s)) = ip_body.Tcp s.tcp
body_of protocol (Right (Right payload)) = ip_body.Raw protocol payload

abbrev pub ipv4_of : RawIpv4 → Ipv4
ipv4_of raw =
    let h = raw.0 in
    record {
      tos = h.tos;
      id = h.id;
      df = h.df;
      mf = h.mf;
      offset = h.offset;
      ttl = h.ttl;
      src = h.src;
      dst = h.dst;
      options = h.options;
      body = body_of h.protocol raw.1.0;
    }

abbrev pub protocol_of : IpBody → ℕ
protocol_of (ip_body.Udp u) = 17
protocol_of (ip_body.Tcp t) = 6
protocol_of (ip_body.Raw protocol payload) = protocol

-- how many 32-bit words hold so many octets
abbrev pub words_of : ℕ → ℕ
words_of octets = (octets + 3) / 4

-- the shortest header of a segment, in 32-bit words
abbrev pub offset_of : Tcp → ℕ
offset_of t = 5 + words_of (length t.options.spelled.now)

-- how many octets the data has where it is written
abbrev pub octets_of : IpBody → ℕ
octets_of (ip_body.Udp u) = 8 + length u.payload.now
octets_of (ip_body.Tcp t) = 4 * offset_of t + length t.payload.now
octets_of (ip_body.Raw protocol payload) = length payload.now

abbrev pub raw_content : IpBody → RawContent
raw_content (ip_body.Udp u) = Left u
raw_content (ip_body.Tcp t) = Right (Left (record { offset = offset_of t % 256; tcp = t }))
raw_content (ip_body.Raw protocol payload) = Right (Right payload)

-- the shortest header
abbrev pub length_of : Ipv4 → ℕ
length_of p = 20 + 4 * words_of (length p.options.spelled.now)

abbrev pub header_of : Ipv4 → IpHeader
header_of p = record {
  length = length_of p % 256;
  tos = p.tos;
  total = (length_of p + octets_of p.body % 65536) % 65536;
  id = p.id;
  df = p.df;
  mf = p.mf;
  offset = p.offset;
  ttl = p.ttl;
  protocol = protocol_of p.body;
  src = p.src;
  dst = p.dst;
  options = p.options;
}

abbrev pub raw_ipv4 : Ipv4 → RawIpv4
raw_ipv4 p = (header_of p, (raw_content p.body, tt))

-- the same packet, wherever its octets lie
abbrev pub SameIpv4 : Ipv4 → Ipv4 → Type 0
SameIpv4 p q = ipv4_view p ≡ ipv4_view q

abbrev pub padded_content : Meaning (ContentContext × ℕ) (RawContent × Unit {0})
padded_content =
    seq_tail {C = ContentContext × ℕ} {CA = ContentContext} {CB = ℕ} (λ c. c.0) (λ c v. c.1) IsPadded
    (region (λ (c : ContentContext). c.octets) ip_content) padding

abbrev pub header_and_content : Meaning ℕ RawIpv4
header_and_content =
    seq_tail {C = ℕ} {CA = ℕ} {CB = ContentContext × ℕ} (λ n. n) (λ n h. (context_of h, zeros_of h)) (λ n. n < 2 ^ 64) ip_head padded_content

abbrev pub ipv4_measured : Meaning (Unit {0}) RawIpv4
ipv4_measured = measured (λ c n. n) (λ c. MAX_LENGTH) (λ c. Unit {0}) header_and_content

-- what `Ipv4Format` means
abbrev pub ipv4_format : Meaning (Unit {0}) Ipv4
ipv4_format = stripped ipv4_of (λ c p. raw_ipv4 p) SameIpv4 ipv4_measured
