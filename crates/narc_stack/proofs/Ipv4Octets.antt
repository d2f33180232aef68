-- The octets of an IPv4 packet: what its header says of its data.
use Rattle.std.proofs.Common.{◌≡◌, ℕ, ◌+◌, ◌-◌, ◌^◌, ◌<◌, Bool, List, ◌++◌, length, ap, ◌∙◌, append_assoc, arith}
use Rattle.std.specs.Prelude.{slice_range}
use Rattle.narc_bits.specs.Octets.{number_at}
use Rattle.narc_packet.specs.Ipv4.{is_fragment, ipv4_header}
use Rattle.narc_packet.specs.Refusal.{header_length, total_length, is_fragment_in}
use Rattle.narc_packet.proofs.Ipv4Fields.{length_in, total_in, protocol_in, src_in, dst_in, fragment_in}
use Rattle.narc_ipv4.specs.HeaderOctets.{packet_of, IsHeader}
use Rattle.narc_ipv4.specs.declared.as_header.IpHeader.{IpHeader}
use Rattle.narc_stack.specs.declared.content.ContentContext.{ContentContext}
use Rattle.narc_stack.specs.Ipv4.{context_of}

-- what the data is read with, in the octets
abbrev pub content_at : (x : List ℕ) → ContentContext
content_at x = record {
  ends = record { src = slice_range x 12 16; dst = slice_range x 16 20 };
  protocol = number_at x 9 1;
  fragment = is_fragment_in x;
  octets = total_length x - header_length x;
}

content : (src dst : List ℕ) (protocol : ℕ) (fragment : Bool) (octets : ℕ) → ContentContext
content src dst protocol fragment octets = record { ends = record { src = src; dst = dst }; protocol = protocol; fragment = fragment; octets = octets }

-- what the octets of a header say
pub record Says (h : IpHeader) (x : List ℕ) : Type 0 where
  pub header_is : header_length x ≡ h.length
  pub total_is : total_length x ≡ h.total
  pub content_is : content_at x ≡ context_of h

pub header_says : (n : ℕ) (h : IpHeader) (o later : List ℕ) → IsHeader n h o → Says h (o ++ later)
unfolding content
header_says n h o later k =
    let p = packet_of h in
    let la = length k.area in
    let lc = h.total - h.length in
    let rest = k.area ++ later in
    let range = k.in_range in
    let here : o ++ later ≡ ipv4_header p k.sum la lc ++ rest = ap (λ l. l ++ later) k.layout ∙ append_assoc (ipv4_header p k.sum la lc) k.area later in
    let x = ipv4_header p k.sum la lc ++ rest in
    let words = k.options.whole_words in
    let bound = k.options.bound in
    let all : 20 + la + lc ≡ h.total = omega (arith, k.size, k.fits) in
    let fits : 20 + la + lc < 2 ^ 16 = omega (arith, all, k.small) in
    let size : header_length x ≡ h.length = omega (arith, length_in p k.sum la lc rest words bound, k.size) in
    let total : total_length x ≡ h.total = total_in p k.sum la lc rest fits ∙ all in
    let same : content_at x ≡ context_of h =
    ap (λ s. content s (slice_range x 16 20) (number_at x 9 1) (is_fragment_in x) (total_length x - header_length x)) (src_in p k.sum la lc rest range.src)
    ∙ ap (λ s. content h.src s (number_at x 9 1) (is_fragment_in x) (total_length x - header_length x)) (dst_in p k.sum la lc rest range.src range.dst)
    ∙ ap (λ n. content h.src h.dst n (is_fragment_in x) (total_length x - header_length x)) (protocol_in p k.sum la lc rest)
    ∙ ap (λ f. content h.src h.dst h.protocol f (total_length x - header_length x)) (fragment_in p k.sum la lc rest range.offset)
    ∙ ap (λ t. content h.src h.dst h.protocol (is_fragment h.mf h.offset) (t - header_length x)) total
    ∙ ap (λ s. content h.src h.dst h.protocol (is_fragment h.mf h.offset) (h.total - s)) size
    in
    record {
      header_is = ap header_length here ∙ size;
      total_is = ap total_length here ∙ total;
      content_is = ap content_at here ∙ same;
    }
