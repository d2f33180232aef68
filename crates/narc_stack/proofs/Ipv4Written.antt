-- The octets that are written of an IPv4 packet.
use Rattle.std.proofs.Common.{◌≡◌, ℕ, ◌+◌, ◌*◌, ◌-◌, ◌%◌, ◌<◌, ◌≤◌, Bool, true, false, not, ◌&&◌, ◌||◌, List, [], ◌++◌, length, replicate, nat_eq, if◌then◌else◌, refl, sym, ap, ◌∙◌, subst, append_assoc, arith, length-append}
use Rattle.std.proofs.lemmas.List.{length-replicate}
use Rattle.narc_bits.specs.Bits.{bits}
use Rattle.narc_bits.specs.InternetSum.{checksum}
use Rattle.narc_bits.proofs.Numbers.{bits-append}
use Rattle.narc_compose.specs.declared.either.Either.TheVariants.{Left, Right}
use Rattle.narc_compose.specs.Measured.{measured}
use Rattle.narc_compose.specs.Seq.{seq_tail}
use Rattle.narc_compose.specs.Strip.{stripped}
use Rattle.narc_compose.specs.Union.{united, side_spelling}
use Rattle.narc_list.specs.Bytes.{all_octets}
use Rattle.narc_list.specs.Pad.{padding}
use Rattle.narc_list.specs.Region.{region}
use Rattle.narc_packet.specs.Options.{filled, ip_area}
use Rattle.narc_packet.specs.PacketView.{Ipv4View, RawBody, ip_body_view, ipv4_view}
use Rattle.narc_packet.specs.Ipv4.{MayHaveBody, ipv4_header, canonical_ip_body, canonical_ipv4}
use Rattle.narc_packet.specs.WellFormed.{IsWellFormedIpBody, IsWellFormedIpv4, smallest_length, SpellsIpBody, SpellsIpv4}
use Rattle.narc_packet.specs.declared.packet.IpBody.{IpBody}
use Rattle.narc_packet.specs.declared.packet.IpBody.TheVariants as ip_body
use Rattle.narc_packet.specs.declared.packet.Ipv4.{Ipv4}
use Rattle.narc_ipv4.specs.declared.as_header.IpHeader.{IpHeader}
use Rattle.narc_ipv4.specs.HeaderOctets.{FitsHeader, header_with, canonical_header}
use Rattle.narc_ipv4.specs.HeaderOctets as head
use Rattle.narc_ipv4.proofs.HeaderWritten.{head_written}
use Rattle.narc_transport.specs.declared.as_tcp.TcpWithOffset.{TcpWithOffset}
use Rattle.narc_transport.specs.Context.{IsEnds, IsThere}
use Rattle.narc_transport.specs.Written.{FitsTcp}
use Rattle.narc_transport.specs.Parts.{udp_part, tcp_part}
use Rattle.narc_transport.proofs.UdpWritten.{udp_written}
use Rattle.narc_transport.proofs.TcpWritten.{tcp_written}
use Rattle.narc_stack.specs.declared.content.ContentContext.{ContentContext}
use Rattle.narc_stack.specs.Content.{tcp_or_raw, ip_content}
use Rattle.narc_stack.specs.Ipv4.{context_of, protocol_of, words_of, octets_of, raw_content, header_of}
use Rattle.narc_stack.specs.Ipv4Part.{ipv4_part}
use Rattle.narc_stack.proofs.ContentRead.{taken, not_taken}
use Rattle.narc_stack.proofs.Ipv4Relation.{protocol_view}
use Rattle.narc_stack.proofs.CanonicalContent.{canonical_length, known_protocol}

-- the shortest area of options that are spelled so
area_size : (l spelled : List ℕ) → l ≡ spelled → length (filled l) ≡ 4 * words_of (length spelled)
area_size l spelled e = omega (arith, ap length e, length-append l (replicate ((4 - length l % 4) % 4) 0), length-replicate {A = ℕ} ((4 - length l % 4) % 4) 0)

area_same : (l spelled : List ℕ) → l ≡ spelled → (n : ℕ) → n ≡ 4 * words_of (length spelled) → spelled ++ replicate (n - length spelled) 0 ≡ filled l
area_same l spelled e n size =
    let zeros : n - length spelled ≡ (4 - length l % 4) % 4 = omega (arith, ap length e, size) in
    ap (λ k. spelled ++ replicate k 0) zeros ∙ ap (λ a. a ++ replicate ((4 - length l % 4) % 4) 0) (sym e)

-- as many octets of data as are written
octets_view : (b : IpBody) → SpellsIpBody b → octets_of b ≡ smallest_length (ip_body_view b)
octets_view (ip_body.Udp u) s = refl
octets_view (ip_body.Tcp t) s = omega (arith, area_size _ t.options.spelled.now s.0)
octets_view (ip_body.Raw protocol payload) s = refl

left_spelling : {A B V W : Type 0} (f : A → V → List Bool) (g : B → W → List Bool) (a : A) (z : B) (t : Bool) → t ≡ true → (v : V) → side_spelling f g (if t then Left a else Right z) (Left v) ≡ f a v
left_spelling f g a z true e v = refl
left_spelling f g a z false e v = cc

pub right_spelling : {A B V W : Type 0} (f : A → V → List Bool) (g : B → W → List Bool) (a : A) (z : B) (t : Bool) → t ≡ false → (w : W) → side_spelling f g (if t then Left a else Right z) (Right w) ≡ g z w
right_spelling f g a z true e w = cc
right_spelling f g a z false e w = refl

-- the data, where it is read with what its header says
content_written : (c : ContentContext) (b : IpBody) → IsEnds c.ends → c.protocol ≡ protocol_of b → c.octets ≡ smallest_length (ip_body_view b) → c.octets ≤ 65535 → MayHaveBody c.fragment (ip_body_view b)
    → IsWellFormedIpBody (ip_body_view b) → SpellsIpBody b → ip_content.spelling c (raw_content b) ≡ bits (canonical_ip_body c.ends.src c.ends.dst (ip_body_view b))
unfolding united udp_part tcp_part all_octets
content_written c (ip_body.Udp u) ends protocol size short may w s =
    left_spelling udp_part.spelling tcp_or_raw.spelling (c.ends, c.octets) c (nat_eq c.protocol 17 && not c.fragment) (taken 17 c.protocol c.fragment (sym protocol) may) u
    ∙ ap (λ n. udp_part.spelling (c.ends, n) u) size
    ∙ udp_written c.ends ends u (record { in_range = w; short = omega (arith, short, size); fits = omega arith })
content_written c (ip_body.Tcp t) ends is size short may w s =
    let l = t.options.spelled.now in
    let words = words_of (length l) in
    let bound = w.1.bound in
    let few : length l ≤ 40 = omega (arith, ap length s.0, bound) in
    let area = area_size _ l s.0 in
    let offset : (5 + words) % 256 ≡ 5 + words = omega (arith, few) in
    let there : IsThere (c.ends, c.octets) = (ends, omega (arith, short)) in
    let segment : TcpWithOffset = record { offset = (5 + words) % 256; tcp = t } in
    let fits : FitsTcp c.octets segment = record {
      in_range = w.0;
      spelled = s;
      options = omega (arith, offset);
      most = omega (arith, offset, few);
      fits = omega (arith, offset, size, area);
      short = omega (arith, offset, size, area, short);
    } in
    right_spelling udp_part.spelling tcp_or_raw.spelling (c.ends, c.octets) c (nat_eq c.protocol 17 && not c.fragment) (ap (λ n. nat_eq n 17 && not c.fragment) is) (Left segment)
    ∙ left_spelling tcp_part.spelling all_octets.spelling (c.ends, c.octets) tt (nat_eq c.protocol 6 && not c.fragment) (taken 6 c.protocol c.fragment (sym is) may) segment
    ∙ tcp_written (c.ends, c.octets) there segment fits (omega (arith, offset, area))
content_written c (ip_body.Raw protocol payload) ends is size short may w s =
    let none = not_taken c.fragment (nat_eq c.protocol 6) (nat_eq c.protocol 17) (ap (λ n. c.fragment || not (nat_eq n 6 || nat_eq n 17)) is ∙ may) in
    right_spelling udp_part.spelling tcp_or_raw.spelling (c.ends, c.octets) c (nat_eq c.protocol 17 && not c.fragment) none.1 (Right payload)
    ∙ right_spelling tcp_part.spelling all_octets.spelling (c.ends, c.octets) tt (nat_eq c.protocol 6 && not c.fragment) none.0 payload

pub joined : {x y : List Bool} (a b : List ℕ) → x ≡ bits a → y ≡ bits b → x ++ y ≡ bits (a ++ b)
joined {y = y} a b p q = ap (λ z. z ++ y) p ∙ ap (λ z. bits a ++ z) q ∙ sym (bits-append a b)

module _ (p : Ipv4) (w : IsWellFormedIpv4 (ipv4_view p)) (s : SpellsIpv4 p) where
  abbrev h : IpHeader
  h = header_of p

  abbrev l : List ℕ
  l = p.options.spelled.now

  abbrev v : Ipv4View
  v = ipv4_view p

  abbrev area : List ℕ
  area = ip_area v.options

  abbrev data_octets : List ℕ
  data_octets = canonical_ip_body p.src p.dst v.body

  few : length l ≤ 40
  few = let bound = w.options.bound in omega (arith, ap length s.0.0, bound)

  area_is : length area ≡ 4 * words_of (length l)
  area_is = area_size _ l s.0.0

  data_is : length data_octets ≡ octets_of p.body
  data_is = canonical_length p.src p.dst v.body ∙ sym (octets_view p.body s.1)

  all : 20 + length area + length data_octets ≤ 65535
  all = let fits = w.fits in omega (arith, fits, canonical_length p.src p.dst v.body)

  length_is : h.length ≡ 20 + length area
  length_is = omega (arith, area_is, few)

  total_is : h.total ≡ 20 + length area + length data_octets
  total_is = omega (arith, area_is, data_is, all)

  fits : FitsHeader 65535 h
  fits =
      let r = w.in_range in
      record {
        in_range = record { tos = r.tos; id = r.id; offset = r.offset; ttl = r.ttl; src = r.src; dst = r.dst };
        protocol = subst (λ n. n < 256) (protocol_view p.body) (known_protocol v.body w.body);
        spelled = s.0;
        options = omega (arith, length_is, area_is);
        most = omega (arith, length_is, area_is, few);
        whole_words = omega (arith, length_is, area_is);
        fits = omega (arith, length_is, total_is);
        present = omega (arith, total_is, all);
        small = omega (arith, total_is, all);
      }

  header_same : (sum : ℕ) → header_with h sum ≡ ipv4_header v sum (length area) (length data_octets) ++ area
  header_same sum =
      let room : h.length - 20 ≡ length area = omega (arith, length_is) in
      let rest : h.total - h.length ≡ length data_octets = omega (arith, length_is, total_is) in
      ap (λ n. ipv4_header (head.packet_of h) sum n (h.total - h.length) ++ (l ++ replicate (h.length - 20 - length l) 0)) room
      ∙ ap (λ n. ipv4_header (head.packet_of h) sum (length area) n ++ (l ++ replicate (h.length - 20 - length l) 0)) rest
      ∙ ap (λ n. ipv4_header (record v { body = RawBody n [] }) sum (length area) (length data_octets) ++ (l ++ replicate (h.length - 20 - length l) 0)) (sym (protocol_view p.body))
      ∙ ap (λ k. ipv4_header v sum (length area) (length data_octets) ++ k) (area_same _ l s.0.0 (h.length - 20) (room ∙ area_is))

  canonical_same : canonical_header h ++ data_octets ≡ canonical_ipv4 v
  canonical_same = ap (λ k. k ++ data_octets) (ap (λ k. header_with h (checksum k)) (header_same 0) ∙ header_same (checksum (ipv4_header v 0 (length area) (length data_octets) ++ area)))

  canonical_size : length (canonical_ipv4 v) ≡ h.total
  canonical_size =
      let sum = checksum (ipv4_header v 0 (length area) (length data_octets) ++ area) in
      let r = w.in_range in
      let src = r.src.0 in
      let dst = r.dst.0 in
      omega (arith, length-append (ipv4_header v sum (length area) (length data_octets) ++ area) data_octets, length-append (ipv4_header v sum (length area) (length data_octets)) area, length-append p.src p.dst, src, dst, total_is)

  spelled_data : ip_content.spelling (context_of h) (raw_content p.body) ≡ bits data_octets
  spelled_data =
      let r = w.in_range in
      let small : h.total - h.length ≡ smallest_length v.body = omega (arith, length_is, total_is, canonical_length p.src p.dst v.body) in
      content_written (context_of h) p.body (r.src, r.dst) refl small (omega (arith, total_is, all)) w.may_have_body w.body s.1

  pub ipv4_written : ipv4_part.spelling tt p ≡ bits (canonical_ipv4 v ++ replicate (46 - length (canonical_ipv4 v)) 0)
  unfolding ipv4_part stripped measured seq_tail region padding
  ipv4_written =
      let zeros : List ℕ = replicate (46 - h.total) 0 in
      joined (canonical_header h) (data_octets ++ zeros) (head_written 65535 h fits) (joined data_octets zeros spelled_data refl)
      ∙ ap bits (sym (append_assoc (canonical_header h) data_octets zeros) ∙ ap (λ k. k ++ zeros) canonical_same ∙ ap (λ n. canonical_ipv4 v ++ replicate (46 - n) 0) (sym canonical_size))
