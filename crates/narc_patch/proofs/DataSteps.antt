-- A frame of an IPv4 packet, by its parts, with other octets as its data.
use Rattle.std.proofs.Common.{◌≡◌, ℕ, ◌+◌, ◌/◌, ◌%◌, Bool, List, [], ◌∷◌, ◌++◌, length, sym, ap, ◌∙◌, subst, append_assoc, arith, length-append}
use Rattle.narc_bits.specs.Octets.{IsOctets, big_endian}
use Rattle.narc_bits.specs.InternetSum.{IsGoodSum}
use Rattle.narc_bits.proofs.Octets.{IsOctets-front, IsOctets-back}
use Rattle.narc_packet.specs.PacketView.{Ipv4View, IpBodyView}
use Rattle.narc_packet.specs.Ipv4.{IsIpBody, MayHaveBody, ipv4_header, is_fragment, fragment_word, protocol_of}
use Rattle.narc_packet.proofs.Ipv4Fields.{header_size}
use Rattle.narc_patch.proofs.HeaderSteps.{IsIpv4Frame, ethernet, ethernet_size}

-- the header for this protocol
abbrev header_for : Ipv4View → (protocol sum area_length content_length : ℕ) → List ℕ
header_for p protocol sum la lc =
    let h = 20 + la in
    ((64 + h / 4) ∷ p.tos ∷ []) ++ big_endian 2 (h + lc) ++ big_endian 2 p.id
    ++ big_endian 2 (fragment_word p) ++ (p.ttl ∷ protocol ∷ []) ++ big_endian 2 sum ++ p.src ++ p.dst

module _ (mac_dst mac_src src dst : List ℕ) (start whole : ℕ) (p : Ipv4View) (frame : List ℕ) (f : IsIpv4Frame mac_dst mac_src src dst start whole p frame) where
  abbrev header : List ℕ
  header = ipv4_header p f.sum (length f.area) (length f.content)

  -- what is before the data
  abbrev pub front : List ℕ
  front = ethernet mac_dst mac_src ++ (header ++ f.area)

  pub front_size : length front ≡ start
  front_size =
      let starts = f.starts in
      omega (arith, length-append (ethernet mac_dst mac_src) (header ++ f.area), length-append header f.area, ethernet_size mac_dst mac_src f.mac_dst_is f.mac_src_is, header_size p f.in_range.src f.in_range.dst (length f.area) (length f.content) f.sum, starts)

  joined : (l : List ℕ) → front ++ l ≡ ethernet mac_dst mac_src ++ (header ++ (f.area ++ l))
  joined l = append_assoc (ethernet mac_dst mac_src) (header ++ f.area) l ∙ ap (λ m. ethernet mac_dst mac_src ++ m) (append_assoc header f.area l)

  pub front_layout : frame ≡ front ++ (f.content ++ f.pad)
  front_layout = f.layout ∙ sym (joined (f.content ++ f.pad))

  pub content_each : IsOctets f.content
  content_each = IsOctets-front f.content f.pad (IsOctets-back front (f.content ++ f.pad) (subst IsOctets front_layout f.octets))

  pub even_start : start % 2 ≡ 0
  even_start = omega (arith, f.starts, f.options.whole_words)

  -- with other data of the same length and protocol, between other addresses
  module _ (next_src next_dst : List ℕ) (body : IpBodyView) (protocol : protocol_of body ≡ protocol_of p.body) (may : (t : Bool) → MayHaveBody t p.body → MayHaveBody t body) (content next : List ℕ) (size : length content ≡ length f.content) (is : IsIpBody next_src next_dst body content) (each : IsOctets next) (placed : next ≡ front ++ (content ++ f.pad)) where
    same_header : ipv4_header (record p { body = body }) f.sum (length f.area) (length content) ≡ header
    same_header = ap (λ n. header_for p n f.sum (length f.area) (length content)) protocol ∙ ap (ipv4_header p f.sum (length f.area)) size

    pub data_step : IsIpv4Frame mac_dst mac_src next_src next_dst start whole (record p { body = body }) next
    data_step = record {
      sum = f.sum;
      area = f.area;
      content = content;
      pad = f.pad;
      layout = placed ∙ joined (content ++ f.pad) ∙ ap (λ h. ethernet mac_dst mac_src ++ (h ++ (f.area ++ (content ++ f.pad)))) (sym same_header);
      options = f.options;
      fits = omega (arith, size, f.fits);
      checked = subst (λ h. IsGoodSum (h ++ f.area)) (sym same_header) f.checked;
      may_have_body = may (is_fragment p.mf p.offset) f.may_have_body;
      body = is;
      in_range = record { tos = f.in_range.tos; id = f.in_range.id; offset = f.in_range.offset; ttl = f.in_range.ttl; src = f.in_range.src; dst = f.in_range.dst };
      sum_range = f.sum_range;
      mac_dst_is = f.mac_dst_is;
      mac_src_is = f.mac_src_is;
      octets = each;
      starts = f.starts;
      as_long = ap length placed ∙ length-append front (content ++ f.pad) ∙ ap (λ n. length front + n) (length-append content f.pad ∙ ap (λ n. n + length f.pad) size ∙ sym (length-append f.content f.pad)) ∙ sym (length-append front (f.content ++ f.pad)) ∙ sym (ap length front_layout) ∙ f.as_long;
    }
