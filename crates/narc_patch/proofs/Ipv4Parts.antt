-- A frame of an IPv4 packet, in its parts and as a whole.
use Rattle.std.proofs.Common.{◌≡◌, ℕ, ◌+◌, ◌||◌, not, Bool, true, false, List, ◌++◌, length, take, drop, nat_eq, IsTrue, if◌then◌else◌, refl, sym, ap, ◌∙◌, subst, append_assoc, arith, length-append}
use Rattle.std.proofs.lemmas.List.{take_at, drop_at}
use Rattle.narc_bits.specs.Octets.{number_at}
use Rattle.narc_bits.specs.InternetSum.{IsGoodSum}
use Rattle.narc_packet.specs.PacketView.{Ipv4Body, Ipv4View, IpBodyView, UdpBody, TcpBody, RawBody}
use Rattle.narc_packet.specs.Ipv4.{IsIpv4, ipv4_header, is_fragment, protocol_of, MayHaveBody}
use Rattle.narc_packet.specs.Frame.{IsFrame}
use Rattle.narc_packet.specs.Refusal.{header_length, is_fragment_in}
use Rattle.narc_packet.proofs.Ipv4Fields.{header_size, length_in, protocol_in, fragment_in}
use Rattle.narc_patch.specs.declared.headers.Headers.{Headers}
use Rattle.narc_patch.specs.declared.headers.Headers.TheVariants.{Ipv4, Udp, Tcp}
use Rattle.narc_patch.specs.Patched.{headers_of_ipv4}
use Rattle.narc_patch.proofs.HeaderSteps.{IsIpv4Frame, ethernet, ethernet_size}

-- as a whole
pub ipv4_frame : (mac_dst mac_src : List ℕ) (start size : ℕ) (p : Ipv4View) (frame : List ℕ) → IsIpv4Frame mac_dst mac_src p.src p.dst start size p frame → IsFrame (record { dst = mac_dst; src = mac_src; body = Ipv4Body p }) frame
ipv4_frame mac_dst mac_src start size p frame f =
    let header = ipv4_header p f.sum (length f.area) (length f.content) in
    let octets = header ++ f.area ++ f.content in
    let whole : ethernet mac_dst mac_src ++ (header ++ (f.area ++ (f.content ++ f.pad))) ≡ ethernet mac_dst mac_src ++ (octets ++ f.pad) =
    ap (λ l. ethernet mac_dst mac_src ++ l) (sym (append_assoc (header ++ f.area) f.content f.pad ∙ append_assoc header f.area (f.content ++ f.pad)))
    in
    let header_is : take (20 + length f.area) octets ≡ header ++ f.area =
    take_at (header ++ f.area) f.content (20 + length f.area) (omega (arith, length-append header f.area, header_size p f.in_range.src f.in_range.dst (length f.area) (length f.content) f.sum))
    in
    let is : IsIpv4 p octets = record {
      sum = f.sum;
      area = f.area;
      content = f.content;
      layout = refl;
      options = f.options;
      fits = f.fits;
      checked = subst IsGoodSum (sym header_is) f.checked;
      may_have_body = f.may_have_body;
      body = f.body;
      in_range = f.in_range;
      sum_range = f.sum_range;
    }
    in
    record {
      content = octets ++ f.pad;
      layout = f.layout ∙ whole;
      body = (octets, f.pad, is, refl);
      dst = f.mac_dst_is;
      src = f.mac_src_is;
      octets = f.octets;
    }

module _ (mac_dst mac_src : List ℕ) (p : Ipv4View) (frame : List ℕ) (f : IsFrame (record { dst = mac_dst; src = mac_src; body = Ipv4Body p }) frame) where
  abbrev is : IsIpv4 p f.body.0
  is = f.body.2

  abbrev header : List ℕ
  header = ipv4_header p is.sum (length is.area) (length is.content)

  abbrev rest : List ℕ
  rest = is.area ++ (is.content ++ f.body.1)

  content_is : f.content ≡ header ++ rest
  content_is = f.body.3 ∙ ap (λ l. l ++ f.body.1) is.layout ∙ append_assoc (header ++ is.area) is.content f.body.1 ∙ append_assoc header is.area (is.content ++ f.body.1)

  frame_is : frame ≡ ethernet mac_dst mac_src ++ (header ++ rest)
  frame_is = f.layout ∙ ap (λ l. ethernet mac_dst mac_src ++ l) content_is

  -- what follows the Ethernet header
  behind_is : drop 14 frame ≡ header ++ rest
  behind_is = ap (drop 14) frame_is ∙ drop_at (ethernet mac_dst mac_src) (header ++ rest) 14 (ethernet_size mac_dst mac_src f.dst f.src)

  abbrev pub start : ℕ
  start = 14 + header_length (drop 14 frame)

  start_is : 34 + length is.area ≡ start
  start_is = omega (arith, ap header_length behind_is, length_in p is.sum (length is.area) (length is.content) rest is.options.whole_words is.options.bound)

  -- in its parts
  pub ipv4_parts : IsIpv4Frame mac_dst mac_src p.src p.dst start (length frame) p frame
  ipv4_parts =
      let header_there : take (20 + length is.area) f.body.0 ≡ header ++ is.area =
      ap (take (20 + length is.area)) is.layout
      ∙ take_at (header ++ is.area) is.content (20 + length is.area) (omega (arith, length-append header is.area, header_size p is.in_range.src is.in_range.dst (length is.area) (length is.content) is.sum))
      in
      record {
        sum = is.sum;
        area = is.area;
        content = is.content;
        pad = f.body.1;
        layout = frame_is;
        options = is.options;
        fits = is.fits;
        checked = subst IsGoodSum header_there is.checked;
        may_have_body = is.may_have_body;
        body = is.body;
        in_range = is.in_range;
        sum_range = is.sum_range;
        mac_dst_is = f.dst;
        mac_src_is = f.src;
        octets = f.octets;
        starts = start_is;
        as_long = refl;
      }

  -- the headers by the data
  abbrev pub headers_by : IpBodyView → Headers
  headers_by (UdpBody u) = Udp start
  headers_by (TcpBody t) = Tcp start
  headers_by (RawBody protocol payload) = Ipv4

  abbrev chosen : (fragment : Bool) → (protocol : ℕ) → Headers
  chosen fragment protocol =
      if fragment then Ipv4
      else if nat_eq protocol 17 then Udp start
      else if nat_eq protocol 6 then Tcp start
      else Ipv4

  raw : (fragment udp tcp : Bool) (a b c : Headers) → IsTrue (fragment || not (tcp || udp)) → (if fragment then a else if udp then b else if tcp then c else a) ≡ a
  raw true udp tcp a b c h = refl
  raw false false false a b c h = refl
  raw false true true a b c h = cc
  raw false true false a b c h = cc
  raw false false true a b c h = cc

  by_body : (fragment : Bool) (body : IpBodyView) → MayHaveBody fragment body → chosen fragment (protocol_of body) ≡ headers_by body
  by_body fragment (UdpBody u) h = ap (λ t. if t then Ipv4 else Udp start) h
  by_body fragment (TcpBody t) h = ap (λ b. if b then Ipv4 else Tcp start) h
  by_body fragment (RawBody protocol payload) h = raw fragment (nat_eq protocol 17) (nat_eq protocol 6) Ipv4 (Udp start) (Tcp start) h

  pub headers_are : headers_of_ipv4 (drop 14 frame) ≡ headers_by p.body
  headers_are =
      ap (λ t. chosen t (number_at (drop 14 frame) 9 1)) (ap is_fragment_in behind_is ∙ fragment_in p is.sum (length is.area) (length is.content) rest is.in_range.offset)
      ∙ ap (chosen (is_fragment p.mf p.offset)) (ap (λ x. number_at x 9 1) behind_is ∙ protocol_in p is.sum (length is.area) (length is.content) rest)
      ∙ by_body (is_fragment p.mf p.offset) p.body is.may_have_body
