-- How long the text of a packet is: no shorter than its frame, and no longer than its line may be.
use Rattle.std.proofs.Common.{◌≡◌, ℕ, ◌+◌, ◌-◌, ◌%◌, ◌<◌, ◌≤◌, List, [], ◌∷◌, ◌++◌, codes, decimal, length, replicate, refl, arith, length-append}
use Rattle.std.specs.Prelude.{flat_map}
use Rattle.std.proofs.lemmas.List.{length-replicate}
use Rattle.narc_packet.specs.PacketView.{PacketView, EthBodyView, ArpBody, Ipv4Body, OtherBody, Ipv4View, IpBodyView, UdpBody, TcpBody, RawBody}
use Rattle.narc_packet.specs.Options.{filled, ip_option, tcp_option, IsIpOption, IsTcpOption, ip_area}
use Rattle.narc_packet.specs.TextWords.{hex_word, mac_word, ip_word, fragment_marks, flags_word, ip_option_word, tcp_option_word, ip_options_word, tcp_options_word}
use Rattle.narc_packet.specs.WellFormed.{IsWellFormedIpBody, IsWellFormedIpv4, IsWellFormedEthBody, IsWellFormed, smallest_length}
use Rattle.narc_text.specs.PacketText.{spaced, ip_body_words, ipv4_words, eth_body_words, text}
use Rattle.narc_text.proofs.WordSizes.{hex-least, hex-some, hex-most, hex-within, mac-size, digits-some, digits-ten, digits-five, digits-three, ip-size, options-least, options-most, options-some, ip_option-least, ip_option-most, ip_option-some, tcp_option-least, tcp_option-most}

-- an area is its options, and at most three octets more, up to 40
pub record IsAreaSize (options area : List ℕ) : Type 0 where
  pub near : length area ≤ length options + 3
  pub bound : length area ≤ 40

area-size : (l : List ℕ) → length l ≤ 40 → IsAreaSize l (filled l)
area-size l few =
    let size : length (filled l) ≡ length l + (4 - length l % 4) % 4 = omega (arith, length-append l (replicate ((4 - length l % 4) % 4) 0), length-replicate {A = ℕ} ((4 - length l % 4) % 4) 0) in
    record { near = omega (arith, size); bound = omega (arith, size, few) }

-- ---- the body of an IPv4 packet

-- the shortest body has at most 16 octets more than its text
abbrev NearBody : IpBodyView → Type 0
NearBody b = smallest_length b ≤ length (spaced (ip_body_words b)) + 16

tcp-size : (sport dport seq ack reserved flags window urgent options payload : List ℕ)
    → length (spaced (codes "tcp" ∷ sport ∷ dport ∷ seq ∷ ack ∷ reserved ∷ flags ∷ window ∷ urgent ∷ options ∷ payload ∷ []))
    ≡ 13 + (length sport + (length dport + (length seq + (length ack + (length reserved + (length flags + (length window + (length urgent + (length options + length payload)))))))))
tcp-size sport dport seq ack reserved flags window urgent options payload = simp length-append (omega arith)

udp-size : (sport dport payload : List ℕ) → length (spaced (codes "udp" ∷ sport ∷ dport ∷ payload ∷ [])) ≡ 6 + (length sport + (length dport + length payload))
udp-size sport dport payload = simp length-append (omega arith)

raw-size : (word : List ℕ) (protocol payload : List ℕ) → length (spaced (word ∷ protocol ∷ payload ∷ [])) ≡ length word + (2 + (length protocol + length payload))
raw-size word protocol payload = simp length-append (omega arith)

flags-size : (flags : ℕ) → length (flags_word flags) ≡ 6
flags-size flags = refl

body-some : (b : IpBodyView) → 2 < length (spaced (ip_body_words b))
body-some (UdpBody u) = omega arith
body-some (TcpBody t) = omega arith
body-some (RawBody protocol payload) = omega arith

body-least : (b : IpBodyView) → IsWellFormedIpBody b → NearBody b
body-least (UdpBody u) w = omega (arith, udp-size (decimal u.sport) (decimal u.dport) (hex_word u.payload), digits-some u.sport (omega arith), digits-some u.dport (omega arith), hex-least u.payload)
body-least (TcpBody t) w =
    let in_range = w.0 in
    let spelled = flat_map tcp_option t.options in
    let area = area-size spelled (w.1).bound in
    let few : length spelled ≤ 40 = (w.1).bound in
    omega (
      arith,
      tcp-size (decimal t.sport) (decimal t.dport) (decimal t.seq) (decimal t.ack) (decimal t.reserved) (flags_word t.flags) (decimal t.window) (decimal t.urgent) (tcp_options_word t.options) (hex_word t.payload),
      digits-some t.sport (omega (arith, in_range.sport)),
      digits-some t.dport (omega (arith, in_range.dport)),
      digits-some t.seq in_range.seq,
      digits-some t.ack in_range.ack,
      digits-some t.reserved (omega (arith, in_range.reserved)),
      digits-some t.window (omega (arith, in_range.window)),
      digits-some t.urgent (omega (arith, in_range.urgent)),
      options-least tcp_option tcp_option_word IsTcpOption 2 tcp_option-least t.options (w.1).each,
      area.near,
      area.bound,
      flags-size t.flags,
      hex-least t.payload,
      hex-some t.payload,
    )
body-least (RawBody protocol payload) w = omega (arith, raw-size (codes "raw") (decimal protocol) (hex_word payload), hex-least payload)

body-most : (b : IpBodyView) → IsWellFormedIpBody b → smallest_length b ≤ 65535 → length (spaced (ip_body_words b)) ≤ 140000
body-most (UdpBody u) w few =
    omega (arith, udp-size (decimal u.sport) (decimal u.dport) (hex_word u.payload), digits-five u.sport w.sport, digits-five u.dport w.dport, hex-most u.payload)
body-most (TcpBody t) w few =
    let in_range = w.0 in
    let bound : length (flat_map tcp_option t.options) ≤ 40 = (w.1).bound in
    omega (
      arith,
      tcp-size (decimal t.sport) (decimal t.dport) (decimal t.seq) (decimal t.ack) (decimal t.reserved) (flags_word t.flags) (decimal t.window) (decimal t.urgent) (tcp_options_word t.options) (hex_word t.payload),
      digits-five t.sport in_range.sport,
      digits-five t.dport in_range.dport,
      digits-ten t.seq in_range.seq,
      digits-ten t.ack in_range.ack,
      digits-three t.reserved (omega (arith, in_range.reserved)),
      digits-five t.window in_range.window,
      digits-five t.urgent in_range.urgent,
      options-most tcp_option tcp_option_word IsTcpOption tcp_option-most t.options (w.1).each,
      hex-most t.payload,
    )
body-most (RawBody protocol payload) w few =
    omega (arith, raw-size (codes "raw") (decimal protocol) (hex_word payload), digits-three protocol w.0, hex-most payload)

-- ---- an IPv4 packet

ip4-size : (tos id marks offset ttl src dst options first : List ℕ) (words : List (List ℕ))
    → length (spaced (codes "ip4" ∷ tos ∷ id ∷ marks ∷ offset ∷ ttl ∷ src ∷ dst ∷ options ∷ first ∷ words))
    ≡ 12 + (length tos + (length id + (length marks + (length offset + (length ttl + (length src + (length dst + (length options + length (spaced (first ∷ words))))))))))
ip4-size tos id marks offset ttl src dst options first words = simp length-append (omega arith)

-- with any body
words-size : (p : Ipv4View) (b : IpBodyView) → length (spaced (ipv4_words p ++ ip_body_words b))
    ≡ 12 + (length (decimal p.tos) + (length (decimal p.id) + (2 + (length (decimal p.offset) + (length (decimal p.ttl) + (length (ip_word p.src) + (length (ip_word p.dst) + (length (ip_options_word p.options) + length (spaced (ip_body_words b))))))))))
words-size p (UdpBody u) =
    ip4-size (decimal p.tos) (decimal p.id) (fragment_marks p.df p.mf) (decimal p.offset) (decimal p.ttl) (ip_word p.src) (ip_word p.dst) (ip_options_word p.options) (codes "udp") (decimal u.sport ∷ decimal u.dport ∷ hex_word u.payload ∷ [])
words-size p (TcpBody t) =
    ip4-size (decimal p.tos) (decimal p.id) (fragment_marks p.df p.mf) (decimal p.offset) (decimal p.ttl) (ip_word p.src) (ip_word p.dst) (ip_options_word p.options) (codes "tcp")
    (decimal t.sport ∷ decimal t.dport ∷ decimal t.seq ∷ decimal t.ack ∷ decimal t.reserved ∷ flags_word t.flags ∷ decimal t.window ∷ decimal t.urgent ∷ tcp_options_word t.options ∷ hex_word t.payload ∷ [])
words-size p (RawBody protocol payload) =
    ip4-size (decimal p.tos) (decimal p.id) (fragment_marks p.df p.mf) (decimal p.offset) (decimal p.ttl) (ip_word p.src) (ip_word p.dst) (ip_options_word p.options) (codes "raw") (decimal protocol ∷ hex_word payload ∷ [])

-- the shortest packet has at most 12 octets more than its text
pub ip4-least : (p : Ipv4View) → IsWellFormedIpv4 p → 20 + length (ip_area p.options) + smallest_length p.body ≤ length (spaced (ipv4_words p ++ ip_body_words p.body)) + 12
ip4-least p w =
    let in_range = w.in_range in
    let spelled = flat_map ip_option p.options in
    let area = area-size spelled w.options.bound in
    omega (
      arith,
      words-size p p.body,
      digits-some p.tos (omega (arith, in_range.tos)),
      digits-some p.id (omega (arith, in_range.id)),
      digits-some p.offset (omega (arith, in_range.offset)),
      digits-some p.ttl (omega (arith, in_range.ttl)),
      (ip-size p.src in_range.src).least,
      (ip-size p.dst in_range.dst).least,
      options-least ip_option ip_option_word IsIpOption 1 ip_option-least p.options w.options.each,
      area.near,
      body-least p.body w.body,
    )

-- it has more octets than the smallest data of a frame needs
pub ip4-some : (p : Ipv4View) → IsWellFormedIpv4 p → 46 ≤ length (spaced (ipv4_words p ++ ip_body_words p.body)) + 12
ip4-some p w =
    let in_range = w.in_range in
    omega (
      arith,
      words-size p p.body,
      digits-some p.tos (omega (arith, in_range.tos)),
      digits-some p.id (omega (arith, in_range.id)),
      digits-some p.offset (omega (arith, in_range.offset)),
      digits-some p.ttl (omega (arith, in_range.ttl)),
      (ip-size p.src in_range.src).least,
      (ip-size p.dst in_range.dst).least,
      options-some ip_option_word ip_option-some p.options,
      body-some p.body,
    )

ip4-most : (p : Ipv4View) → IsWellFormedIpv4 p → length (spaced (ipv4_words p ++ ip_body_words p.body)) ≤ 141000
ip4-most p w =
    let in_range = w.in_range in
    let bound : length (flat_map ip_option p.options) ≤ 40 = w.options.bound in
    omega (
      arith,
      words-size p p.body,
      digits-three p.tos in_range.tos,
      digits-five p.id in_range.id,
      digits-five p.offset (omega (arith, in_range.offset)),
      digits-three p.ttl in_range.ttl,
      (ip-size p.src in_range.src).most,
      (ip-size p.dst in_range.dst).most,
      options-most ip_option ip_option_word IsIpOption ip_option-most p.options w.options.each,
      body-most p.body w.body (omega (arith, w.fits)),
    )

-- ---- the text of a packet

arp-size : (op sender_mac sender_ip target_mac target_ip : List ℕ) → length (spaced (codes "arp" ∷ op ∷ sender_mac ∷ sender_ip ∷ target_mac ∷ target_ip ∷ []))
    ≡ 8 + (length op + (length sender_mac + (length sender_ip + (length target_mac + length target_ip))))
arp-size op sender_mac sender_ip target_mac target_ip = simp length-append (omega arith)

-- the most octets that data in a frame has
abbrev pub content_size : EthBodyView → ℕ
content_size (ArpBody a) = 46
content_size (Ipv4Body p) = let n = 20 + length (ip_area p.options) + smallest_length p.body in n + (46 - n)
content_size (OtherBody t payload) = length payload

pub record IsContentText (b : EthBodyView) : Type 0 where
  pub least : content_size b ≤ length (spaced (eth_body_words b)) + 12
  pub most : length (spaced (eth_body_words b)) ≤ 524272

content-text : (b : EthBodyView) → IsWellFormedEthBody b → IsContentText b
content-text (ArpBody a) w =
    let is = arp-size (decimal a.op) (mac_word a.sender_mac) (ip_word a.sender_ip) (mac_word a.target_mac) (ip_word a.target_ip) in
    let sender = ip-size a.sender_ip w.sender_ip in
    let target = ip-size a.target_ip w.target_ip in
    record {
      least = omega (arith, is, mac-size a.sender_mac w.sender_mac, mac-size a.target_mac w.target_mac, sender.least, target.least);
      most = omega (arith, is, digits-five a.op w.op, mac-size a.sender_mac w.sender_mac, mac-size a.target_mac w.target_mac, sender.most, target.most);
    }
content-text (Ipv4Body p) w = record { least = omega (arith, ip4-least p w, ip4-some p w); most = omega (arith, ip4-most p w) }
content-text (OtherBody t payload) w =
    let is = raw-size (codes "other") (decimal t) (hex_word payload) in
    record {
      least = omega (arith, is, hex-least payload);
      most = omega (arith, is, digits-five t w.0, hex-within payload 262130 (omega (arith, w.3)) (omega arith));
    }

headed-size : (dst src first : List ℕ) (words : List (List ℕ)) → length (spaced (codes "eth" ∷ dst ∷ src ∷ first ∷ words)) ≡ 6 + (length dst + (length src + length (spaced (first ∷ words))))
headed-size dst src first words = simp length-append (omega arith)

pub text-size : (dst src : List ℕ) (b : EthBodyView) → length (spaced (codes "eth" ∷ dst ∷ src ∷ eth_body_words b)) ≡ 6 + (length dst + (length src + length (spaced (eth_body_words b))))
text-size dst src (ArpBody a) = headed-size dst src (codes "arp") (decimal a.op ∷ mac_word a.sender_mac ∷ ip_word a.sender_ip ∷ mac_word a.target_mac ∷ ip_word a.target_ip ∷ [])
text-size dst src (Ipv4Body p) =
    headed-size dst src (codes "ip4")
    (decimal p.tos ∷ decimal p.id ∷ fragment_marks p.df p.mf ∷ decimal p.offset ∷ decimal p.ttl ∷ ip_word p.src ∷ ip_word p.dst ∷ ip_options_word p.options ∷ ip_body_words p.body)
text-size dst src (OtherBody t payload) = headed-size dst src (codes "other") (decimal t ∷ hex_word payload ∷ [])

pub record IsTextSize (p : PacketView) : Type 0 where
  -- the text has at least 18 octets more than the data of the frame, and at most as many as a line has place for
  pub least : content_size p.body + 18 ≤ length (text p)
  pub most : length (text p) ≤ 524302

pub text-sized : (p : PacketView) → IsWellFormed p → IsTextSize p
text-sized p w =
    let is = text-size (mac_word p.dst) (mac_word p.src) p.body in
    let content = content-text p.body w.body in
    record {
      least = omega (arith, is, mac-size p.dst w.dst, mac-size p.src w.src, content.least);
      most = omega (arith, is, mac-size p.dst w.dst, mac-size p.src w.src, content.most);
    }
