-- The text of a packet: words separated by one space.
use Rattle.std.specs.Prelude.{ℕ, List, [], ◌∷◌, ◌++◌, codes, decimal}
use Rattle.std.specs.List.{join_with_byte}
use Rattle.narc_packet.specs.PacketView.{PacketView, EthBodyView, ArpBody, Ipv4Body, OtherBody, Ipv4View, IpBodyView, UdpBody, TcpBody, RawBody}
use Rattle.narc_packet.specs.TextWords.{hex_word, mac_word, ip_word, fragment_marks, flags_word, ip_options_word, tcp_options_word}

abbrev pub spaced : List (List ℕ) → List ℕ
spaced words = join_with_byte 32 words

abbrev pub ip_body_words : IpBodyView → List (List ℕ)
ip_body_words (UdpBody u) = codes "udp" ∷ decimal u.sport ∷ decimal u.dport ∷ hex_word u.payload ∷ []
ip_body_words (TcpBody t) =
    codes "tcp" ∷ decimal t.sport ∷ decimal t.dport ∷ decimal t.seq ∷ decimal t.ack ∷ decimal t.reserved
    ∷ flags_word t.flags ∷ decimal t.window ∷ decimal t.urgent ∷ tcp_options_word t.options ∷ hex_word t.payload ∷ []
ip_body_words (RawBody protocol payload) = codes "raw" ∷ decimal protocol ∷ hex_word payload ∷ []

-- the words of an IPv4 header
abbrev pub ipv4_words : Ipv4View → List (List ℕ)
ipv4_words p =
    codes "ip4" ∷ decimal p.tos ∷ decimal p.id ∷ fragment_marks p.df p.mf ∷ decimal p.offset ∷ decimal p.ttl
    ∷ ip_word p.src ∷ ip_word p.dst ∷ ip_options_word p.options ∷ []

abbrev pub eth_body_words : EthBodyView → List (List ℕ)
eth_body_words (ArpBody a) =
    codes "arp" ∷ decimal a.op ∷ mac_word a.sender_mac ∷ ip_word a.sender_ip
    ∷ mac_word a.target_mac ∷ ip_word a.target_ip ∷ []
eth_body_words (Ipv4Body p) = ipv4_words p ++ ip_body_words p.body
eth_body_words (OtherBody ether_type payload) = codes "other" ∷ decimal ether_type ∷ hex_word payload ∷ []

abbrev pub packet_words : PacketView → List (List ℕ)
packet_words p = codes "eth" ∷ mac_word p.dst ∷ mac_word p.src ∷ eth_body_words p.body

abbrev pub text : PacketView → List ℕ
text p = spaced (packet_words p)
