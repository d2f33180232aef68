-- The text of a packet, part by part.
use Rattle.std.proofs.Common.{◌≡◌, ℕ, List, [], ◌∷◌, ◌++◌, length, get_or, codes, decimal, append_assoc, arith}
use Rattle.narc_packet.specs.declared.packet.Arp.{Arp}
use Rattle.narc_packet.specs.PacketView.{PacketView, EthBodyView, ArpBody, Ipv4Body, OtherBody, Ipv4View, IpBodyView, UdpBody, TcpBody, RawBody, UdpView, TcpView}
use Rattle.narc_packet.specs.TextWords.{hex_word, mac_word, ip_word, ip_options_word, tcp_options_word}
use Rattle.narc_text.specs.Printing.{addresses, ipv4_front, udp_front, tcp_front}
use Rattle.narc_text.specs.PacketText.{ipv4_words, ip_body_words, eth_body_words, spaced, text}

text_of : (dst src : List ℕ) (body : EthBodyView) → text (record { dst = dst; src = src; body = body }) ≡ addresses dst src ++ (codes " " ++ spaced (eth_body_words body))
text_of dst src (ArpBody a) = simp append_assoc
text_of dst src (Ipv4Body p) = simp append_assoc
text_of dst src (OtherBody ether_type payload) = simp append_assoc

pub text-parts : (p : PacketView) → text p ≡ addresses p.dst p.src ++ (codes " " ++ spaced (eth_body_words p.body))
text-parts p = text_of p.dst p.src p.body

-- data of a type that is kept unread, before and behind its payload
pub other-front : (page : List ℕ) (ether_type : ℕ)
    → ((page ++ codes " other ") ++ decimal ether_type) ++ codes " " ≡ page ++ (codes " other " ++ (decimal ether_type ++ codes " "))
other-front page ether_type = simp append_assoc

pub other-parts : (ether_type : ℕ) (payload : List ℕ)
    → (codes " other " ++ (decimal ether_type ++ codes " ")) ++ hex_word payload ≡ codes " " ++ spaced (eth_body_words (OtherBody ether_type payload))
other-parts ether_type payload = simp append_assoc

-- an IPv4 address, number by number
pub ip_word-parts : (page address : List ℕ) → length address ≡ 4
    → ((((((page ++ decimal (get_or address 0 0)) ++ codes ".") ++ decimal (get_or address 1 0)) ++ codes ".") ++ decimal (get_or address 2 0)) ++ codes ".") ++ decimal (get_or address 3 0)
    ≡ page ++ ip_word address
ip_word-parts page (a ∷ b ∷ c ∷ d ∷ []) size = simp append_assoc
ip_word-parts page [] size = absurd (omega arith)
ip_word-parts page (a ∷ []) size = absurd (omega arith)
ip_word-parts page (a ∷ b ∷ []) size = absurd (omega arith)
ip_word-parts page (a ∷ b ∷ c ∷ []) size = absurd (omega arith)
ip_word-parts page (a ∷ b ∷ c ∷ d ∷ e ∷ l) size = absurd (omega arith)

-- an ARP packet, word by word
pub arp-parts : (page : List ℕ) (a : Arp)
    → ((((((((page ++ codes " arp ") ++ decimal a.op) ++ codes " ") ++ mac_word a.sender_mac) ++ codes " ") ++ ip_word a.sender_ip) ++ codes " ") ++ mac_word a.target_mac) ++ codes " " ++ ip_word a.target_ip
    ≡ page ++ (codes " " ++ spaced (eth_body_words (ArpBody a)))
arp-parts page a = simp append_assoc

-- an IPv4 packet: its header before the options, the options, and what it carries
ipv4-body : (p : Ipv4View) (body : IpBodyView)
    → codes " " ++ spaced (ipv4_words p ++ ip_body_words body) ≡ ipv4_front p ++ (ip_options_word p.options ++ (codes " " ++ spaced (ip_body_words body)))
ipv4-body p (UdpBody u) = simp append_assoc
ipv4-body p (TcpBody t) = simp append_assoc
ipv4-body p (RawBody protocol payload) = simp append_assoc

pub ipv4-parts : (p : Ipv4View)
    → codes " " ++ spaced (eth_body_words (Ipv4Body p)) ≡ ipv4_front p ++ (ip_options_word p.options ++ (codes " " ++ spaced (ip_body_words p.body)))
ipv4-parts p = ipv4-body p p.body

-- what it carries, before and behind its payload
pub udp-parts : (u : UdpView) → codes " " ++ spaced (ip_body_words (UdpBody u)) ≡ udp_front u ++ hex_word u.payload
udp-parts u = simp append_assoc

pub tcp-parts : (t : TcpView)
    → codes " " ++ spaced (ip_body_words (TcpBody t)) ≡ tcp_front t ++ (tcp_options_word t.options ++ (codes " " ++ hex_word t.payload))
tcp-parts t = simp append_assoc

pub raw-front : (page : List ℕ) (protocol : ℕ)
    → ((page ++ codes " raw ") ++ decimal protocol) ++ codes " " ≡ page ++ (codes " raw " ++ (decimal protocol ++ codes " "))
raw-front page protocol = simp append_assoc

pub raw-parts : (protocol : ℕ) (payload : List ℕ)
    → codes " " ++ spaced (ip_body_words (RawBody protocol payload)) ≡ (codes " raw " ++ (decimal protocol ++ codes " ")) ++ hex_word payload
raw-parts protocol payload = simp append_assoc
