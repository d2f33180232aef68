-- The packet that a `NarcPacket` is, together with the octets in which its options and payload lie.
use Rattle.std.specs.Prelude.{◌≡◌, ℕ, Bool, ◌||◌, List, [], take, drop, nat_eq, Ok, Err, if◌then◌else◌}
use Rattle.narc_packet.specs.PacketView.{PacketView, EthBodyView, ArpBody, Ipv4Body, OtherBody, Ipv4View, IpBodyView, UdpBody, TcpBody, RawBody, UdpView, TcpView}
use Rattle.narc_packet.specs.Options.{ip_options_in, tcp_options_in, AreIpOptions, AreTcpOptions}
use Rattle.narc_packet.specs.Answer.{Answer, IsOnlyAnswer}
use Rattle.narc_c.specs.Verdict.{code_of, place_of}
use Rattle.narc_packet.specs.WellFormed.{IsWellFormed}
use Rattle.narc_packet.specs.declared.packet.Arp.{Arp}
use Rattle.narc_c.specs.declared.packet.NarcArp.{NarcArp}
use Rattle.narc_c.specs.declared.packet.NarcSpan.{NarcSpan}
use Rattle.narc_c.specs.declared.packet.NarcPacket.{NarcPacket}
use Rattle.narc_c.specs.declared.packet.TheConstants.{NARC_ARP, NARC_UDP, NARC_TCP, NARC_RAW}

-- the octets of a span
abbrev pub octets_of : (octets : List ℕ) → NarcSpan → List ℕ
octets_of octets s = take s.len (drop s.at octets)

abbrev pub arp_of : NarcArp → Arp
arp_of a = record { op = a.op; sender_mac = a.sender_mac; sender_ip = a.sender_ip; target_mac = a.target_mac; target_ip = a.target_ip }

abbrev pub udp_in : (octets : List ℕ) → NarcPacket → UdpView
udp_in octets p = record { sport = p.udp.sport; dport = p.udp.dport; payload = octets_of octets p.payload }

abbrev pub tcp_in : (octets : List ℕ) → NarcPacket → TcpView
tcp_in octets p = record {
  sport = p.tcp.sport;
  dport = p.tcp.dport;
  seq = p.tcp.seq;
  ack = p.tcp.ack;
  reserved = p.tcp.reserved;
  flags = p.tcp.flags;
  window = p.tcp.window;
  urgent = p.tcp.urgent;
  options = tcp_options_in (octets_of octets p.tcp.options);
  payload = octets_of octets p.payload;
}

abbrev pub ip_body_in : (octets : List ℕ) → NarcPacket → IpBodyView
ip_body_in octets p =
    if nat_eq p.body NARC_UDP then UdpBody (udp_in octets p)
    else if nat_eq p.body NARC_TCP then TcpBody (tcp_in octets p)
    else RawBody p.ip.protocol (octets_of octets p.payload)

abbrev pub ipv4_in : (octets : List ℕ) → NarcPacket → Ipv4View
ipv4_in octets p = record {
  tos = p.ip.tos;
  id = p.ip.id;
  df = p.ip.df;
  mf = p.ip.mf;
  offset = p.ip.offset;
  ttl = p.ip.ttl;
  src = p.ip.src;
  dst = p.ip.dst;
  options = ip_options_in (octets_of octets p.ip.options);
  body = ip_body_in octets p;
}

abbrev pub eth_body_in : (octets : List ℕ) → NarcPacket → EthBodyView
eth_body_in octets p =
    if nat_eq p.body NARC_ARP then ArpBody (arp_of p.arp)
    else if nat_eq p.body NARC_UDP then Ipv4Body (ipv4_in octets p)
    else if nat_eq p.body NARC_TCP then Ipv4Body (ipv4_in octets p)
    else if nat_eq p.body NARC_RAW then Ipv4Body (ipv4_in octets p)
    else OtherBody p.ether_type (octets_of octets p.payload)

-- the packet with these octets
abbrev pub view_in : (octets : List ℕ) → NarcPacket → PacketView
view_in octets p = record { dst = p.dst; src = p.src; body = eth_body_in octets p }

-- an answer's packet is told, with the frame's octets
abbrev pub IsTold : (octets : List ℕ) → NarcPacket → Answer → Type 0
IsTold octets told (Ok p) = view_in octets told ≡ p
IsTold octets told (Err r) = Unit {0}

abbrev pub is_ipv4 : (body : ℕ) → Bool
is_ipv4 body = nat_eq body NARC_UDP || nat_eq body NARC_TCP || nat_eq body NARC_RAW

-- the octets of the options, none where the packet has no such header
abbrev pub ip_spelled_in : (octets : List ℕ) → NarcPacket → List ℕ
ip_spelled_in octets p = if is_ipv4 p.body then octets_of octets p.ip.options else []

abbrev pub tcp_spelled_in : (octets : List ℕ) → NarcPacket → List ℕ
tcp_spelled_in octets p = if nat_eq p.body NARC_TCP then octets_of octets p.tcp.options else []

-- the options are spelled by their octets, and nothing else is
abbrev pub SpelledIn : (octets : List ℕ) → NarcPacket → Type 0
SpelledIn octets p = AreIpOptions (ip_spelled_in octets p) × AreTcpOptions (tcp_spelled_in octets p)

-- the packet has a frame
abbrev pub HasFrame : (octets : List ℕ) → NarcPacket → Type 0
HasFrame octets p = IsWellFormed (view_in octets p) × SpelledIn octets p

-- the code, the place and the packet of the only right answer for these octets
pub record IsDecoded (octets : List ℕ) (packet : NarcPacket) (told place : ℕ) : Type 0 where
  pub answer : Answer
  pub only : IsOnlyAnswer octets answer
  pub code : told ≡ code_of answer
  pub at : place ≡ place_of answer
  pub seen : IsTold octets packet answer
