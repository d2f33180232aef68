-- What contracts see of a packet: its numbers, options and octets, without where the octets lie.
-- Two packets are the same exactly where their views are equal.
use Rattle.std.specs.Prelude.{ℕ, Bool, List}
use Rattle.narc_packet.specs.declared.packet.Arp.{Arp}
use Rattle.narc_packet.specs.Options.{IpOptionView, IpNop, IpOther, TcpOptionView, TcpNop, TcpMss, TcpScale, TcpSackOk, TcpSack, TcpTimes, TcpOther, ip_options_in, tcp_options_in, sack_blocks_in}
use Rattle.narc_packet.specs.declared.options.IpOption.{IpOption}
use Rattle.narc_packet.specs.declared.options.IpOption.TheVariants as in_ip
use Rattle.narc_packet.specs.declared.options.TcpOption.{TcpOption}
use Rattle.narc_packet.specs.declared.options.TcpOption.TheVariants as in_tcp
use Rattle.narc_packet.specs.declared.packet.Udp.{Udp}
use Rattle.narc_packet.specs.declared.packet.Tcp.{Tcp}
use Rattle.narc_packet.specs.declared.packet.IpBody.{IpBody}
use Rattle.narc_packet.specs.declared.packet.IpBody.TheVariants as ip_body
use Rattle.narc_packet.specs.declared.packet.Ipv4.{Ipv4}
use Rattle.narc_packet.specs.declared.packet.EthBody.{EthBody}
use Rattle.narc_packet.specs.declared.packet.EthBody.TheVariants as eth_body
use Rattle.narc_packet.specs.declared.packet.Packet.{Packet}

pub record UdpView : Type 0 where
  pub sport : ℕ
  pub dport : ℕ
  pub payload : List ℕ

pub record TcpView : Type 0 where
  pub sport : ℕ
  pub dport : ℕ
  pub seq : ℕ
  pub ack : ℕ
  pub reserved : ℕ
  pub flags : ℕ
  pub window : ℕ
  pub urgent : ℕ
  pub options : List TcpOptionView
  pub payload : List ℕ

pub data IpBodyView : Type 0 where
  UdpBody : UdpView → IpBodyView
  TcpBody : TcpView → IpBodyView
  RawBody : (protocol : ℕ) → (payload : List ℕ) → IpBodyView

pub record Ipv4View : Type 0 where
  pub tos : ℕ
  pub id : ℕ
  pub df : Bool
  pub mf : Bool
  pub offset : ℕ
  pub ttl : ℕ
  pub src : List ℕ
  pub dst : List ℕ
  pub options : List IpOptionView
  pub body : IpBodyView

pub data EthBodyView : Type 0 where
  ArpBody : Arp → EthBodyView
  Ipv4Body : Ipv4View → EthBodyView
  OtherBody : (ether_type : ℕ) → (payload : List ℕ) → EthBodyView

pub record PacketView : Type 0 where
  pub dst : List ℕ
  pub src : List ℕ
  pub body : EthBodyView

abbrev pub ip_option_view : IpOption → IpOptionView
ip_option_view in_ip.Nop = IpNop
ip_option_view (in_ip.Other kind octets) = IpOther kind octets.now

abbrev pub tcp_option_view : TcpOption → TcpOptionView
tcp_option_view in_tcp.Nop = TcpNop
tcp_option_view (in_tcp.Mss size) = TcpMss size
tcp_option_view (in_tcp.Scale shift) = TcpScale shift
tcp_option_view in_tcp.SackOk = TcpSackOk
tcp_option_view (in_tcp.Sack blocks) = TcpSack (sack_blocks_in blocks.spelled.now)
tcp_option_view (in_tcp.Times value echo) = TcpTimes value echo
tcp_option_view (in_tcp.Other kind octets) = TcpOther kind octets.now

abbrev pub udp_view : Udp → UdpView
udp_view u = record { sport = u.sport; dport = u.dport; payload = u.payload.now }

abbrev pub tcp_view : Tcp → TcpView
tcp_view t = record {
  sport = t.sport;
  dport = t.dport;
  seq = t.seq;
  ack = t.ack;
  reserved = t.reserved;
  flags = t.flags;
  window = t.window;
  urgent = t.urgent;
  options = tcp_options_in t.options.spelled.now;
  payload = t.payload.now;
}

abbrev pub ip_body_view : IpBody → IpBodyView
ip_body_view (ip_body.Udp u) = UdpBody (udp_view u)
ip_body_view (ip_body.Tcp t) = TcpBody (tcp_view t)
ip_body_view (ip_body.Raw protocol payload) = RawBody protocol payload.now

abbrev pub ipv4_view : Ipv4 → Ipv4View
ipv4_view p = record {
  tos = p.tos;
  id = p.id;
  df = p.df;
  mf = p.mf;
  offset = p.offset;
  ttl = p.ttl;
  src = p.src;
  dst = p.dst;
  options = ip_options_in p.options.spelled.now;
  body = ip_body_view p.body;
}

abbrev pub eth_body_view : EthBody → EthBodyView
eth_body_view (eth_body.Arp a) = ArpBody a
eth_body_view (eth_body.Ip p) = Ipv4Body (ipv4_view p)
eth_body_view (eth_body.Other ether_type payload) = OtherBody ether_type payload.now

-- the packet without where its octets lie
abbrev pub view : Packet → PacketView
view p = record { dst = p.dst; src = p.src; body = eth_body_view p.body }
