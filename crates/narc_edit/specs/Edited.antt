-- A packet after assignments: each assigned field that it has is set to its value, and all others stay.
use Rattle.std.specs.Prelude.{unwrap_or}
use Rattle.narc_packet.specs.declared.packet.Arp.{Arp}
use Rattle.narc_packet.specs.PacketView.{PacketView, EthBodyView, ArpBody, Ipv4Body, OtherBody, Ipv4View, IpBodyView, UdpBody, TcpBody, RawBody, UdpView, TcpView}
use Rattle.narc_edit.specs.declared.edits.Edits.{Edits}

abbrev pub edited_arp : Edits → Arp → Arp
edited_arp es a = record {
  op = unwrap_or es.arp_op a.op;
  sender_mac = unwrap_or es.arp_sha a.sender_mac;
  sender_ip = unwrap_or es.arp_spa a.sender_ip;
  target_mac = unwrap_or es.arp_tha a.target_mac;
  target_ip = unwrap_or es.arp_tpa a.target_ip;
}

abbrev pub edited_udp : Edits → UdpView → UdpView
edited_udp es u = record u { sport = unwrap_or es.udp_sport u.sport; dport = unwrap_or es.udp_dport u.dport }

abbrev pub edited_tcp : Edits → TcpView → TcpView
edited_tcp es t = record t {
  sport = unwrap_or es.tcp_sport t.sport;
  dport = unwrap_or es.tcp_dport t.dport;
  seq = unwrap_or es.tcp_seq t.seq;
  ack = unwrap_or es.tcp_ack t.ack;
  reserved = unwrap_or es.tcp_reserved t.reserved;
  flags = unwrap_or es.tcp_flags t.flags;
  window = unwrap_or es.tcp_window t.window;
  urgent = unwrap_or es.tcp_urgent t.urgent;
}

abbrev pub edited_ip_body : Edits → IpBodyView → IpBodyView
edited_ip_body es (UdpBody u) = UdpBody (edited_udp es u)
edited_ip_body es (TcpBody t) = TcpBody (edited_tcp es t)
edited_ip_body es (RawBody protocol payload) = RawBody protocol payload

abbrev pub edited_ipv4 : Edits → Ipv4View → Ipv4View
edited_ipv4 es p = record p {
  tos = unwrap_or es.ip_tos p.tos;
  id = unwrap_or es.ip_id p.id;
  df = unwrap_or es.ip_df p.df;
  ttl = unwrap_or es.ip_ttl p.ttl;
  src = unwrap_or es.ip_src p.src;
  dst = unwrap_or es.ip_dst p.dst;
  body = edited_ip_body es p.body;
}

abbrev pub edited_eth_body : Edits → EthBodyView → EthBodyView
edited_eth_body es (ArpBody a) = ArpBody (edited_arp es a)
edited_eth_body es (Ipv4Body p) = Ipv4Body (edited_ipv4 es p)
edited_eth_body es (OtherBody ether_type payload) = OtherBody ether_type payload

-- each assigned field that the packet has is set to its value
abbrev pub edited : Edits → PacketView → PacketView
edited es p = record {
  dst = unwrap_or es.eth_dst p.dst;
  src = unwrap_or es.eth_src p.src;
  body = edited_eth_body es p.body;
}
