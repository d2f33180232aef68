-- A packet with assigned fields stays well formed.
use Rattle.std.proofs.Common.{◌≡◌, ℕ, ◌<◌, ◌^◌, Bool, List, Option, Some, None, refl}
use Rattle.std.specs.Prelude.{unwrap_or, IfSome}
use Rattle.narc_packet.specs.declared.packet.Arp.{Arp}
use Rattle.narc_packet.specs.PacketView.{PacketView, EthBodyView, ArpBody, Ipv4Body, OtherBody, Ipv4View, IpBodyView, UdpBody, TcpBody, RawBody, UdpView, TcpView}
use Rattle.narc_packet.specs.Ranges.{IsMac, IsIp, IsArpInRange, IsUdpInRange, IsTcpInRange}
use Rattle.narc_packet.specs.Ipv4.{MayHaveBody}
use Rattle.narc_packet.specs.WellFormed.{IsWellFormed, IsWellFormedEthBody, IsWellFormedIpv4, IsWellFormedIpBody, smallest_length}
use Rattle.narc_edit.specs.declared.edits.Edits.{Edits}
use Rattle.narc_edit.specs.Ranges.{AreInRange}
use Rattle.narc_edit.specs.Edited.{edited, edited_arp, edited_udp, edited_tcp, edited_ip_body, edited_ipv4, edited_eth_body}

-- what holds of a value and of what stands where there is none
chosen : {V : Type 0} (P : V → Type 0) (o : Option V) (v : V) → IfSome o P → P v → P (unwrap_or o v)
chosen P (Some w) v given before = given
chosen P None v given before = before

chosen_mac : (o : Option (List ℕ)) (address : List ℕ) → IfSome o IsMac → IsMac address → IsMac (unwrap_or o address)
chosen_mac = chosen IsMac

chosen_ip : (o : Option (List ℕ)) (address : List ℕ) → IfSome o IsIp → IsIp address → IsIp (unwrap_or o address)
chosen_ip = chosen IsIp

chosen_below : (bound : ℕ) (o : Option ℕ) (n : ℕ) → IfSome o (λ m. m < bound) → n < bound → unwrap_or o n < bound
chosen_below bound = chosen (λ m. m < bound)

arp_in_range : (es : Edits) (a : Arp) → AreInRange es → IsArpInRange a → IsArpInRange (edited_arp es a)
arp_in_range es a given before = record {
  op = chosen_below (2 ^ 16) es.arp_op a.op given.arp_op before.op;
  sender_mac = chosen_mac es.arp_sha a.sender_mac given.arp_sha before.sender_mac;
  sender_ip = chosen_ip es.arp_spa a.sender_ip given.arp_spa before.sender_ip;
  target_mac = chosen_mac es.arp_tha a.target_mac given.arp_tha before.target_mac;
  target_ip = chosen_ip es.arp_tpa a.target_ip given.arp_tpa before.target_ip;
}

udp_in_range : (es : Edits) (u : UdpView) → AreInRange es → IsUdpInRange u → IsUdpInRange (edited_udp es u)
udp_in_range es u given before = record {
  sport = chosen_below (2 ^ 16) es.udp_sport u.sport given.udp_sport before.sport;
  dport = chosen_below (2 ^ 16) es.udp_dport u.dport given.udp_dport before.dport;
  payload = before.payload;
}

tcp_in_range : (es : Edits) (t : TcpView) → AreInRange es → IsTcpInRange t → IsTcpInRange (edited_tcp es t)
tcp_in_range es t given before = record {
  sport = chosen_below (2 ^ 16) es.tcp_sport t.sport given.tcp_sport before.sport;
  dport = chosen_below (2 ^ 16) es.tcp_dport t.dport given.tcp_dport before.dport;
  seq = chosen_below (2 ^ 32) es.tcp_seq t.seq given.tcp_seq before.seq;
  ack = chosen_below (2 ^ 32) es.tcp_ack t.ack given.tcp_ack before.ack;
  reserved = chosen_below 64 es.tcp_reserved t.reserved given.tcp_reserved before.reserved;
  flags = chosen_below 64 es.tcp_flags t.flags given.tcp_flags before.flags;
  window = chosen_below (2 ^ 16) es.tcp_window t.window given.tcp_window before.window;
  urgent = chosen_below (2 ^ 16) es.tcp_urgent t.urgent given.tcp_urgent before.urgent;
  payload = before.payload;
}

ip_body_well_formed : (es : Edits) (b : IpBodyView) → AreInRange es → IsWellFormedIpBody b → IsWellFormedIpBody (edited_ip_body es b)
ip_body_well_formed es (UdpBody u) given before = udp_in_range es u given before
ip_body_well_formed es (TcpBody t) given before = (tcp_in_range es t given before.0, before.1)
ip_body_well_formed es (RawBody protocol payload) given before = before

-- an edit changes no kind and no length
may_have_edited_body : (es : Edits) (fragment : Bool) (b : IpBodyView) → MayHaveBody fragment b → MayHaveBody fragment (edited_ip_body es b)
may_have_edited_body es fragment (UdpBody u) h = h
may_have_edited_body es fragment (TcpBody t) h = h
may_have_edited_body es fragment (RawBody protocol payload) h = h

smallest_length-edited : (es : Edits) (b : IpBodyView) → smallest_length (edited_ip_body es b) ≡ smallest_length b
smallest_length-edited es (UdpBody u) = refl
smallest_length-edited es (TcpBody t) = refl
smallest_length-edited es (RawBody protocol payload) = refl

ipv4_well_formed : (es : Edits) (p : Ipv4View) → AreInRange es → IsWellFormedIpv4 p → IsWellFormedIpv4 (edited_ipv4 es p)
ipv4_well_formed es p given before = record {
  in_range = record {
    tos = chosen_below 256 es.ip_tos p.tos given.ip_tos before.in_range.tos;
    id = chosen_below (2 ^ 16) es.ip_id p.id given.ip_id before.in_range.id;
    offset = before.in_range.offset;
    ttl = chosen_below 256 es.ip_ttl p.ttl given.ip_ttl before.in_range.ttl;
    src = chosen_ip es.ip_src p.src given.ip_src before.in_range.src;
    dst = chosen_ip es.ip_dst p.dst given.ip_dst before.in_range.dst;
  };
  options = before.options;
  may_have_body = may_have_edited_body es _ p.body before.may_have_body;
  body = ip_body_well_formed es p.body given before.body;
  fits = rw (smallest_length-edited es p.body) before.fits;
}

eth_body_well_formed : (es : Edits) (b : EthBodyView) → AreInRange es → IsWellFormedEthBody b → IsWellFormedEthBody (edited_eth_body es b)
eth_body_well_formed es (ArpBody a) given before = arp_in_range es a given before
eth_body_well_formed es (Ipv4Body p) given before = ipv4_well_formed es p given before
eth_body_well_formed es (OtherBody ether_type payload) given before = before

pub edited_is_well_formed : (es : Edits) (p : PacketView) → AreInRange es → IsWellFormed p → IsWellFormed (edited es p)
edited_is_well_formed es p given before = record {
  dst = chosen_mac es.eth_dst p.dst given.eth_dst before.dst;
  src = chosen_mac es.eth_src p.src given.eth_src before.src;
  body = eth_body_well_formed es p.body given before.body;
}
