-- The assignments that a `NarcEdits` is.
use Rattle.std.specs.Prelude.{ℕ, ◌/◌, ◌%◌, ◌<◌, nat_eq, Option, Some, None, if◌then◌else◌}
use Rattle.narc_edit.specs.declared.edits.Edits.{Edits}
use Rattle.narc_c.specs.declared.edits.NarcEdits.{NarcEdits}
use Rattle.narc_c.specs.declared.edits.TheConstants.{NARC_SET_ETH_DST, NARC_SET_ETH_SRC, NARC_SET_ARP_OP, NARC_SET_ARP_SHA, NARC_SET_ARP_SPA, NARC_SET_ARP_THA, NARC_SET_ARP_TPA, NARC_SET_IP_TOS, NARC_SET_IP_ID, NARC_SET_IP_DF, NARC_SET_IP_TTL, NARC_SET_IP_SRC, NARC_SET_IP_DST, NARC_SET_UDP_SPORT, NARC_SET_UDP_DPORT, NARC_SET_TCP_SPORT, NARC_SET_TCP_DPORT, NARC_SET_TCP_SEQ, NARC_SET_TCP_ACK, NARC_SET_TCP_RESERVED, NARC_SET_TCP_FLAGS, NARC_SET_TCP_WINDOW, NARC_SET_TCP_URGENT}

-- the value, where the bit of this weight is among those that are assigned
abbrev pub given : {V : Type 0} → (assigned weight : ℕ) → V → Option V
given assigned weight value = if nat_eq (assigned / weight % 2) 1 then Some value else None

abbrev pub edits_of : NarcEdits → Edits
edits_of es = record {
  eth_dst = given es.assigned NARC_SET_ETH_DST es.eth_dst;
  eth_src = given es.assigned NARC_SET_ETH_SRC es.eth_src;
  arp_op = given es.assigned NARC_SET_ARP_OP es.arp_op;
  arp_sha = given es.assigned NARC_SET_ARP_SHA es.arp_sha;
  arp_spa = given es.assigned NARC_SET_ARP_SPA es.arp_spa;
  arp_tha = given es.assigned NARC_SET_ARP_THA es.arp_tha;
  arp_tpa = given es.assigned NARC_SET_ARP_TPA es.arp_tpa;
  ip_tos = given es.assigned NARC_SET_IP_TOS es.ip_tos;
  ip_id = given es.assigned NARC_SET_IP_ID es.ip_id;
  ip_df = given es.assigned NARC_SET_IP_DF es.ip_df;
  ip_ttl = given es.assigned NARC_SET_IP_TTL es.ip_ttl;
  ip_src = given es.assigned NARC_SET_IP_SRC es.ip_src;
  ip_dst = given es.assigned NARC_SET_IP_DST es.ip_dst;
  udp_sport = given es.assigned NARC_SET_UDP_SPORT es.udp_sport;
  udp_dport = given es.assigned NARC_SET_UDP_DPORT es.udp_dport;
  tcp_sport = given es.assigned NARC_SET_TCP_SPORT es.tcp_sport;
  tcp_dport = given es.assigned NARC_SET_TCP_DPORT es.tcp_dport;
  tcp_seq = given es.assigned NARC_SET_TCP_SEQ es.tcp_seq;
  tcp_ack = given es.assigned NARC_SET_TCP_ACK es.tcp_ack;
  tcp_reserved = given es.assigned NARC_SET_TCP_RESERVED es.tcp_reserved;
  tcp_flags = given es.assigned NARC_SET_TCP_FLAGS es.tcp_flags;
  tcp_window = given es.assigned NARC_SET_TCP_WINDOW es.tcp_window;
  tcp_urgent = given es.assigned NARC_SET_TCP_URGENT es.tcp_urgent;
}

-- the values of six bits have six, assigned or not
abbrev pub HaveSixBits : NarcEdits → Type 0
HaveSixBits es = (es.tcp_reserved < 64) × (es.tcp_flags < 64)
