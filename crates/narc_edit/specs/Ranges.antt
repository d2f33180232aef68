-- Each assigned value lies in the range of its field. A law over all edits has this as a premise, since a variable of a
-- specification ranges over all numbers; of edits in hand it holds by their types.
use Rattle.std.specs.Prelude.{◌<◌, ◌^◌, IfSome}
use Rattle.narc_packet.specs.Ranges.{IsMac, IsIp}
use Rattle.narc_edit.specs.declared.edits.Edits.{Edits}

pub record AreInRange (es : Edits) : Type 0 where
  pub eth_dst : IfSome es.eth_dst IsMac
  pub eth_src : IfSome es.eth_src IsMac
  pub arp_op : IfSome es.arp_op (λ n. n < 2 ^ 16)
  pub arp_sha : IfSome es.arp_sha IsMac
  pub arp_spa : IfSome es.arp_spa IsIp
  pub arp_tha : IfSome es.arp_tha IsMac
  pub arp_tpa : IfSome es.arp_tpa IsIp
  pub ip_tos : IfSome es.ip_tos (λ n. n < 256)
  pub ip_id : IfSome es.ip_id (λ n. n < 2 ^ 16)
  pub ip_ttl : IfSome es.ip_ttl (λ n. n < 256)
  pub ip_src : IfSome es.ip_src IsIp
  pub ip_dst : IfSome es.ip_dst IsIp
  pub udp_sport : IfSome es.udp_sport (λ n. n < 2 ^ 16)
  pub udp_dport : IfSome es.udp_dport (λ n. n < 2 ^ 16)
  pub tcp_sport : IfSome es.tcp_sport (λ n. n < 2 ^ 16)
  pub tcp_dport : IfSome es.tcp_dport (λ n. n < 2 ^ 16)
  pub tcp_seq : IfSome es.tcp_seq (λ n. n < 2 ^ 32)
  pub tcp_ack : IfSome es.tcp_ack (λ n. n < 2 ^ 32)
  pub tcp_reserved : IfSome es.tcp_reserved (λ n. n < 64)
  pub tcp_flags : IfSome es.tcp_flags (λ n. n < 64)
  pub tcp_window : IfSome es.tcp_window (λ n. n < 2 ^ 16)
  pub tcp_urgent : IfSome es.tcp_urgent (λ n. n < 2 ^ 16)
