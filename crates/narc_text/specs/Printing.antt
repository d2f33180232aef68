-- Printing by way of a page: what is printed is appended to the page, and the page goes to the sink when it is full.
use Rattle.std.specs.Prelude.{◌≡◌, ℕ, List, ◌++◌, codes, decimal, Option, Result, Ok, Err}
use Rattle.narc_packet.specs.PacketView.{Ipv4View, UdpView, TcpView}
use Rattle.narc_packet.specs.TextWords.{mac_word, ip_word, fragment_marks, flags_word}
use Rattle.narc_world.specs.declared.error.Failed.{Failed}
use Rattle.narc_world.specs.Outside.{Appends}

-- a front of what is gathered went to the sink, and the rest is on the page
pub record Passes (gathered page : List ℕ) (before after : Option (List ℕ)) : Type 0 where
  pub pushed : List ℕ
  pub appended : Appends pushed before after
  pub split : gathered ≡ pushed ++ page

-- a front of what is gathered went to the sink, which failed
pub record Stops (gathered : List ℕ) (before after : Option (List ℕ)) : Type 0 where
  pub pushed : List ℕ
  pub appended : Appends pushed before after
  pub lost : List ℕ
  pub split : gathered ≡ pushed ++ lost

-- the words that each packet's text begins with
abbrev pub addresses : (dst src : List ℕ) → List ℕ
addresses dst src = codes "eth " ++ mac_word dst ++ codes " " ++ mac_word src

-- an IPv4 header before its options
abbrev pub ipv4_front : Ipv4View → List ℕ
ipv4_front p =
    codes " ip4 " ++ decimal p.tos ++ codes " " ++ decimal p.id ++ codes " " ++ fragment_marks p.df p.mf ++ codes " "
    ++ decimal p.offset ++ codes " " ++ decimal p.ttl ++ codes " " ++ ip_word p.src ++ codes " " ++ ip_word p.dst ++ codes " "

-- a UDP header
abbrev pub udp_front : UdpView → List ℕ
udp_front u = codes " udp " ++ decimal u.sport ++ codes " " ++ decimal u.dport ++ codes " "

-- a TCP header before its options
abbrev pub tcp_front : TcpView → List ℕ
tcp_front t =
    codes " tcp " ++ decimal t.sport ++ codes " " ++ decimal t.dport ++ codes " " ++ decimal t.seq ++ codes " " ++ decimal t.ack ++ codes " "
    ++ decimal t.reserved ++ codes " " ++ flags_word t.flags ++ codes " " ++ decimal t.window ++ codes " " ++ decimal t.urgent ++ codes " "

-- a page, and these octets behind it, are gathered
abbrev pub IsPrinted : Result Unit Failed → (octets page page_after : List ℕ) → (before after : Option (List ℕ)) → Type 0
IsPrinted (Ok done) octets page page_after before after = Passes (page ++ octets) page_after before after
IsPrinted (Err e) octets page page_after before after = Stops (page ++ octets) before after
