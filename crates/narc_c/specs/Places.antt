-- Where a packet's options and payload lie in its frame.
use Rattle.std.specs.Prelude.{◌≡◌, ℕ, ◌+◌, ◌*◌, ◌/◌, ◌%◌, List, length, take, drop, slice_index_or}
use Rattle.narc_packet.specs.declared.packet.IpBody.{IpBody}
use Rattle.narc_packet.specs.declared.packet.IpBody.TheVariants as ip_body
use Rattle.narc_packet.specs.declared.packet.Ipv4.{Ipv4}
use Rattle.narc_packet.specs.declared.packet.EthBody.{EthBody}
use Rattle.narc_packet.specs.declared.packet.EthBody.TheVariants as eth_body

-- the octets have this part there
abbrev pub LiesAt : (octets : List ℕ) → (at : ℕ) → (part : List ℕ) → Type 0
LiesAt octets at part = take (length part) (drop at octets) ≡ part

-- where the data of an IPv4 packet begins, by its header's length
abbrev pub ipv4_data_at : (frame : List ℕ) → ℕ
ipv4_data_at frame = 14 + slice_index_or frame 14 0 % 16 * 4

-- where the data of a TCP segment begins, by its data offset
abbrev pub tcp_data_at : (frame : List ℕ) → (at : ℕ) → ℕ
tcp_data_at frame at = at + slice_index_or frame (at + 12) 0 / 16 * 4

abbrev pub IpBodyLies : (frame : List ℕ) → (at : ℕ) → IpBody → Type 0
IpBodyLies frame at (ip_body.Udp u) = LiesAt frame (at + 8) u.payload.now
IpBodyLies frame at (ip_body.Tcp t) = LiesAt frame (at + 20) t.options.spelled.now × LiesAt frame (tcp_data_at frame at) t.payload.now
IpBodyLies frame at (ip_body.Raw protocol payload) = LiesAt frame at payload.now

abbrev pub Ipv4Lies : (frame : List ℕ) → Ipv4 → Type 0
Ipv4Lies frame p = LiesAt frame 34 p.options.spelled.now × IpBodyLies frame (ipv4_data_at frame) p.body

abbrev pub EthBodyLies : (frame : List ℕ) → EthBody → Type 0
EthBodyLies frame (eth_body.Arp a) = Unit {0}
EthBodyLies frame (eth_body.Ip p) = Ipv4Lies frame p
EthBodyLies frame (eth_body.Other ether_type payload) = LiesAt frame 14 payload.now
