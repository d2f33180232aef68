-- The packets of a trial, each made from a number below 2 ^ 32.
use Rattle.std.specs.Prelude.{ℕ, ◌+◌, ◌-◌, ◌/◌, ◌%◌, ◌^◌, Bool, true, false, List, [], ◌∷◌, ◌++◌, map, nat_eq, if◌then◌else◌}
use Rattle.std.specs.List.{range_with_len}
use Rattle.narc_bits.specs.Octets.{big_endian}
use Rattle.narc_packet.specs.declared.packet.Arp.{Arp}
use Rattle.narc_packet.specs.Options.{IpOptionView, IpNop, IpOther, TcpOptionView, TcpNop, TcpMss}
use Rattle.narc_packet.specs.PacketView.{PacketView, EthBodyView, ArpBody, Ipv4Body, OtherBody, Ipv4View, IpBodyView, UdpBody, TcpBody, RawBody, UdpView, TcpView}

-- so many octets, each one more than the one before, from this number on
abbrev pub counting : (count number : ℕ) → List ℕ
counting count number = map (λ j. (number + j) % 256) (range_with_len 0 count)

abbrev pub payload_of : ℕ → List ℕ
payload_of k = counting (k % 1400) k

-- hardware addresses, which are administered locally
abbrev pub dst_mac : ℕ → List ℕ
dst_mac k = 2 ∷ 0 ∷ big_endian 4 k

abbrev pub src_mac : ℕ → List ℕ
src_mac k = 2 ∷ 1 ∷ big_endian 4 k

-- addresses of the network 10.0.0.0/8: the source's host counts up, and the destination's down
abbrev pub src_ip : ℕ → List ℕ
src_ip k = big_endian 4 (0x0a000000 + k % 2 ^ 24)

abbrev pub dst_ip : ℕ → List ℕ
dst_ip k = big_endian 4 (0x0affffff - k % 2 ^ 24)

abbrev pub source_port : ℕ → ℕ
source_port k = k % 65536

abbrev pub destination_port : ℕ → ℕ
destination_port k = (k + 1) % 65536

-- none, no operation, or another option of two octets 0
abbrev pub ip_options : ℕ → List IpOptionView
ip_options k =
    if nat_eq (k % 3) 0 then []
    else if nat_eq (k % 3) 1 then IpNop ∷ []
    else IpOther 148 (0 ∷ 0 ∷ []) ∷ []

-- a maximum segment size and no operation, or none
abbrev pub tcp_options : ℕ → List TcpOptionView
tcp_options k = if nat_eq (k % 2) 0 then TcpMss (k % 65536) ∷ TcpNop ∷ [] else []

-- the octets of the maximum segment size and of no operation
abbrev pub segment_size_octets : ℕ → List ℕ
segment_size_octets k = 2 ∷ 4 ∷ big_endian 2 (k % 65536) ++ 1 ∷ []

abbrev pub arp : ℕ → Arp
arp k = record {
  op = 1 + k % 2;
  sender_mac = src_mac k;
  sender_ip = src_ip k;
  target_mac = dst_mac k;
  target_ip = dst_ip k;
}

abbrev pub udp : ℕ → UdpView
udp k = record { sport = source_port k; dport = destination_port k; payload = payload_of k }

abbrev pub tcp : ℕ → TcpView
tcp k = record {
  sport = source_port k;
  dport = destination_port k;
  seq = k;
  ack = (k + 1) % 2 ^ 32;
  reserved = k % 64;
  flags = k / 64 % 64;
  window = k % 65536;
  urgent = 0;
  options = tcp_options k;
  payload = payload_of k;
}

abbrev pub ipv4 : ℕ → (mf : Bool) → (offset : ℕ) → IpBodyView → Ipv4View
ipv4 k mf offset body = record {
  tos = k % 256;
  id = k % 65536;
  df = false;
  mf = mf;
  offset = offset;
  ttl = 1 + k % 255;
  src = src_ip k;
  dst = dst_ip k;
  options = ip_options k;
  body = body;
}

-- each kind of body in turn; the last is a fragment of a UDP datagram
abbrev pub eth_body : ℕ → EthBodyView
eth_body k =
    if nat_eq (k % 5) 0 then ArpBody (arp k)
    else if nat_eq (k % 5) 1 then OtherBody 34997 (payload_of k)
    else if nat_eq (k % 5) 2 then Ipv4Body (ipv4 k false 0 (UdpBody (udp k)))
    else if nat_eq (k % 5) 3 then Ipv4Body (ipv4 k false 0 (TcpBody (tcp k)))
    else Ipv4Body (ipv4 k true (k % 8192) (RawBody 17 (payload_of k)))

-- the packet of this number
unfoldable pub made : ℕ → PacketView
made k = record { dst = dst_mac k; src = src_mac k; body = eth_body k }
