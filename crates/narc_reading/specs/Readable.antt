-- Packets that are read before it is asked whether they have a frame. Each number is in range, the options fit their area, and
-- the payload has at most so many octets.
use Rattle.std.specs.Prelude.{ℕ, ◌-◌, ◌*◌, ◌<◌, ◌≤◌, ◌^◌, List, length}
use Rattle.narc_packet.specs.declared.limits.TheConstants.{MAX_AREA}
use Rattle.narc_packet.specs.PacketView.{PacketView, EthBodyView, ArpBody, Ipv4Body, OtherBody, Ipv4View, IpBodyView, UdpBody, TcpBody, RawBody, UdpView, TcpView}
use Rattle.narc_packet.specs.Ranges.{IsMac, IsArpInRange, IsUdpInRange, IsTcpInRange}
use Rattle.narc_packet.specs.Ipv4.{IsIpv4InRange}
use Rattle.narc_reading.specs.Reading.{FitIpArea, FitTcpArea, IsWithin}

abbrev pub ip_payload : IpBodyView → List ℕ
ip_payload (UdpBody u) = u.payload
ip_payload (TcpBody t) = t.payload
ip_payload (RawBody protocol payload) = payload

pub record IsReadableUdp (most : ℕ) (u : UdpView) : Type 0 where
  pub in_range : IsUdpInRange u
  pub few : length u.payload ≤ most

pub record IsReadableTcp (most : ℕ) (t : TcpView) : Type 0 where
  pub in_range : IsTcpInRange t
  pub options : FitTcpArea t.options
  pub few : length t.payload ≤ most

pub record IsReadableRaw (most protocol : ℕ) (payload : List ℕ) : Type 0 where
  pub in_range : protocol < 2 ^ 8
  pub within : IsWithin most payload

abbrev pub IsReadableIpBody : (most : ℕ) → IpBodyView → Type 0
IsReadableIpBody most (UdpBody u) = IsReadableUdp most u
IsReadableIpBody most (TcpBody t) = IsReadableTcp most t
IsReadableIpBody most (RawBody protocol payload) = IsReadableRaw most protocol payload

pub record IsReadableIpv4 (most : ℕ) (p : Ipv4View) : Type 0 where
  pub in_range : IsIpv4InRange p
  pub options : FitIpArea p.options
  pub body : IsReadableIpBody (most - 2 * MAX_AREA) p.body

pub record IsReadableOther (most ether_type : ℕ) (payload : List ℕ) : Type 0 where
  pub in_range : ether_type < 2 ^ 16
  pub within : IsWithin most payload

abbrev pub IsReadableEthBody : (most : ℕ) → EthBodyView → Type 0
IsReadableEthBody most (ArpBody a) = IsArpInRange a
IsReadableEthBody most (Ipv4Body p) = IsReadableIpv4 most p
IsReadableEthBody most (OtherBody ether_type payload) = IsReadableOther most ether_type payload

pub record IsReadable (most : ℕ) (p : PacketView) : Type 0 where
  pub dst : IsMac p.dst
  pub src : IsMac p.src
  pub body : IsReadableEthBody most p.body
