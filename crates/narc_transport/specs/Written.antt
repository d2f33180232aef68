-- Which datagrams and segments can be written in so many octets.
use Rattle.std.specs.Prelude.{ℕ, ◌+◌, ◌*◌, ◌≤◌, length}
use Rattle.narc_packet.specs.declared.limits.TheConstants.{MAX_LENGTH}
use Rattle.narc_packet.specs.Options.{AreTcpOptions}
use Rattle.narc_packet.specs.PacketView.{UdpView, tcp_view}
use Rattle.narc_packet.specs.Ranges.{IsUdpInRange, IsTcpInRange}
use Rattle.narc_packet.specs.Udp.{udp_length}
use Rattle.narc_sum.specs.declared.limits.TheConstants.{MAX_CHECKED}
use Rattle.narc_transport.specs.declared.as_tcp.TcpWithOffset.{TcpWithOffset}

-- header and payload fit the octets that are there, and the field of the length
pub record FitsUdp (there : ℕ) (u : UdpView) : Type 0 where
  pub in_range : IsUdpInRange u
  pub short : udp_length u ≤ MAX_LENGTH
  pub fits : udp_length u ≤ there

-- The options fit the area that the offset leaves behind 20 octets, and the header the octets that are there.
pub record FitsTcp (there : ℕ) (s : TcpWithOffset) : Type 0 where
  pub in_range : IsTcpInRange (tcp_view s.tcp)
  pub spelled : AreTcpOptions s.tcp.options.spelled.now
  pub options : 20 + length s.tcp.options.spelled.now ≤ 4 * s.offset
  pub most : s.offset ≤ 15
  pub fits : 4 * s.offset ≤ there
  pub short : 4 * s.offset + length s.tcp.payload.now ≤ MAX_CHECKED
