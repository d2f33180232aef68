-- The octets of a segment with its offset.
use Rattle.std.specs.Prelude.{◌≡◌, ℕ, ◌+◌, ◌*◌, List, length}
use Rattle.narc_packet.specs.Options.{AreTcpOptions}
use Rattle.narc_packet.specs.PacketView.{tcp_view}
use Rattle.narc_packet.specs.Tcp.{IsTcp}
use Rattle.narc_transport.specs.declared.as_tcp.TcpWithOffset.{TcpWithOffset}

-- The octets are the segment, its offset tells the length of the header, and its options are spelled and nothing else.
pub record IsSegment (src dst : List ℕ) (s : TcpWithOffset) (content : List ℕ) : Type 0 where
  pub segment : IsTcp src dst (tcp_view s.tcp) content
  pub header : 4 * s.offset ≡ 20 + length segment.area
  pub spelled : AreTcpOptions s.tcp.options.spelled.now
