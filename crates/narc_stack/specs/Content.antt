-- The data of an IPv4 packet.
use Rattle.std.specs.Prelude.{ℕ, ◌<◌, ◌^◌, not, ◌&&◌, List, nat_eq, if◌then◌else◌}
use Rattle.std.specs.Borrow.{Bor}
use Rattle.narc_format.specs.Meaning.{Meaning}
use Rattle.narc_compose.specs.declared.either.Either.{Either}
use Rattle.narc_compose.specs.declared.either.Either.TheVariants.{Left, Right}
use Rattle.narc_compose.specs.Union.{united}
use Rattle.narc_list.specs.Bytes.{all_octets}
use Rattle.narc_packet.specs.declared.packet.Udp.{Udp}
use Rattle.narc_transport.specs.declared.context.Ends.{Ends}
use Rattle.narc_transport.specs.Context.{IsEnds}
use Rattle.narc_transport.specs.declared.as_tcp.TcpWithOffset.{TcpWithOffset}
use Rattle.narc_transport.specs.Parts.{udp_part}
use Rattle.narc_transport.specs.Parts.{tcp_part}
use Rattle.narc_stack.specs.declared.content.ContentContext.{ContentContext}

-- the numbers lie in their ranges
abbrev pub IsContentContext : ContentContext → Type 0
IsContentContext c = IsEnds c.ends × (c.protocol < 256) × (c.octets < 2 ^ 64)

abbrev pub by_udp : ContentContext → Either (Ends × ℕ) ContentContext
by_udp c = if nat_eq c.protocol 17 && not c.fragment then Left (c.ends, c.octets) else Right c

abbrev pub by_tcp : ContentContext → Either (Ends × ℕ) (Unit {0})
by_tcp c = if nat_eq c.protocol 6 && not c.fragment then Left (c.ends, c.octets) else Right tt

abbrev pub RawContent : Type 0
RawContent = Either Udp (Either TcpWithOffset (Bor (List ℕ)))

abbrev pub tcp_or_raw : Meaning ContentContext (Either TcpWithOffset (Bor (List ℕ)))
tcp_or_raw = united by_tcp IsContentContext tcp_part all_octets

-- what `IpContent` means
abbrev pub ip_content : Meaning ContentContext RawContent
ip_content = united by_udp IsContentContext udp_part tcp_or_raw
