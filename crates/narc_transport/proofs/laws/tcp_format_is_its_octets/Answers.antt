use Rattle.std.proofs.Common.{length}
use Rattle.narc_layout.proofs.SameRows.{stands_as}
use Rattle.narc_transport.specs.Parts.{tcp_part}
use Rattle.narc_transport.proofs.TcpRead.{tcp_read}
use Rattle.narc_transport.proofs.TcpOctets.{tcp_octets_are}
use Rattle.narc_transport.proofs.laws.tcp_format_is_its_octets.Goals as goal

pub returns : goal.returns
unfolding tcp_part
returns c = λ e s b ok each.
    let read = stands_as tcp_read (e, length b) s b each in
    let are = tcp_octets_are e ok s b each in
    (λ p. are.0 (read.0 p), λ h. read.1 (are.1 h))
