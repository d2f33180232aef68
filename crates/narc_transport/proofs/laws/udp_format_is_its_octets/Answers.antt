use Rattle.narc_layout.proofs.SameRows.{stands_as}
use Rattle.narc_transport.proofs.UdpRead.{udp_read}
use Rattle.narc_transport.proofs.UdpOctets.{udp_octets_are}
use Rattle.narc_transport.proofs.laws.udp_format_is_its_octets.Goals as goal
use Rattle.narc_transport.specs.Parts.{udp_part}
use Rattle.std.proofs.Common.{length}

pub returns : goal.returns
unfolding udp_part
returns c = λ e u b ok each.
    let read = stands_as udp_read (e, length b) u b each in
    let are = udp_octets_are e ok u b each in
    (λ p. are.0 (read.0 p), λ h. read.1 (are.1 h))
