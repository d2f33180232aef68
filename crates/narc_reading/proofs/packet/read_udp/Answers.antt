use Rattle.std.proofs.Common.{length}
use Rattle.narc_packet.specs.PacketView.{UdpBody, udp_view}
use Rattle.narc_text.specs.PacketText.{ip_body_words}
use Rattle.narc_reading.specs.Readable.{IsReadableUdp}
use Rattle.narc_reading.proofs.Refusals.{IsReadBy-refused, behind, others}
use Rattle.narc_reading.proofs.packet.read_udp.Goals as goal

pub returns-in_err-dport : goal.returns-in_err-dport
returns-in_err-dport c =
    IsReadBy-refused udp_view (λ u. ip_body_words (UdpBody u)) (IsReadableUdp (length c.args.room.now)) _ _ c.from_residual-in_err-dport.ensures.0
    (λ u is e. c.in_err-dport.ensures u.dport _ is.in_range.dport (behind c.in_ok-sport.ensures.1 (others e)))
