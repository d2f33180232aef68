use Rattle.std.proofs.Common.{rules, length}
use Rattle.narc_packet.specs.PacketView.{TcpBody, tcp_view}
use Rattle.narc_text.specs.PacketText.{ip_body_words}
use Rattle.narc_reading.specs.Readable.{IsReadableTcp}
use Rattle.narc_reading.proofs.Refusals.{IsReadBy-refused, behind, others}
use Rattle.narc_reading.proofs.packet.read_tcp.Goals as goal

pub returns-in_err-dport-clause-read : goal.returns-in_err-dport-clause-read
returns-in_err-dport-clause-read c =
    IsReadBy-refused tcp_view (λ t. ip_body_words (TcpBody t)) (IsReadableTcp (length c.args.room.now)) _ _ c.from_residual-in_err-dport.ensures.0
    (λ t is e. c.in_err-dport.ensures t.dport _ is.in_range.dport (behind c.in_ok-sport.ensures.1 (others e)))

pub returns-in_err-seq-clause-read : goal.returns-in_err-seq-clause-read
returns-in_err-seq-clause-read c =
    IsReadBy-refused tcp_view (λ t. ip_body_words (TcpBody t)) (IsReadableTcp (length c.args.room.now)) _ _ c.from_residual-in_err-seq.ensures.0
    (λ t is e. c.in_err-seq.ensures t.seq _ is.in_range.seq (behind c.in_ok-dport.ensures.1 (behind c.in_ok-sport.ensures.1 (others e))))

pub returns-in_err-ack-clause-read : goal.returns-in_err-ack-clause-read
returns-in_err-ack-clause-read c =
    IsReadBy-refused tcp_view (λ t. ip_body_words (TcpBody t)) (IsReadableTcp (length c.args.room.now)) _ _ c.from_residual-in_err-ack.ensures.0
    (λ t is e. c.in_err-ack.ensures t.ack _ is.in_range.ack (behind c.in_ok-seq.ensures.1 (behind c.in_ok-dport.ensures.1 (behind c.in_ok-sport.ensures.1 (others e)))))

pub returns-in_err-reserved-clause-read : goal.returns-in_err-reserved-clause-read
returns-in_err-reserved-clause-read c =
    IsReadBy-refused tcp_view (λ t. ip_body_words (TcpBody t)) (IsReadableTcp (length c.args.room.now)) _ _ c.from_residual-in_err-reserved.ensures.0
    (λ t is e. c.in_err-reserved.ensures t.reserved _ is.in_range.reserved (behind c.in_ok-ack.ensures.1 (behind c.in_ok-seq.ensures.1 (behind c.in_ok-dport.ensures.1 (behind c.in_ok-sport.ensures.1 (others e))))))

pub returns-in_err-window-clause-read : goal.returns-in_err-window-clause-read
returns-in_err-window-clause-read c =
    IsReadBy-refused tcp_view (λ t. ip_body_words (TcpBody t)) (IsReadableTcp (length c.args.room.now)) _ _ c.from_residual-in_err-window.ensures.0
    (λ t is e. c.in_err-window.ensures t.window _ is.in_range.window (behind c.in_ok-flags.ensures.1 (behind c.in_ok-reserved.ensures.1 (behind c.in_ok-ack.ensures.1 (behind c.in_ok-seq.ensures.1 (behind c.in_ok-dport.ensures.1 (behind c.in_ok-sport.ensures.1 (others e))))))))

pub returns-in_err-urgent-clause-read : goal.returns-in_err-urgent-clause-read
returns-in_err-urgent-clause-read c =
    IsReadBy-refused tcp_view (λ t. ip_body_words (TcpBody t)) (IsReadableTcp (length c.args.room.now)) _ _ c.from_residual-in_err-urgent.ensures.0
    (λ t is e. c.in_err-urgent.ensures t.urgent _ is.in_range.urgent (behind c.in_ok-window.ensures.1 (behind c.in_ok-flags.ensures.1 (behind c.in_ok-reserved.ensures.1 (behind c.in_ok-ack.ensures.1 (behind c.in_ok-seq.ensures.1 (behind c.in_ok-dport.ensures.1 (behind c.in_ok-sport.ensures.1 (others e)))))))))

pub returns-clause-read : goal.returns-clause-read
returns-clause-read c = search rules
