use Rattle.std.proofs.Common.{length}
use Rattle.narc_packet.specs.PacketView.{Ipv4Body, ipv4_view}
use Rattle.narc_text.specs.PacketText.{eth_body_words}
use Rattle.narc_reading.specs.Readable.{IsReadableIpv4}
use Rattle.narc_reading.proofs.Refusals.{IsReadBy-refused, behind, others}
use Rattle.narc_reading.proofs.packet.read_ipv4.Goals as goal

pub returns-in_err-id-clause-read : goal.returns-in_err-id-clause-read
returns-in_err-id-clause-read c =
    IsReadBy-refused ipv4_view (λ p. eth_body_words (Ipv4Body p)) (IsReadableIpv4 (length c.args.store.now)) _ _ c.from_residual-in_err-id.ensures.0
    (λ p is e. c.in_err-id.ensures p.id _ is.in_range.id (behind c.in_ok-tos.ensures.1 (others e)))

pub returns-in_err-df-clause-read : goal.returns-in_err-df-clause-read
returns-in_err-df-clause-read c =
    IsReadBy-refused ipv4_view (λ p. eth_body_words (Ipv4Body p)) (IsReadableIpv4 (length c.args.store.now)) _ _ c.from_residual-in_err-df.ensures.0
    (λ p is e. c.in_err-df.ensures (p.df, p.mf) _ tt (behind c.in_ok-id.ensures.1 (behind c.in_ok-tos.ensures.1 (others e))))

pub returns-in_err-offset-clause-read : goal.returns-in_err-offset-clause-read
returns-in_err-offset-clause-read c =
    IsReadBy-refused ipv4_view (λ p. eth_body_words (Ipv4Body p)) (IsReadableIpv4 (length c.args.store.now)) _ _ c.from_residual-in_err-offset.ensures.0
    (λ p is e. c.in_err-offset.ensures p.offset _ is.in_range.offset (behind c.in_ok-df.ensures.1 (behind c.in_ok-id.ensures.1 (behind c.in_ok-tos.ensures.1 (others e)))))

pub returns-in_err-ttl-clause-read : goal.returns-in_err-ttl-clause-read
returns-in_err-ttl-clause-read c =
    IsReadBy-refused ipv4_view (λ p. eth_body_words (Ipv4Body p)) (IsReadableIpv4 (length c.args.store.now)) _ _ c.from_residual-in_err-ttl.ensures.0
    (λ p is e. c.in_err-ttl.ensures p.ttl _ is.in_range.ttl (behind c.in_ok-offset.ensures.1 (behind c.in_ok-df.ensures.1 (behind c.in_ok-id.ensures.1 (behind c.in_ok-tos.ensures.1 (others e))))))

pub returns-in_err-src-clause-read : goal.returns-in_err-src-clause-read
returns-in_err-src-clause-read c =
    IsReadBy-refused ipv4_view (λ p. eth_body_words (Ipv4Body p)) (IsReadableIpv4 (length c.args.store.now)) _ _ c.from_residual-in_err-src.ensures.0
    (λ p is e. c.in_err-src.ensures p.src _ is.in_range.src (behind c.in_ok-ttl.ensures.1 (behind c.in_ok-offset.ensures.1 (behind c.in_ok-df.ensures.1 (behind c.in_ok-id.ensures.1 (behind c.in_ok-tos.ensures.1 (others e)))))))

pub returns-in_err-dst-clause-read : goal.returns-in_err-dst-clause-read
returns-in_err-dst-clause-read c =
    IsReadBy-refused ipv4_view (λ p. eth_body_words (Ipv4Body p)) (IsReadableIpv4 (length c.args.store.now)) _ _ c.from_residual-in_err-dst.ensures.0
    (λ p is e. c.in_err-dst.ensures p.dst _ is.in_range.dst (behind c.in_ok-src.ensures.1 (behind c.in_ok-ttl.ensures.1 (behind c.in_ok-offset.ensures.1 (behind c.in_ok-df.ensures.1 (behind c.in_ok-id.ensures.1 (behind c.in_ok-tos.ensures.1 (others e))))))))
