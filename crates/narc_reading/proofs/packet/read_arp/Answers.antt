use Rattle.narc_packet.specs.PacketView.{ArpBody}
use Rattle.narc_packet.specs.Ranges.{IsArpInRange}
use Rattle.narc_text.specs.PacketText.{eth_body_words}
use Rattle.narc_reading.proofs.Refusals.{IsReadBy-refused, behind, others}
use Rattle.narc_reading.proofs.packet.read_arp.Goals as goal

pub returns-in_err-sender_mac : goal.returns-in_err-sender_mac
returns-in_err-sender_mac c =
    IsReadBy-refused (λ a. a) (λ a. eth_body_words (ArpBody a)) IsArpInRange _ _ c.from_residual-in_err-sender_mac.ensures.0
    (λ a is e. c.in_err-sender_mac.ensures a.sender_mac _ is.sender_mac (behind c.in_ok-op.ensures.1 (others e)))

pub returns-in_err-sender_ip : goal.returns-in_err-sender_ip
returns-in_err-sender_ip c =
    IsReadBy-refused (λ a. a) (λ a. eth_body_words (ArpBody a)) IsArpInRange _ _ c.from_residual-in_err-sender_ip.ensures.0
    (λ a is e. c.in_err-sender_ip.ensures a.sender_ip _ is.sender_ip (behind c.in_ok-sender_mac.ensures.1 (behind c.in_ok-op.ensures.1 (others e))))

pub returns-in_err-target_mac : goal.returns-in_err-target_mac
returns-in_err-target_mac c =
    IsReadBy-refused (λ a. a) (λ a. eth_body_words (ArpBody a)) IsArpInRange _ _ c.from_residual-in_err-target_mac.ensures.0
    (λ a is e. c.in_err-target_mac.ensures a.target_mac _ is.target_mac (behind c.in_ok-sender_ip.ensures.1 (behind c.in_ok-sender_mac.ensures.1 (behind c.in_ok-op.ensures.1 (others e)))))

pub returns-in_err-target_ip : goal.returns-in_err-target_ip
returns-in_err-target_ip c =
    IsReadBy-refused (λ a. a) (λ a. eth_body_words (ArpBody a)) IsArpInRange _ _ c.from_residual-in_err-target_ip.ensures.0
    (λ a is e. c.in_err-target_ip.ensures a.target_ip _ is.target_ip (behind c.in_ok-target_mac.ensures.1 (behind c.in_ok-sender_ip.ensures.1 (behind c.in_ok-sender_mac.ensures.1 (behind c.in_ok-op.ensures.1 (others e))))))
