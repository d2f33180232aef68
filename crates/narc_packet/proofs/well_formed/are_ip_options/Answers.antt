use Rattle.narc_packet.proofs.SpelledOptions.{fill_ip}
use Rattle.narc_packet.proofs.well_formed.are_ip_options.Goals as goal

pub returns : goal.returns
returns c =
    let same = fill_ip c.args.options.now.spelled.now c.known_octets.ensures in
    (λ h. same.0 (c.fill_area.ensures.0 h), λ h. c.fill_area.ensures.1 (same.1 h))
