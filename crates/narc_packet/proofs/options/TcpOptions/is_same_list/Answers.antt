use Rattle.narc_packet.proofs.SpelledOptions.{same_tcp_options}
use Rattle.narc_packet.proofs.options.TcpOptions.is_same_list.Goals as goal

pub returns : goal.returns
returns c =
    let lists = same_tcp_options c.args.self.now.spelled.now c.args.other.now.spelled.now c.known_octets.ensures c.known_octets-2.ensures in
    (λ h. lists.0 (c.spell_same_options.ensures.0 h), λ h. c.spell_same_options.ensures.1 (lists.1 h))
