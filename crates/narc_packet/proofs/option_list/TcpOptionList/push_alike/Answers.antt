use Rattle.std.proofs.Common.{sym, subst}
use Rattle.narc_packet.specs.PacketView.{ip_option_view}
use Rattle.narc_packet.proofs.TypedOptions.{HasOctets}
use Rattle.narc_packet.proofs.SpelledOptions.{FitArea-alike, IsTcpOption-alike}
use Rattle.narc_packet.proofs.option_list.TcpOptionList.push_alike.Goals as goal
use Rattle.narc_packet.proofs.option_list.TcpOptionList.push_alike.Goals.{in-Other, in_default}

octets : (c : goal.After-push) → HasOctets (ip_option_view c.args.option)
octets c = elim c.match-option.branch [
  | in-Other w ↦ subst (λ o. HasOctets (ip_option_view o)) (sym w.in-Other.is) w.known_octets.ensures
  | in_default w ↦ subst (λ o. HasOctets (ip_option_view o)) (sym w.in_default.is) tt
]

pub returns-clause-fits : goal.returns-clause-fits
returns-clause-fits c =
    FitArea-alike c.self.inside.alike c.args.self.now (ip_option_view c.args.option) c.push.result c.self.invariant c.self.view_is (octets c) c.push.ensures.fits

pub returns-clause-unspelled : goal.returns-clause-unspelled
returns-clause-unspelled c =
    let same = IsTcpOption-alike (ip_option_view c.args.option) (octets c) in
    (λ e h. c.push.ensures.unspelled.0 e (same.0 h), λ h. c.push.ensures.unspelled.1 (λ k. h (same.1 k)))
