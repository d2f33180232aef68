use Rattle.narc_packet.specs.PacketView.{ip_option_view}
use Rattle.narc_packet.proofs.SpelledOptions.{AreIpOptions-pushed, FitArea-pushed, ip_options_in-pushed}
use Rattle.narc_packet.proofs.option_list.IpOptionList.push.Goals as goal

pub invariant_of-self : goal.invariant_of-self
invariant_of-self c =
    AreIpOptions-pushed c.self.inside.spelled.items c.push_octets.new.spelled.items (ip_option_view c.args.option) c.push_octets.result c.self.invariant
    c.push_octets.ensures.fits c.push_octets.ensures.ok c.push_octets.ensures.err

pub returns-clause-fits : goal.returns-clause-fits
returns-clause-fits c =
    FitArea-pushed c.self.inside.spelled.items c.args.self.now (ip_option_view c.args.option) c.push_octets.result c.self.invariant.0 c.self.view_is c.push_octets.ensures.fits

pub returns-clause-ok : goal.returns-clause-ok
returns-clause-ok c =
    ip_options_in-pushed c.self.inside.spelled.items c.push_octets.new.spelled.items c.args.self.now (ip_option_view c.args.option) c.push_octets.result c.self.invariant.0 c.self.view_is
    (λ h. (c.push_octets.ensures.fits.0 h).0) c.push_octets.ensures.ok
