use Rattle.narc_options.proofs.OptionOctets.{its_ip_option}
use Rattle.narc_options.proofs.laws.ip_option_is_its_octets.Goals as goal

pub returns : goal.returns
returns c = its_ip_option
