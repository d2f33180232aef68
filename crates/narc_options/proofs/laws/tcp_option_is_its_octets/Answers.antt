use Rattle.narc_options.proofs.OptionOctets.{its_tcp_option}
use Rattle.narc_options.proofs.laws.tcp_option_is_its_octets.Goals as goal

pub returns : goal.returns
returns c = its_tcp_option
