use Rattle.narc_ipv4.proofs.HeaderOctets.{its_octets}
use Rattle.narc_ipv4.proofs.laws.ip_head_is_its_octets.Goals as goal

pub returns : goal.returns
returns c = its_octets
