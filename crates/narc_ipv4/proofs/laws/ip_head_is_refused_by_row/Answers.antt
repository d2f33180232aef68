use Rattle.narc_ipv4.proofs.HeaderOctets.{refused_by_row}
use Rattle.narc_ipv4.proofs.laws.ip_head_is_refused_by_row.Goals as goal

pub returns : goal.returns
returns c = refused_by_row
