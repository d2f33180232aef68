use Rattle.narc_eth.proofs.ArpLayout.{arp_layout}
use Rattle.narc_eth.proofs.arp.arp_format_is_refused_by_row.Goals as goal

pub returns : goal.returns
returns c = arp_layout.refusals.refuses 14 0
