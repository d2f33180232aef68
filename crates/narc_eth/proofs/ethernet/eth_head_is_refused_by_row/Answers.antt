use Rattle.narc_eth.proofs.HeaderLayout.{eth_head_layout}
use Rattle.narc_eth.proofs.ethernet.eth_head_is_refused_by_row.Goals as goal

pub returns : goal.returns
returns c = eth_head_layout.refusals.refuses 0 0
