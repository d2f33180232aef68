use Rattle.narc_eth.proofs.HeaderLayout.{eth_head_layout}
use Rattle.narc_eth.proofs.ethernet.eth_head_is_sound.Goals as goal

pub returns : goal.returns
returns c = eth_head_layout.shape.sound
