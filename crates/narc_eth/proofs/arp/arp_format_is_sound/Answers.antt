use Rattle.narc_eth.proofs.ArpLayout.{arp_layout}
use Rattle.narc_eth.proofs.arp.arp_format_is_sound.Goals as goal

pub returns : goal.returns
returns c = arp_layout.shape.sound
