use Rattle.narc_transport.proofs.UdpSound.{udp_sound}
use Rattle.narc_transport.specs.Parts.{udp_part}
use Rattle.narc_transport.proofs.laws.udp_format_is_sound.Goals as goal

pub returns : goal.returns
unfolding udp_part
returns c = udp_sound
