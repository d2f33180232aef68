use Rattle.narc_transport.specs.Parts.{tcp_part}
use Rattle.narc_transport.proofs.TcpSound.{tcp_sound}
use Rattle.narc_transport.proofs.laws.tcp_format_is_sound.Goals as goal

pub returns : goal.returns
unfolding tcp_part
returns c = tcp_sound
