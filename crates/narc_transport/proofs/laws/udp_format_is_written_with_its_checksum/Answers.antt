use Rattle.narc_transport.proofs.UdpWritten.{udp_written}
use Rattle.narc_transport.specs.Parts.{udp_part}
use Rattle.narc_transport.proofs.laws.udp_format_is_written_with_its_checksum.Goals as goal

pub returns : goal.returns
unfolding udp_part
returns c = λ e u ok f. udp_written e ok u f
