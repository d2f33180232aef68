use Rattle.narc_transport.proofs.UdpWritten.{udp_admits}
use Rattle.narc_transport.specs.Parts.{udp_part}
use Rattle.narc_transport.proofs.laws.udp_format_admits_what_fits.Goals as goal

pub returns : goal.returns
unfolding udp_part
returns c = λ e there u ok small. udp_admits (e, there) (ok, small) u
