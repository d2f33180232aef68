use Rattle.narc_transport.specs.Parts.{tcp_part}
use Rattle.narc_transport.proofs.TcpWritten.{tcp_admits}
use Rattle.narc_transport.proofs.laws.tcp_format_admits_what_fits.Goals as goal

pub returns : goal.returns
unfolding tcp_part
returns c = λ e there s ok small. tcp_admits (e, there) (ok, small) s
