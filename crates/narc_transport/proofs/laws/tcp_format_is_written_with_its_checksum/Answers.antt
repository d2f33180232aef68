use Rattle.narc_transport.specs.Parts.{tcp_part}
use Rattle.narc_transport.proofs.TcpWritten.{tcp_written}
use Rattle.narc_transport.proofs.laws.tcp_format_is_written_with_its_checksum.Goals as goal

pub returns : goal.returns
unfolding tcp_part
returns c = λ e there s ok small f shortest. tcp_written (e, there) (ok, small) s f shortest
