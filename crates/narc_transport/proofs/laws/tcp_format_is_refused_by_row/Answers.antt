use Rattle.std.proofs.Common.{length}
use Rattle.narc_layout.proofs.SameRows.{refused_by}
use Rattle.narc_packet.specs.Refusal.{tcp_rows}
use Rattle.narc_transport.specs.Parts.{tcp_part}
use Rattle.narc_transport.proofs.TcpRead.{tcp_read}
use Rattle.narc_transport.proofs.TcpRows.{tcp_rows_are}
use Rattle.narc_transport.proofs.laws.tcp_format_is_refused_by_row.Goals as goal

pub returns : goal.returns
unfolding tcp_part
returns c = λ e start b ok each small f. refused_by tcp_read (e, length b) start b each (tcp_rows e.src e.dst b start) (tcp_rows_are e ok start b each small) f
