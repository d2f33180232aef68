use Rattle.std.proofs.Common.{length}
use Rattle.narc_layout.proofs.SameRows.{refused_by}
use Rattle.narc_packet.specs.Refusal.{udp_rows}
use Rattle.narc_transport.proofs.UdpRead.{udp_read}
use Rattle.narc_transport.proofs.UdpRows.{udp_rows_are}
use Rattle.narc_transport.specs.Parts.{udp_part}
use Rattle.narc_transport.proofs.laws.udp_format_is_refused_by_row.Goals as goal

pub returns : goal.returns
unfolding udp_part
returns c = λ e start b ok each f. refused_by udp_read (e, length b) start b each (udp_rows e.src e.dst b start) (udp_rows_are e ok start b each) f
