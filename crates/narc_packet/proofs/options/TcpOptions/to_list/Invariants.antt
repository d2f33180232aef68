use Rattle.std.proofs.Common.{◌≡◌, ◌≤◌, ◌++◌, ◌+◌, length, map}
use Rattle.narc_packet.specs.Options.{tcp_options_in}
use Rattle.narc_packet.specs.PacketView.{tcp_option_view}
use Rattle.narc_packet.proofs.options.TcpOptions.to_list.Given as goal

abbrev pub invariant-loop-option : goal.invariant-loop-option
invariant-loop-option l = record {
  so_far : map tcp_option_view l.list.items ++ l.option-iterator ≡ tcp_options_in l.fn.self.spelled.now;
  few : length l.list.items + length l.option-iterator ≤ 40;
}
