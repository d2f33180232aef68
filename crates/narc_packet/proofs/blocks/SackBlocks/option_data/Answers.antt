use Rattle.std.proofs.Common.{sym, ◌∙◌}
use Rattle.narc_packet.proofs.TypedOptions.{tcp_option_of-blocks, blocks_type}
use Rattle.narc_packet.proofs.blocks.SackBlocks.option_data.Goals as goal

pub returns-in-Sack-clause-some : goal.returns-in-Sack-clause-some
returns-in-Sack-clause-some c =
    tcp_option_of-blocks c.args.self.now.spelled.now c.whole-octets.result.now c.known_octets.ensures c.whole-octets.ensures (sym c.in-Sack.ensures)

pub returns-in_default : goal.returns-in_default
returns-in_default c = record {
  some = tt;
  none = λ e h. c.in_default.not-Sack (c.of.ensures ∙ blocks_type c.args.self.now.spelled.now c.whole-octets.result.now c.whole-octets.ensures h);
}
