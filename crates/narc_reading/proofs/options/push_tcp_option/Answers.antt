use Rattle.std.proofs.Common.{sym, ◌∙◌}
use Rattle.std.specs.Prelude.{is_ok}
use Rattle.narc_packet.specs.Options.{tcp_option, IsTcpOption}
use Rattle.narc_packet.specs.PacketView.{tcp_option_view}
use Rattle.narc_packet.specs.TextWords.{tcp_option_word}
use Rattle.narc_reading.proofs.OptionLoops.{not-pushed}
use Rattle.narc_reading.proofs.OptionParts.{tcp_option_word-injective, IsTextOption-tcp}
use Rattle.narc_reading.proofs.options.push_tcp_option.Goals as goal

pub returns-else-is_ok-clause-err : goal.returns-else-is_ok-clause-err
returns-else-is_ok-clause-err c =
    let option = tcp_option_view c.in_ok-option.option in
    let read = c.in_ok-option.ensures in
    not-pushed tcp_option_word tcp_option IsTcpOption c.args.word.now c.args.options.now option c.is_ok.result (is_ok c.push.result) c.if-is_ok.false c.is_ok.ensures.value c.push.ensures.fits.1
    (λ o is e. tcp_option_word-injective o option (IsTextOption-tcp o is) read.0 (sym e ∙ read.1))
