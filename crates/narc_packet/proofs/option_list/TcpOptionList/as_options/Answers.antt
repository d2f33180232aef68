use Rattle.narc_packet.proofs.SpelledOptions.{AreTcpOptions-ip}
use Rattle.narc_packet.proofs.option_list.TcpOptionList.as_options.Goals as goal

pub returns-clause-spelled : goal.returns-clause-spelled
returns-clause-spelled c = AreTcpOptions-ip c.as_options.result.spelled.now c.as_options.ensures.spelled
