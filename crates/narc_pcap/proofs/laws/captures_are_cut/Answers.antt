use Rattle.narc_pcap.proofs.CaptureCuts.{captures_cut}
use Rattle.narc_pcap.proofs.laws.captures_are_cut.Goals as goal

pub returns : goal.returns
returns c = captures_cut
