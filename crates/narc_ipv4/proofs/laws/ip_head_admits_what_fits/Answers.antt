use Rattle.narc_ipv4.proofs.HeaderWritten.{head_admits_fitting}
use Rattle.narc_ipv4.proofs.laws.ip_head_admits_what_fits.Goals as goal

pub returns : goal.returns
returns c = head_admits_fitting
