use Rattle.narc_ipv4.proofs.HeaderWritten.{head_written}
use Rattle.narc_ipv4.proofs.laws.ip_head_is_written_with_its_checksum.Goals as goal

pub returns : goal.returns
returns c = head_written
