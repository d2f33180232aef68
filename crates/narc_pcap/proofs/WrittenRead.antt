-- What is written of a header, and of the header of a record, is read as it.
use Rattle.std.proofs.Common.{true, false, arith, rules}
use Rattle.std.proofs.lemmas.Grind.{common_steps}
use Rattle.narc_pcap.specs.Laws.{WrittenHeadersAreRead, WrittenRecordsAreRead}

pub header_read : WrittenHeadersAreRead
header_read = search rules

pub head_read : WrittenRecordsAreRead
head_read true r in_range = grind (arith, common_steps)
head_read false r in_range = grind (arith, common_steps)
