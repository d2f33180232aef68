use Rattle.narc_laws.proofs.ReadWritten.{header_written, record_written}
use Rattle.narc_laws.proofs.laws.read_captures_are_written.Goals as goal

pub returns-clause-headers : goal.returns-clause-headers
returns-clause-headers c = header_written

pub returns-clause-records : goal.returns-clause-records
returns-clause-records c = record_written
