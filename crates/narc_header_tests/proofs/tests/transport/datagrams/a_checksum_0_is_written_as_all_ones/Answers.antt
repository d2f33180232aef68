use Rattle.std.proofs.Common.{lit<, lit≤}
use Rattle.narc_header_tests.proofs.tests.transport.datagrams.a_checksum_0_is_written_as_all_ones.Goals as goal

pub write_datagram-requires-clause-fits : goal.write_datagram-requires-clause-fits
write_datagram-requires-clause-fits g c = record { in_range = record { sport = lit< tt; dport = lit< tt; payload = tt }; short = lit≤ tt; fits = lit≤ tt }
