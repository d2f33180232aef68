use Rattle.std.proofs.Common.{refl, lit<, lit≤}
use Rattle.narc_header_tests.proofs.tests.transport.segments.a_segment_is_read_and_written.Goals as goal

pub write_segment-requires-clause-fits : goal.write_segment-requires-clause-fits
write_segment-requires-clause-fits g c = record {
  in_range = record {
    sport = lit< tt;
    dport = lit< tt;
    seq = lit< tt;
    ack = lit< tt;
    reserved = lit< tt;
    flags = lit< tt;
    window = lit< tt;
    urgent = lit< tt;
    payload = (lit< tt, (lit< tt, (lit< tt, tt)));
  };
  spelled = (refl, tt);
  options = lit≤ tt;
  most = lit≤ tt;
  fits = lit≤ tt;
  short = lit≤ tt;
}
