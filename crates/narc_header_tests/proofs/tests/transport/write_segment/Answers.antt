use Rattle.std.proofs.Common.{length, arith}
use Rattle.narc_transport.specs.Parts.{tcp_part}
use Rattle.narc_header_tests.proofs.TestEnds.{test_ends, test_there}
use Rattle.narc_transport.proofs.TcpSound.{tcp_sound}
use Rattle.narc_transport.proofs.TcpWritten.{tcp_admits, tcp_size}
use Rattle.narc_header_tests.proofs.tests.transport.write_segment.Goals as goal

pub write-requires-clause-sound : goal.write-requires-clause-sound
unfolding tcp_part
write-requires-clause-sound c = tcp_sound

pub write-requires-clause-admitted : goal.write-requires-clause-admitted
unfolding tcp_part
write-requires-clause-admitted c =
    (tcp_admits (test_ends, length c.args.room.now) (test_there (length c.args.room.now) (omega (arith, c.requires.whole, c.requires.fits.short))) c.args.segment.now).1 c.requires.fits

pub write-requires-clause-small : goal.write-requires-clause-small
write-requires-clause-small c = omega (arith, c.requires.whole, c.requires.fits.short)

pub write-requires-clause-enough : goal.write-requires-clause-enough
unfolding tcp_part
write-requires-clause-enough c =
    omega (arith, c.requires.whole, tcp_size (test_ends, length c.args.room.now) (test_there (length c.args.room.now) (omega (arith, c.requires.whole, c.requires.fits.short))) c.args.segment.now c.requires.fits)
