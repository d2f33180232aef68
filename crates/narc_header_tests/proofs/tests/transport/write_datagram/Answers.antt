use Rattle.std.proofs.Common.{length, arith}
use Rattle.narc_transport.specs.Parts.{udp_part}
use Rattle.narc_header_tests.proofs.TestEnds.{test_ends, test_there}
use Rattle.narc_transport.proofs.UdpSound.{udp_sound}
use Rattle.narc_transport.proofs.UdpWritten.{udp_admits, udp_size}
use Rattle.narc_header_tests.proofs.tests.transport.write_datagram.Goals as goal

pub write-requires-clause-sound : goal.write-requires-clause-sound
unfolding udp_part
write-requires-clause-sound c = udp_sound

pub write-requires-clause-admitted : goal.write-requires-clause-admitted
unfolding udp_part
write-requires-clause-admitted c = (udp_admits (test_ends, length c.args.room.now) (test_there (length c.args.room.now) c.requires.small) c.args.udp.now).1 c.requires.fits

pub write-requires-clause-enough : goal.write-requires-clause-enough
unfolding udp_part
write-requires-clause-enough c =
    let there = test_there (length c.args.room.now) c.requires.small in
    omega (arith, udp_size (test_ends, length c.args.room.now) there c.args.udp.now ((udp_admits (test_ends, length c.args.room.now) there c.args.udp.now).1 c.requires.fits))
