use Rattle.std.proofs.Common.{length, drop, replicate, arith}
use Rattle.narc_reading.proofs.HexDigits.{few-unprinted, few-printed}
use Rattle.narc_reading.proofs.hex_digits.decode_few.Goals as goal

pub returns-then-not-take_sixteen-clause-err : goal.returns-then-not-take_sixteen-clause-err
returns-then-not-take_sixteen-clause-err c =
    few-unprinted c.args.digits.now c.copy_from_slice.new.self (length c.args.octets.now) c.copy_from_slice.ensures.after c.requires.size (omega arith) c.if-not-take_sixteen.ensures

pub returns-clause-ok : goal.returns-clause-ok
returns-clause-ok c =
    few-printed c.args.digits.now c.copy_from_slice.new.self (drop (length c.args.digits.now) (replicate 32 48)) c.take_sixteen.new.octets c.copy_from_slice-2.new.self (length c.args.octets.now)
    c.copy_from_slice.ensures.after c.requires.size c.if-not-take_sixteen.ensures c.copy_from_slice-2.ensures.after
