use Rattle.std.proofs.Common.{◌+◌, ◌-◌, ◌*◌, ◌≤◌, length, refl, ◌∙◌, arith}
use Rattle.hex.specs.Hex.{encode_with}
use Rattle.narc_reading.proofs.HexDigits.{piece-unprinted, rest-unprinted, piece-more, length-put_mid, fewer, piece-last, piece-size}
use Rattle.narc_reading.proofs.hex_digits.decode.Goals as goal

pub loop-i-init : goal.loop-i-init
unfolding encode_with
loop-i-init c = record { len = refl; read = refl }

pub returns-then-not-take_sixteen-clause-err : goal.returns-then-not-take_sixteen-clause-err
returns-then-not-take_sixteen-clause-err c =
    let i = c.loop-i.i in
    piece-unprinted c.args.digits.now (32 * i + 32 - 32 * i) (32 * i) (16 * i) 16 (omega arith) (omega arith) c.if-not-take_sixteen.ensures

pub loop-i-preserved : goal.loop-i-preserved
loop-i-preserved c =
    let digits = c.args.digits.now in
    let octets = c.loop-i.octets in
    let new = c.take_sixteen.new.octets in
    let i = c.loop-i.i in
    let n = 32 * i + 32 - 32 * i in
    let k = 16 * i + 16 - 16 * i in
    let e = c.if-not-take_sixteen.ensures in
    let place : 32 * i + 32 ≤ length digits = omega (arith, c.loop-i-test.true) in
    let room : 16 * i + 16 ≤ length octets = omega (arith, c.loop-i.invariant.len, c.loop-i-test.true) in
    let size = piece-size digits new n (32 * i) e (omega (arith, place)) in
    record {
      len = length-put_mid octets new (16 * i) k (omega (arith, room)) (omega (arith, size)) ∙ c.loop-i.invariant.len;
      read = piece-more digits octets new i n k (omega arith) place room e c.loop-i.invariant.read;
    }

pub returns-then-take_sixteen-clause-ok : goal.returns-then-take_sixteen-clause-ok
returns-then-take_sixteen-clause-ok c =
    let digits = c.args.digits.now in
    let octets = c.loop-i.octets in
    let last = length octets - 16 in
    let i = c.loop-i.i in
    piece-last digits octets c.take_sixteen-2.new.octets last (length octets - last) (length digits - 2 * last) (omega arith) (omega arith) c.if-take_sixteen.ensures
    (fewer digits octets (32 * i) (16 * i) last c.loop-i.invariant.read (omega arith) (omega arith))

pub returns-else-take_sixteen-clause-err : goal.returns-else-take_sixteen-clause-err
returns-else-take_sixteen-clause-err c =
    let digits = c.args.digits.now in
    let last = length c.loop-i.octets - 16 in
    rest-unprinted digits (length digits - 2 * last) (2 * last) last (length c.args.octets.now) (omega arith) (omega arith) (omega arith) (omega arith) c.if-take_sixteen.ensures
