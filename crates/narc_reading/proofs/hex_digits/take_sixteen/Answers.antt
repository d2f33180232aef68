use Rattle.narc_reading.proofs.DigitLanes.{read-again, printed-again}
use Rattle.narc_reading.proofs.hex_digits.take_sixteen.Goals as goal

pub returns : goal.returns
returns c =
    let digits = c.args.digits.now in
    printed-again c.is_word.result digits c.join.new.octets c.encode_sixteen.new.digits c.is_word.ensures c.encode_sixteen.ensures
    (λ o is printed. read-again digits c.split_at.result.0.now c.split_at.result.1.now c.numbers_of-first.result c.numbers_of-second.result o c.join.new.octets c.requires.few
    c.split_at.ensures.front c.split_at.ensures.back c.numbers_of-first.ensures c.numbers_of-second.ensures c.join.ensures is printed)
