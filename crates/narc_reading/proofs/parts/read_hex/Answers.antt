use Rattle.std.proofs.Common.{arith}
use Rattle.narc_reading.proofs.HexTexts.{refused, IsDigitsOf-hex_word}
use Rattle.narc_reading.proofs.parts.read_hex.Goals as goal

pub returns-then-word-ne0 : goal.returns-then-word-ne0
returns-then-word-ne0 c = λ v within is.
    let found = IsDigitsOf-hex_word c.args.word.now v (refused c.is_word.result c.if-is_word.false c.is_word.ensures.1) is in
    omega (arith, found.size)

pub returns-then-count-eq0 : goal.returns-then-count-eq0
returns-then-count-eq0 c = λ v within is.
    let found = IsDigitsOf-hex_word c.args.word.now v (refused c.is_word.result c.if-is_word.false c.is_word.ensures.1) is in
    omega (arith, found.size, found.some)

pub returns-then-count-room : goal.returns-then-count-room
returns-then-count-room c = λ v within is.
    let found = IsDigitsOf-hex_word c.args.word.now v (refused c.is_word.result c.if-is_word.false c.is_word.ensures.1) is in
    omega (arith, found.size, within.1)
