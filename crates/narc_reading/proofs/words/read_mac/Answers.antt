use Rattle.std.proofs.Common.{length, ap, arith}
use Rattle.hex.specs.Hex.{lower_digits}
use Rattle.hex.proofs.HexLemmas.{length-encode_with}
use Rattle.narc_reading.proofs.words.read_mac.Goals as goal

pub returns-then-word-ne12 : goal.returns-then-word-ne12
returns-then-word-ne12 c = λ v is e. omega (arith, ap length e, length-encode_with lower_digits v, is.0)
