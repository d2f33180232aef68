use Rattle.std.proofs.Common.{◌+◌, ◌%◌, ap, sym, ◌∙◌, replicate, w8}
use Rattle.std.specs.Int.Bits.{bit_and}
use Rattle.std.specs.Simd.Lanes.{zip2, sel_l}
use Rattle.std.proofs.lemmas.Simd.{tops_compared}
use Rattle.narc_reading.proofs.DigitLanes.{numbered}
use Rattle.narc_reading.proofs.hex_digits.numbers_of.Goals as goal
use lib.Dec.{ltb}

pub returns : goal.returns
returns c =
    let xs = c.args.digits in
    ap (λ ms. zip2 bit_and (zip2 (λ a b. (a + b) % 256) xs (sel_l ms (replicate 16 9) (replicate 16 0))) (replicate 16 15)) (tops_compared w8 ltb (replicate 16 57) xs)
    ∙ ap (λ k. zip2 bit_and (zip2 (λ a b. (a + b) % 256) xs (sel_l (zip2 ltb (replicate k 57) xs) (replicate k 9) (replicate k 0))) (replicate k 15)) (sym c.requires)
    ∙ numbered xs
