use Rattle.std.proofs.Common.{◌≡◌, ◌∷◌, [], ◌∙◌, ap, sym, eqb, take, length, length-take, arith}
use Rattle.narc_bits.specs.Scan.{bits_left}
use Rattle.narc_format.proofs.Takes.{took-takes}
use Rattle.narc_scalar.specs.Flag.{flag}
use Rattle.narc_scalar.proofs.Flags.{one_bit}
use Rattle.narc_scalar.proofs.flag.FlagFormat.read.Goals as goal

pub returns-in-Ok : goal.returns-in-Ok
unfolding flag
returns-in-Ok g c =
    let taken = c.in-Ok.ensures.taken in
    let left = bits_left (g.I.Input.scan c.args.cursor.now) in
    let size : length (take 1 left) ≡ 1 = omega (arith, length-take 1 left, taken.enough) in
    took-takes flag tt _ 1 _ _ _ _ _ (omega arith) taken c.in-Ok.ensures.cost (one_bit (take 1 left) size ∙ ap (λ n. eqb n 1 ∷ []) (sym taken.is))
