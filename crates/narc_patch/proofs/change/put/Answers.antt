use borrow.Rule.Slice.PartMut.{put_mid}
use Rattle.std.proofs.Common.{◌≡◌, ◌+◌, ◌-◌, ◌++◌, length, take, ap, ◌∙◌, arith}
use Rattle.std.proofs.lemmas.List.{drop-drop}
use Rattle.narc_bits.specs.Bits.{overlay}
use Rattle.narc_patch.proofs.change.put.Goals as goal

pub returns : goal.returns
unfolding overlay
returns c =
    let frame = c.args.frame.now in
    let octets = c.args.octets.now in
    let at = c.args.at in
    let count : at + length octets - at ≡ length octets = omega arith in
    ap (λ s. put_mid at (at + length octets - at) frame s) c.copy_from_slice.ensures.after ∙ ap (λ k. put_mid at k frame octets) count ∙ ap (λ r. take at frame ++ (octets ++ r)) (drop-drop (length octets) at frame)
