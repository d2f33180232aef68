use borrow.Rule.Slice.PartMut.{put_mid}
use Rattle.std.proofs.Common.{◌≡◌, ℕ, ◌+◌, ◌-◌, ◌/◌, length, replicate, take, drop, length-take, length-drop, ap, ◌∙◌, arith}
use Rattle.std.proofs.Math.ListN.{length-replicate}
use Rattle.narc_bits.specs.Bits.{bits}
use Rattle.narc_bits.proofs.Spelled.{bits-put_mid}
use Rattle.narc_bits.proofs.writer.Writer.put_zeros.Goals as goal

pub returns-clause-put : goal.returns-clause-put
returns-clause-put c =
    let from = c.self.inside.place / 8 in
    let size = length-replicate {A = ℕ} c.args.count 0 in
    let part : length (take (from + c.args.count - from) (drop from c.args.room.now)) ≡ c.args.count = omega (arith, length-take (from + c.args.count - from) (drop from c.args.room.now), length-drop from c.args.room.now, c.requires.enough, c.self.view_is) in
    ap (λ s. bits (put_mid from (from + c.args.count - from) c.args.room.now s)) {y = replicate c.args.count 0} (c.fill.ensures.after (λ y e. e) ∙ ap (λ n. replicate n 0) part)
    ∙ bits-put_mid c.args.room.now (replicate c.args.count 0) from _ c.args.self.now (omega (arith, size)) (omega (arith, c.requires.aligned, c.self.view_is)) (omega (arith, c.requires.enough, c.requires.aligned, size))
