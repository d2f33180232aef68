use borrow.Rule.Slice.PartMut.{put_mid}
use Rattle.std.proofs.Common.{◌+◌, ◌-◌, ◌/◌, length, ap, ◌∙◌, arith}
use Rattle.narc_bits.specs.Bits.{bits}
use Rattle.narc_bits.proofs.Spelled.{bits-put_mid}
use Rattle.narc_bits.proofs.writer.Writer.put_slice.Goals as goal

pub returns-clause-put : goal.returns-clause-put
returns-clause-put c =
    ap (λ s. bits (put_mid (c.self.inside.place / 8) (c.self.inside.place / 8 + length c.args.bytes.now - c.self.inside.place / 8) c.args.room.now s)) c.copy_from_slice.ensures.after
    ∙ bits-put_mid c.args.room.now c.args.bytes.now (c.self.inside.place / 8) _ c.args.self.now (omega arith) (omega (arith, c.requires.aligned, c.self.view_is)) (omega (arith, c.requires.enough, c.requires.aligned))
