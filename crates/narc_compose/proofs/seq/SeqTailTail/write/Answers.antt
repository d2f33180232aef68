use Rattle.std.proofs.Common.{arith}
use Rattle.narc_bits.specs.Bits.{bits}
use Rattle.narc_bits.proofs.Numbers.{length-bits}
use Rattle.narc_compose.specs.Seq.{seq_tail}
use Rattle.narc_compose.proofs.Sequences.{put_both}
use Rattle.narc_compose.proofs.seq.SeqTailTail.write.Goals as goal

pub returns-clause-put : goal.returns-clause-put
unfolding seq_tail
returns-clause-put g c =
    let A = g.A.Format.meaning in
    let B = g.B.Tail.meaning in
    let v = c.args.value.now in
    put_both {db = g.K.Carry.second_of c.args.ctx c.args.value.now.0} (bits c.args.room.now) (bits c.write.new.room) (bits c.write-2.new.room) c.args.writer.now c.write.new.writer
    (λ k. A.spelling k v.0) (λ k. B.spelling k v.1) c.first.ensures c.second-rest.ensures c.write.ensures.put c.write.ensures.moved c.write-2.ensures.put (omega (arith, c.requires.enough, length-bits c.args.room.now))
