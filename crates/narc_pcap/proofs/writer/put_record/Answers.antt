use Rattle.std.proofs.Common.{◌≤◌, ◌++◌, ◌∙◌, ap, arith, length, take, length-take}
use Rattle.narc_pcap.specs.Written.{head_octets}
use Rattle.narc_pcap.proofs.Places.{placed}
use Rattle.narc_pcap.proofs.writer.put_record.Goals as goal

pub returns-clause-written : goal.returns-clause-written
returns-clause-written g c =
    let buffer = c.args.buffer.now in
    let at = c.args.at in
    let count = c.fill-count.result in
    let piece = c.fill-count.new.room in
    let fits : count ≤ length piece = omega (arith, c.fill-count.ensures.count, ap length c.fill-count.ensures.written, length-take count piece) in
    placed buffer c.put_head.new.room piece at _ count (omega arith) (omega (arith, c.put_head.auto.room)) fits
    ∙ ap (λ l. take at buffer ++ (l ++ take count piece)) (c.put_head.ensures ∙ ap (λ n. head_octets c.args.big c.args.sec c.args.sub n n) c.fill-count.ensures.count)
    ∙ ap (λ l. take at buffer ++ (head_octets c.args.big c.args.sec c.args.sub (length (g.F.Fill.frame c.args.frame.now)) (length (g.F.Fill.frame c.args.frame.now)) ++ l)) c.fill-count.ensures.written
