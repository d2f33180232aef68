use Rattle.std.proofs.Common.{◌+◌, ◌%◌, ◌<◌, length, ap, sym, ◌∙◌, arith, zero-add, [], ◌∷◌, ◌++◌}
use Rattle.std.proofs.lemmas.List.{take_more_set}
use Rattle.std.proofs.lemmas.List.FromFn.{map-range_with_len_more}
use Rattle.narc_trial.proofs.make.count_up.Goals as goal

pub loop-j-preserved : goal.loop-j-preserved
loop-j-preserved c =
    let j = c.loop-j.j in
    let within : j < length c.loop-j.octets = omega arith in
    take_more_set c.loop-j.octets j ((c.args.number + j) % 256) within
    ∙ ap (λ front. front ++ ((c.args.number + j) % 256) ∷ []) c.loop-j.invariant
    ∙ sym (map-range_with_len_more (λ i. (c.args.number + i) % 256) 0 j j (zero-add j))
