use Rattle.std.proofs.Common.{◌≡◌, ◌∙◌, arith}
use Rattle.narc_c.proofs.Codes.{code_judged, code_tells}
use Rattle.narc_c.proofs.narc_judge.Goals as goal

pub returns-in-Err-clause-packet : goal.returns-in-Err-clause-packet
returns-in-Err-clause-packet c small =
    let is = c.in-Err.ensures.only in
    let r = c.in-Err.refusal in
    let told : c.from.result ≡ r.field = omega (arith, c.from.ensures, c.number.ensures.value) in
    code_tells c.args.frame.now is.answer c.from.result is.only (told ∙ code_judged is.answer (record { field = r.field; at = r.at }) is.same)
