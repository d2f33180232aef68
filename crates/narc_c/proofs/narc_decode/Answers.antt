use Rattle.std.proofs.Common.{arith}
use Rattle.std.specs.Prelude.{Err}
use Rattle.narc_c.proofs.Codes.{code_tells}
use Rattle.narc_c.proofs.narc_decode.Goals as goal

pub returns-in-Err-clause-packet : goal.returns-in-Err-clause-packet
returns-in-Err-clause-packet c small =
    let r = c.in-Err.refusal in
    code_tells c.args.frame.now (Err (record { field = r.field; at = r.at })) c.from.result c.in-Err.ensures.only (omega (arith, c.from.ensures, c.number.ensures.value))
