use Rattle.std.proofs.Common.{◌≡◌, rules, length, fold, [], sym, ap, ◌∙◌, arith}
use Rattle.narc_patch.specs.Change.{changed}
use Rattle.narc_patch.specs.Patched.{words, assigned}
use Rattle.narc_patch.proofs.UnsummedSteps.{unsummed}
use Rattle.narc_patch.proofs.fields.assign_ip.Goals as goal

pub returns-in-Some : goal.returns-in-Some
returns-in-Some c =
    let frame = c.args.frame.now in
    let at = c.args.at in
    let size : length c.in-Some.value ≡ 4 = search rules in
    c.put.ensures
    ∙ sym (unsummed c.in-Some.value frame at (omega (arith, size)) c.known_octets.ensures (omega (arith, size)))
    ∙ ap (λ o. fold changed frame (assigned o (λ v. words at v []))) (sym c.in-Some.is)
