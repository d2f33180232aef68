use Rattle.std.proofs.Common.{◌+◌, ◌∷◌, take, sym, ap, ◌∙◌, subst}
use Rattle.std.proofs.lemmas.List.{take_all, take_rest}
use Rattle.narc_reading.specs.Parts.{parts_of}
use Rattle.narc_reading.proofs.Separated.{Lacks, Lacks-take, parts_of-none, parts_of-found}
use Rattle.narc_reading.proofs.parts.split_at_separator.Goals as goal

pub returns-then-octet-separator : goal.returns-then-octet-separator
returns-then-octet-separator c =
    let octets = c.args.octets.now in
    let at = c.loop-at.at in
    parts_of-found c.args.separator octets at c.loop-at-test.true c.loop-at.invariant c.if-octet-separator.true
    ∙ ap (λ l. take at octets ∷ parts_of c.args.separator l) (sym (take_rest octets (at + 1)))

pub returns : goal.returns
returns c =
    let octets = c.args.octets.now in
    let at = c.loop-at.at in
    parts_of-none c.args.separator octets
    (subst (Lacks c.args.separator) (take_all at octets c.loop-at-test.false) (Lacks-take c.args.separator octets at c.loop-at.auto.at-end c.loop-at.invariant))
