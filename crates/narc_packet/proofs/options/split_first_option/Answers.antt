use Rattle.std.proofs.Common.{◌≡◌, ◌≤◌, ◌+◌, true, false, List, [], ◌∷◌, arith, rules}
use Rattle.narc_packet.proofs.OptionLists.{ip_options_in-split}
use Rattle.narc_packet.proofs.options.split_first_option.Goals as goal

is_some : {X : Type 0} (xs ys : List X) (x : X) → xs ≡ x ∷ ys → (true ≡ false → xs ≡ []) × (xs ≡ [] → true ≡ false)
is_some xs ys x e = (λ h. cc, λ h. cc)

pub returns-in_ok-data-in_default-clause-first : goal.returns-in_ok-data-in_default-clause-first
returns-in_ok-data-in_default-clause-first c =
    let kind = c.in_ok-kind.kind.now in
    let len = c.in_ok-len-in_default.len.now in
    let count = c.in_ok-count-in_default.count in
    let large : 2 ≤ kind = omega arith in
    let counted : count + 2 ≡ len = omega arith in
    let cut = c.in_ok-data-in_default.ensures.cases in
    ip_options_in-split c.args.spelled.now c.in_ok-kind.rest.now c.in_ok-len-in_default.rest.now c.in_ok-data-in_default.data.now c.in_ok-data-in_default.rest.now kind len count
    large c.in_ok-kind.ensures.cases.0 c.in_ok-len-in_default.ensures.cases.0 counted cut.0 cut.1 cut.2

pub returns-in_ok-data-in_default-clause-none : goal.returns-in_ok-data-in_default-clause-none
returns-in_ok-data-in_default-clause-none c = is_some _ _ _ (returns-in_ok-data-in_default-clause-first c)

pub returns-in-0-clause-none : goal.returns-in-0-clause-none
returns-in-0-clause-none c = search rules
