use Rattle.std.proofs.Common.{◌≡◌, ◌+◌, ◌∷◌, [], rules, length, get_or, sym, ap, ◌∙◌}
use Rattle.narc_patch.specs.Change.{with_octets}
use Rattle.narc_patch.proofs.AddressSteps.{words_four}
use Rattle.narc_patch.proofs.fields.change_words.Goals as goal

pub returns : goal.returns
returns c =
    let l = c.args.octets in
    let at = c.args.at in
    let sums = c.args.sums.now in
    let size : length l ≡ 4 = search rules in
    c.change-2.ensures
    ∙ ap (λ m. with_octets m (at + 2) (get_or l 2 0 ∷ get_or l 3 0 ∷ []) sums) c.change.ensures
    ∙ sym (words_four l (size, c.known_octets.ensures) c.args.frame.now at sums)
