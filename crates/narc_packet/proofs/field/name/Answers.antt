-- no name stands behind the last of the table
use Rattle.std.proofs.Common.{◌≤◌, ℕ, Option, List, codes, unwrap_or, length, ap, sym, arith}
use Rattle.std.proofs.lemmas.Option.{slice_get_past}
use Rattle.narc_packet.specs.Field.{field_names}
use Rattle.narc_packet.proofs.field.name.Goals as goal

pub returns-then-number-gt-COUNT-clause-value : goal.returns-then-number-gt-COUNT-clause-value
returns-then-number-gt-COUNT-clause-value c =
    let past : length field_names ≤ c.args.field = omega arith in
    sym (ap (λ (o : Option (List ℕ)). unwrap_or o (codes "unnamed")) (slice_get_past field_names c.args.field past))
