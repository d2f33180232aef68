use Rattle.std.proofs.Common.{length, sym, ap, ◌∙◌}
use Rattle.narc_reading.specs.Parts.{octet_of, parts_left}
use Rattle.narc_reading.proofs.Separated.{last-read}
use Rattle.narc_reading.proofs.parts.Parts.last_hex.Goals as goal

pub returns : goal.returns
returns c =
    let separator = c.self.inside.separator in
    last-read separator c.in-Some.word.now c.args.self.now (length c.args.room.now) c.read_hex.result
    (ap (parts_left (octet_of separator)) (sym c.in-Some.is) ∙ c.self.view_is) c.read_hex.ensures
