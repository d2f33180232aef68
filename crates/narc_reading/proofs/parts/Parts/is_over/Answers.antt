use Rattle.narc_reading.specs.Parts.{octet_of}
use Rattle.narc_reading.proofs.Separated.{none-from_test}
use Rattle.narc_reading.proofs.parts.Parts.is_over.Goals as goal

pub returns : goal.returns
returns c =
    let inside = c.self.inside in
    none-from_test (octet_of inside.separator) inside.rest c.args.self.now c.is_none.result c.is_none.ensures c.self.view_is
