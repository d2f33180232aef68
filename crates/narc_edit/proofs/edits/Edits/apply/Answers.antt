use Rattle.narc_packet.specs.PacketView.{view}
use Rattle.narc_edit.proofs.EditedWellFormed.{edited_is_well_formed}
use Rattle.narc_edit.proofs.edits.Edits.apply.Goals as goal

pub returns-clause-well_formed : goal.returns-clause-well_formed
returns-clause-well_formed c before =
    rw (c.set.ensures, c.set-2.ensures, c.apply_to_eth_body.ensures.value)
    (edited_is_well_formed c.args.self.now (view c.args.packet.now) c.known_ranges.ensures before)
