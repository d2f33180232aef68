use Rattle.narc_stack.proofs.WellFormed.{well_formed_is}
use Rattle.narc_stack.proofs.laws.packets_with_a_frame_are_well_formed.Goals as goal

pub returns : goal.returns
returns c = well_formed_is
