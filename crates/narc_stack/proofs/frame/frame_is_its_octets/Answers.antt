use Rattle.narc_stack.proofs.FrameRelation.{frame_stands}
use Rattle.narc_stack.proofs.frame.frame_is_its_octets.Goals as goal

pub returns : goal.returns
returns c = frame_stands
