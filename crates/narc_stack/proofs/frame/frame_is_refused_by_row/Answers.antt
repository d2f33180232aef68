use Rattle.narc_stack.proofs.FrameRelation.{frame_refuses}
use Rattle.narc_stack.proofs.frame.frame_is_refused_by_row.Goals as goal

pub returns : goal.returns
returns c = frame_refuses
