use Rattle.narc_stack.proofs.FrameWritten.{frame_written}
use Rattle.narc_stack.proofs.frame.frame_is_written_with_padding.Goals as goal

pub returns : goal.returns
returns c = frame_written
