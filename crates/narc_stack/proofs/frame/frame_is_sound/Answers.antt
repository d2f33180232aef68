use Rattle.narc_stack.proofs.FrameSound.{frame_sound}
use Rattle.narc_stack.proofs.frame.frame_is_sound.Goals as goal

pub returns : goal.returns
returns c = frame_sound
