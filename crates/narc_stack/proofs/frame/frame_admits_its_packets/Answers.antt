use Rattle.narc_stack.proofs.FrameAdmits.{frame_admits}
use Rattle.narc_stack.proofs.frame.frame_admits_its_packets.Goals as goal

pub returns : goal.returns
returns c = frame_admits
