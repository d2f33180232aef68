use Rattle.narc_stack.proofs.FrameAnswers.{either, unrefused, one_packet}
use Rattle.narc_stack.proofs.frame.octets_are_a_frame_or_refused.Goals as goal

pub returns-clause-either : goal.returns-clause-either
returns-clause-either c = λ b each small. either b each small

pub returns-clause-never_both : goal.returns-clause-never_both
returns-clause-never_both c = λ b p f. unrefused b f.octets p f

pub returns-clause-one_packet : goal.returns-clause-one_packet
returns-clause-one_packet c = λ b p q f g. one_packet b f.octets p q f g
