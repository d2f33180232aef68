use Rattle.narc_patch.proofs.PatchedFrames.{patched_frames_are_edited}
use Rattle.narc_patch.proofs.laws.patched_frames_are_edited.Goals as goal

pub returns : goal.returns
returns c = patched_frames_are_edited
