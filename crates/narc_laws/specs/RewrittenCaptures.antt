-- What `rewrite` without assignments does, also to what `rewrite` wrote.
use Rattle.std.specs.Prelude.{◌≡◌, ℕ, List}
use Rattle.narc_bits.specs.Octets.{IsOctets}
use Rattle.narc_packet.specs.PacketView.{PacketView}
use Rattle.narc_edit.specs.declared.edits.Edits.{Edits}
use Rattle.narc_edit.specs.Assignments.{no_edits}
use Rattle.narc_edit.specs.Edited.{edited}
use Rattle.narc_edit.specs.Ranges.{AreInRange}
use Rattle.narc_run.specs.Job.{Job, Capture, Rewrite}
use Rattle.narc_run.specs.Findings.{Findings, AreFindings}
use Rattle.narc_run.specs.Output.{output}

-- Without assignments a packet stays.
abbrev pub UneditedPacketsStay : Type 0
UneditedPacketsStay = (p : PacketView) → edited no_edits p ≡ p

abbrev pub rewriting : Edits → Job
rewriting es = Capture (Rewrite es)

-- What `rewrite` wrote is written again without assignments.
abbrev pub RewrittenCapturesStay : Type 0
RewrittenCapturesStay = (es : Edits) (s : List ℕ) (found again : Findings) → AreInRange es → IsOctets s → AreFindings (rewriting es) s found
    → AreFindings (rewriting no_edits) (output (rewriting es) s found) again
    → output (rewriting no_edits) (output (rewriting es) s found) again ≡ output (rewriting es) s found
