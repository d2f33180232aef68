use Rattle.narc_run.specs.Output.{version_line}
use Rattle.narc_run.proofs.UnreadRuns.{version-run, done_line, cut_line}
use Rattle.narc_run.proofs.version.run_version.Goals as goal

pub returns-in-Ok : goal.returns-in-Ok
returns-in-Ok g c = version-run _ _ _ _ c.done.result _ (done_line version_line _ _ _ _ c.done.result c.done.ensures c.in-Ok.ensures.octets c.in-Ok.ensures.faults.later)

pub returns-in-Err : goal.returns-in-Err
returns-in-Err g c = version-run _ _ _ _ c.sink_fault.result _ (cut_line version_line _ _ _ _ c.sink_fault.result c.sink_fault.ensures c.in-Err.ensures.octets c.in-Err.ensures.faults.later c.in-Err.ensures.faults.cause)
