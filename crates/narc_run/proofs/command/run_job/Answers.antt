use Rattle.std.proofs.Common.{◌≡◌, Option, refl, sym, ap, subst}
use Rattle.narc_run.specs.declared.job.Job.TheVariants as variant
use Rattle.narc_run.specs.Job.{Job, Trial, Version}
use Rattle.narc_run.specs.JobView.{job_view}
use Rattle.narc_run.specs.Run.{IsRight}
use Rattle.narc_run.specs.StreamRun.{run_of}
use Rattle.narc_run.proofs.Jobs.{asked_as}
use Rattle.narc_run.proofs.RightJobs.{right_usage}
use Rattle.narc_run.proofs.UnreadRuns.{right_unread, version-later}
use Rattle.narc_run.proofs.command.run_job.Goals as goal

pub returns-in-None : goal.returns-in-None
returns-in-None g c =
    subst (λ (asked : Option Job). IsRight (run_of asked (g.S.Source.left c.args.source.now) (g.S.Source.left c.args.source.now) (g.K.Sink.held c.args.sink.now) (g.K.Sink.held c.run_usage.new.sink)
    (g.S.Source.faults c.args.source.now) (g.S.Source.faults c.args.source.now) (g.K.Sink.faults c.args.sink.now) (g.K.Sink.faults c.run_usage.new.sink)
    c.args.steps.now c.args.steps.now c.run_usage.result.status c.run_usage.result.at) (c.args.source.now ≡ c.args.source.now) (c.run_usage.new.sink ≡ c.args.sink.now)) (sym (ap job_view c.in-None.is))
    (right_usage (g.S.Source.left c.args.source.now) (g.K.Sink.held c.args.sink.now) (g.K.Sink.held c.run_usage.new.sink) (g.S.Source.faults c.args.source.now) (g.K.Sink.faults c.args.sink.now) (g.K.Sink.faults c.run_usage.new.sink)
    c.args.steps.now c.run_usage.result c.run_usage.ensures _ _ refl)

pub returns-in-Some-Frame : goal.returns-in-Some-Frame
returns-in-Some-Frame g c =
    let same = c.in-Some-Frame.field-0-is in
    subst (λ (asked : Option Job). IsRight (run_of asked (g.S.Source.left c.args.source.now) (g.S.Source.left c.run_frame.new.source) (g.K.Sink.held c.args.sink.now) (g.K.Sink.held c.run_frame.new.sink)
    (g.S.Source.faults c.args.source.now) (g.S.Source.faults c.run_frame.new.source) (g.K.Sink.faults c.args.sink.now) (g.K.Sink.faults c.run_frame.new.sink)
    c.args.steps.now c.run_frame.new.steps c.run_frame.result.status c.run_frame.result.at) (c.run_frame.new.source ≡ c.args.source.now) (c.run_frame.new.sink ≡ c.args.sink.now)) (asked_as _ c.in-Some-Frame.field-0 variant.Frame c.in-Some-Frame.is same) c.run_frame.ensures

pub returns-in-Some-Show : goal.returns-in-Some-Show
returns-in-Some-Show g c =
    let same = c.in-Some-Show.field-0-is in
    subst (λ (asked : Option Job). IsRight (run_of asked (g.S.Source.left c.args.source.now) (g.S.Source.left c.run_show.new.source) (g.K.Sink.held c.args.sink.now) (g.K.Sink.held c.run_show.new.sink)
    (g.S.Source.faults c.args.source.now) (g.S.Source.faults c.run_show.new.source) (g.K.Sink.faults c.args.sink.now) (g.K.Sink.faults c.run_show.new.sink)
    c.args.steps.now c.run_show.new.steps c.run_show.result.status c.run_show.result.at) (c.run_show.new.source ≡ c.args.source.now) (c.run_show.new.sink ≡ c.args.sink.now)) (asked_as _ c.in-Some-Show.field-0 variant.Show c.in-Some-Show.is same) c.run_show.ensures

pub returns-in-Some-Check : goal.returns-in-Some-Check
returns-in-Some-Check g c =
    let same = c.in-Some-Check.field-0-is in
    subst (λ (asked : Option Job). IsRight (run_of asked (g.S.Source.left c.args.source.now) (g.S.Source.left c.run_check.new.source) (g.K.Sink.held c.args.sink.now) (g.K.Sink.held c.run_check.new.sink)
    (g.S.Source.faults c.args.source.now) (g.S.Source.faults c.run_check.new.source) (g.K.Sink.faults c.args.sink.now) (g.K.Sink.faults c.run_check.new.sink)
    c.args.steps.now c.run_check.new.steps c.run_check.result.status c.run_check.result.at) (c.run_check.new.source ≡ c.args.source.now) (c.run_check.new.sink ≡ c.args.sink.now)) (asked_as _ c.in-Some-Check.field-0 variant.Check c.in-Some-Check.is same) c.run_check.ensures

pub returns-in-Some-Edit : goal.returns-in-Some-Edit
returns-in-Some-Edit g c =
    let same = c.in-Some-Edit.field-0-is in
    subst (λ (asked : Option Job). IsRight (run_of asked (g.S.Source.left c.args.source.now) (g.S.Source.left c.run_edit.new.source) (g.K.Sink.held c.args.sink.now) (g.K.Sink.held c.run_edit.new.sink)
    (g.S.Source.faults c.args.source.now) (g.S.Source.faults c.run_edit.new.source) (g.K.Sink.faults c.args.sink.now) (g.K.Sink.faults c.run_edit.new.sink)
    c.args.steps.now c.run_edit.new.steps c.run_edit.result.status c.run_edit.result.at) (c.run_edit.new.source ≡ c.args.source.now) (c.run_edit.new.sink ≡ c.args.sink.now)) (asked_as _ c.in-Some-Edit.field-0 (variant.Edit c.in-Some-Edit.way c.in-Some-Edit.edits) c.in-Some-Edit.is same) c.run_edit.ensures

pub returns-in-Some-Build : goal.returns-in-Some-Build
returns-in-Some-Build g c =
    let same = c.in-Some-Build.field-0-is in
    subst (λ (asked : Option Job). IsRight (run_of asked (g.S.Source.left c.args.source.now) (g.S.Source.left c.run_build.new.source) (g.K.Sink.held c.args.sink.now) (g.K.Sink.held c.run_build.new.sink)
    (g.S.Source.faults c.args.source.now) (g.S.Source.faults c.run_build.new.source) (g.K.Sink.faults c.args.sink.now) (g.K.Sink.faults c.run_build.new.sink)
    c.args.steps.now c.run_build.new.steps c.run_build.result.status c.run_build.result.at) (c.run_build.new.source ≡ c.args.source.now) (c.run_build.new.sink ≡ c.args.sink.now)) (asked_as _ c.in-Some-Build.field-0 variant.Build c.in-Some-Build.is same) c.run_build.ensures

pub returns-in-Some-Trial : goal.returns-in-Some-Trial
returns-in-Some-Trial g c =
    let same = c.in-Some-Trial.field-0-is in
    subst (λ (asked : Option Job). IsRight (run_of asked (g.S.Source.left c.args.source.now) (g.S.Source.left c.args.source.now) (g.K.Sink.held c.args.sink.now) (g.K.Sink.held c.run_trial.new.sink)
    (g.S.Source.faults c.args.source.now) (g.S.Source.faults c.args.source.now) (g.K.Sink.faults c.args.sink.now) (g.K.Sink.faults c.run_trial.new.sink)
    c.args.steps.now c.run_trial.new.steps c.run_trial.result.status c.run_trial.result.at) (c.args.source.now ≡ c.args.source.now) (c.run_trial.new.sink ≡ c.args.sink.now)) (asked_as _ c.in-Some-Trial.field-0 (variant.Trial c.in-Some-Trial.seed c.in-Some-Trial.count) c.in-Some-Trial.is same)
    (right_unread (Trial c.in-Some-Trial.seed c.in-Some-Trial.count) (g.S.Source.left c.args.source.now) (g.K.Sink.held c.args.sink.now) (g.K.Sink.held c.run_trial.new.sink)
    (g.S.Source.faults c.args.source.now) (g.K.Sink.faults c.args.sink.now) (g.K.Sink.faults c.run_trial.new.sink) c.args.steps.now c.run_trial.new.steps c.run_trial.result _ _ c.run_trial.ensures refl)

pub returns-in-Some-Version : goal.returns-in-Some-Version
returns-in-Some-Version g c =
    let same = c.in-Some-Version.field-0-is in
    subst (λ (asked : Option Job). IsRight (run_of asked (g.S.Source.left c.args.source.now) (g.S.Source.left c.args.source.now) (g.K.Sink.held c.args.sink.now) (g.K.Sink.held c.run_version.new.sink)
    (g.S.Source.faults c.args.source.now) (g.S.Source.faults c.args.source.now) (g.K.Sink.faults c.args.sink.now) (g.K.Sink.faults c.run_version.new.sink)
    c.args.steps.now c.args.steps.now c.run_version.result.status c.run_version.result.at) (c.args.source.now ≡ c.args.source.now) (c.run_version.new.sink ≡ c.args.sink.now)) (asked_as _ c.in-Some-Version.field-0 variant.Version c.in-Some-Version.is same)
    (right_unread Version (g.S.Source.left c.args.source.now) (g.K.Sink.held c.args.sink.now) (g.K.Sink.held c.run_version.new.sink)
    (g.S.Source.faults c.args.source.now) (g.K.Sink.faults c.args.sink.now) (g.K.Sink.faults c.run_version.new.sink) c.args.steps.now c.args.steps.now c.run_version.result _ _
    (version-later _ _ _ _ c.args.steps.now c.run_version.result _ c.run_version.ensures) refl)
