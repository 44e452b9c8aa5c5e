use Rattle.std.proofs.Common.{◌≡◌, subst}
use Rattle.worker.specs.declared.runner.RunError.{RunError}
use Rattle.worker.specs.declared.runner.RunError.TheVariants.{BadOutput, NotAbsolute}
use Rattle.processes.specs.Running.{TellsCame, may_come}
use Rattle.processes.proofs.Ends.{ends_absolute, ends_bad, ends_tells, ends_told, finish_ends}
use Rattle.processes.proofs.running.ProcessRunnerRunner.finish.Goals as goal

pub returns-in-Ok-clause-gave : goal.returns-in-Ok-clause-gave
returns-in-Ok-clause-gave g c =
    let works = g.W.Workshop.works in
    let ends = finish_ends works c.args.job.started.child c.args.job.program _ _ _ _ c.wait-ended.result c.come_to.result c.wait-ended.ensures.ended c.wait-ended.ensures.failed c.come_to.ensures c.as_str.ensures.value c.deref.ensures.value in
    subst (TellsCame (may_come works c.args.job)) c.in-Ok.is ends

pub returns-clause-device : goal.returns-clause-device
returns-clause-device g c =
    let works = g.W.Workshop.works in
    let ends = finish_ends works c.args.job.started.child c.args.job.program _ _ _ _ c.wait-ended.result c.come_to.result c.wait-ended.ensures.ended c.wait-ended.ensures.failed c.come_to.ensures c.as_str.ensures.value c.deref.ensures.value in
    ends_tells (may_come works c.args.job) c.refuse.result (ends_told (may_come works c.args.job) c.in-Err.error c.refuse.result (subst (TellsCame (may_come works c.args.job)) c.in-Err.is ends) c.refuse.ensures.only)

pub returns-clause-bad : goal.returns-clause-bad
returns-clause-bad g c path told =
    let works = g.W.Workshop.works in
    let ends = finish_ends works c.args.job.started.child c.args.job.program _ _ _ _ c.wait-ended.result c.come_to.result c.wait-ended.ensures.ended c.wait-ended.ensures.failed c.come_to.ensures c.as_str.ensures.value c.deref.ensures.value in
    let is : ◌≡◌ {A = RunError g.row.A.Denot} c.refuse.result (BadOutput path) = let e = told in cc in
    ends_bad (may_come works c.args.job) c.refuse.result (ends_told (may_come works c.args.job) c.in-Err.error c.refuse.result (subst (TellsCame (may_come works c.args.job)) c.in-Err.is ends) c.refuse.ensures.only) path is

pub returns-clause-absolute : goal.returns-clause-absolute
returns-clause-absolute g c told =
    let works = g.W.Workshop.works in
    let ends = finish_ends works c.args.job.started.child c.args.job.program _ _ _ _ c.wait-ended.result c.come_to.result c.wait-ended.ensures.ended c.wait-ended.ensures.failed c.come_to.ensures c.as_str.ensures.value c.deref.ensures.value in
    let is : ◌≡◌ {A = RunError g.row.A.Denot} c.refuse.result NotAbsolute = let e = told in cc in
    ends_absolute (may_come works c.args.job) c.refuse.result (ends_told (may_come works c.args.job) c.in-Err.error c.refuse.result (subst (TellsCame (may_come works c.args.job)) c.in-Err.is ends) c.refuse.ensures.only) is
