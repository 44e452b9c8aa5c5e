use Rattle.worker.proofs.Keeping.{kept_trans, kept_some}
use Rattle.std.proofs.Common.{◌≡◌, ◌∙◌, Some, None, set, arith, refl, ap, subst, sym, inl, inr}
use Rattle.tree.specs.Memo.{WasRefused}
use Rattle.runs.specs.Calls.{without_job}
use Rattle.runs.specs.Engine.{EngineValue, job_in}
use Rattle.worker.specs.Going.{kept_job}
use Rattle.worker.specs.Stopped.{StopsStep}
use Rattle.worker.proofs.Started.{started_in, started_value, was_started}
use Rattle.std.specs.Prelude.{slice_get}
use Rattle.worker.proofs.Telling.{held_kept}
use Rattle.worker.proofs.Goes.{begun}
use Rattle.worker.specs.Steps.{IsSameBuild}
use Rattle.worker.proofs.Acts.{only_jobs, same_build, same_then}
use Rattle.worker.proofs.Blobs.{launched_same, of_gone_started, of_job_started, others_grown, others_more, others_then, started_same}
use Rattle.worker.proofs.Knowing.{known_of, knows_still, knows_started}
use Rattle.worker.proofs.PutOnce.{put_still}
use Rattle.blob_source.proofs.Asking.{ok_no_error}
use Rattle.worker.proofs.Failures.{counts_none, counts_from, counts_calls, counts_engine}
use Rattle.worker.proofs.beginning.begin.Goals as goal

pub launch-requires : goal.launch-requires
launch-requires g c = record { job = started_in c.in-Ok.ensures.started; put = put_still _ (kept_some c.start.ensures.called).blobs c.requires.knows.put }

pub lose-requires : goal.lose-requires
lose-requires g c =
    let job = c.in-Ok.job in
    (kept_job job, subst (λ (e : EngineValue). job_in job.id e ≡ Some (kept_job job)) (sym c.in-Err-launch.ensures.unchanged) (started_value c.in-Ok.ensures.started))

pub returns-in-Ok-launch-clause-kept : goal.returns-in-Ok-launch-clause-kept
returns-in-Ok-launch-clause-kept g c = kept_trans (kept_some c.start.ensures.called) c.launch.ensures.kept

pub returns-in-Ok-launch-clause-begun : goal.returns-in-Ok-launch-clause-begun
returns-in-Ok-launch-clause-begun g c = begun (g.S.BlobSource.tells c.launch.new.sink) c.in-Ok.ensures.started c.launch.ensures.kept.blobs (kept_some c.start.ensures.called) c.in-Ok-launch.ensures.launched

pub returns-in-Ok-launch-clause-listed : goal.returns-in-Ok-launch-clause-listed
unfolding begun was_started
returns-in-Ok-launch-clause-listed g c = (
  begun (g.S.BlobSource.tells c.launch.new.sink) c.in-Ok.ensures.started c.launch.ensures.kept.blobs (kept_some c.start.ensures.called) c.in-Ok-launch.ensures.launched,
  c.in-Ok-launch.ensures.listed,
)

pub returns-in-Ok-launch-clause-once : goal.returns-in-Ok-launch-clause-once
unfolding begun was_started
returns-in-Ok-launch-clause-once g c = (
  begun (g.S.BlobSource.tells c.launch.new.sink) c.in-Ok.ensures.started c.launch.ensures.kept.blobs (kept_some c.start.ensures.called) c.in-Ok-launch.ensures.launched,
  record {
    calls = (g.S.BlobSource.tells c.start.new.source).calls;
    asked = λ list covers. c.start.ensures.learned.learned (λ refused. subst WasRefused c.in-Ok.is refused) list covers;
    goes = c.in-Ok-launch.ensures.once;
  },
)

pub returns-clause-kept : goal.returns-clause-kept
returns-clause-kept g c = kept_trans (kept_some c.start.ensures.called) c.launch.ensures.kept

pub start-requires-clause-known : goal.start-requires-clause-known
start-requires-clause-known g c = known_of c.requires.knows.memo

pub returns-in-Err-clause-knows : goal.returns-in-Err-clause-knows
returns-in-Err-clause-knows g c = record {
  memo = knows_started c.args.engine.now c.args.step c.requires.knows.memo c.start.ensures.learned;
  put = put_still _ (kept_some c.start.ensures.called).blobs c.requires.knows.put;
}

pub returns-in-Ok-launch-clause-knows : goal.returns-in-Ok-launch-clause-knows
returns-in-Ok-launch-clause-knows g c = record {
  memo = knows_still c.launch.ensures.kept.blobs (knows_started c.args.engine.now c.args.step c.requires.knows.memo c.start.ensures.learned);
  put = c.launch.ensures.put;
}

pub returns-clause-knows : goal.returns-clause-knows
returns-clause-knows g c = record {
  memo = knows_still c.launch.ensures.kept.blobs (knows_started c.args.engine.now c.args.step c.requires.knows.memo c.start.ensures.learned);
  put = c.launch.ensures.put;
}

pub returns-in-Err-clause-stays : goal.returns-in-Err-clause-stays
returns-in-Err-clause-stays g c = record { memo = c.start.ensures.learned.kept; put = λ d among. among }

pub returns-in-Ok-launch-clause-stays : goal.returns-in-Ok-launch-clause-stays
returns-in-Ok-launch-clause-stays g c = record { memo = c.start.ensures.learned.kept; put = c.launch.ensures.stays }

pub returns-clause-stays : goal.returns-clause-stays
returns-clause-stays g c = record { memo = c.start.ensures.learned.kept; put = c.launch.ensures.stays }

pub returns-in-Err-clause-stopped : goal.returns-in-Err-clause-stopped
returns-in-Err-clause-stopped g c = (refl, inl (c.in-Err.ensures.unchanged, inl (c.requires.startable, c.in-Err.ensures.refused)))

pub returns-clause-stopped : goal.returns-clause-stopped
returns-clause-stopped g c =
    let t = g.S.BlobSource.tells c.launch.new.sink in
    let started = c.in-Ok.ensures.started in (
      refl,
      inr (
        c.in-Ok.job.id,
        c.start.new.self,
        was_started started t.blobs c.launch.ensures.kept.blobs,
        c.lose.ensures ∙ ap (without_job c.in-Ok.job.id) c.in-Err-launch.ensures.unchanged,
        subst (λ i. StopsStep (g.N.Runner.yields c.args.runner.now) t c.start.new.self i c.in-Err-launch.refusal) started.prepared.of_step c.in-Err-launch.ensures.refused,
        λ of_child. (
          c.in-Ok.job.id,
          kept_job c.in-Ok.job,
          started_value started,
          started.prepared.of_step,
          (
            c.in-Ok.job.command,
            subst (λ i. slice_get c.start.new.self.commands i ≡ Some c.in-Ok.job.command) started.prepared.of_step (started_in started).command,
            λ v held fits. absurd (c.in-Err-launch.ensures.untaken of_child v (held_kept (kept_some c.start.ensures.called) held) fits),
          ),
        ),
      ),
    )

pub returns-in-Err-clause-fetched : goal.returns-in-Err-clause-fetched
returns-in-Err-clause-fetched g c = counts_engine _ (counts_calls c.in-Err.ensures.called)

pub returns-in-Err-clause-device : goal.returns-in-Err-clause-device
returns-in-Err-clause-device g c = counts_none (λ f. f)

pub returns-in-Ok-launch-clause-fetched : goal.returns-in-Ok-launch-clause-fetched
returns-in-Ok-launch-clause-fetched g c = counts_from (c.in-Ok.ensures.called.unfailed ok_no_error) c.in-Ok-launch.ensures.fetched

pub returns-in-Ok-launch-clause-device : goal.returns-in-Ok-launch-clause-device
returns-in-Ok-launch-clause-device g c = c.in-Ok-launch.ensures.device

pub returns-clause-fetched : goal.returns-clause-fetched
returns-clause-fetched g c = counts_from (c.in-Ok.ensures.called.unfailed ok_no_error) c.in-Err-launch.ensures.fetched

pub returns-clause-device : goal.returns-clause-device
returns-clause-device g c = c.in-Err-launch.ensures.device

pub returns-in-Err-clause-only : goal.returns-in-Err-clause-only
returns-in-Err-clause-only g c = others_grown c.start.ensures.called.asked.blobs

pub returns-in-Ok-launch-clause-build : goal.returns-in-Ok-launch-clause-build
returns-in-Ok-launch-clause-build g c = same_then (started_same c.in-Ok.ensures.started) (launched_same c.in-Ok-launch.ensures.launched)

pub returns-in-Ok-launch-clause-only : goal.returns-in-Ok-launch-clause-only
returns-in-Ok-launch-clause-only g c = others_then (others_grown c.start.ensures.called.asked.blobs)
    (others_more (of_job_started (g.S.BlobSource.tells c.launch.new.sink) c.in-Ok.ensures.started c.launch.ensures.kept.blobs (returns-in-Ok-launch-clause-build g c)) c.launch.ensures.only)

pub returns-in-Ok-launch-clause-whole : goal.returns-in-Ok-launch-clause-whole
returns-in-Ok-launch-clause-whole g c =
    let within = c.requires.within in
    let count = c.plan.ensures.valid.count in
    others_then (others_grown c.start.ensures.called.asked.blobs)
    (others_more (of_gone_started c.in-Ok.ensures.started c.launch.ensures.kept.blobs (returns-in-Ok-launch-clause-build g c) (omega (arith, within, count)) c.requires.startable.waiting.unfinished) c.in-Ok-launch.ensures.gone)

pub returns-in-Err-clause-build : goal.returns-in-Err-clause-build
returns-in-Err-clause-build g c = subst (IsSameBuild c.args.engine.now) (sym c.in-Err.ensures.unchanged) (same_build c.args.engine.now)

pub returns-clause-build : goal.returns-clause-build
returns-clause-build g c =
    let mid = c.start.new.self in
    same_then (started_same c.in-Ok.ensures.started) (only_jobs mid _ (set mid.jobs c.in-Ok.job.id None) (c.lose.ensures ∙ ap (without_job c.in-Ok.job.id) c.in-Err-launch.ensures.unchanged))

pub returns-clause-only : goal.returns-clause-only
returns-clause-only g c = others_then (others_grown c.start.ensures.called.asked.blobs)
    (others_more (of_job_started (g.S.BlobSource.tells c.launch.new.sink) c.in-Ok.ensures.started c.launch.ensures.kept.blobs (returns-clause-build g c)) c.launch.ensures.only)
