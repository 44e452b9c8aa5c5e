use Rattle.std.specs.Prelude.{OnOk}
use Rattle.std.proofs.Common.{◌≡◌, ◌∙◌, [], ◌∷◌, ◌++◌, Some, ap, subst, sym, inl, inr}
use Rattle.runs.specs.Calls.{without_job}
use Rattle.runs.specs.Engine.{EngineValue, job_in}
use Rattle.std.proofs.lemmas.Result.{IfErr-weaker}
use Rattle.worker.specs.Storing.{PutsMade}
use Rattle.worker.proofs.Lefts.{finished_there}
use Rattle.worker.proofs.Taking.{ends_put, on_ok}
use Rattle.worker.proofs.Failures.{counts_same, counts_from, put_no_device}
use Rattle.worker.proofs.ending.settle.Goals as goal

pub put_outcome-requires : goal.put_outcome-requires
put_outcome-requires g c =
    let e = c.in-Ok.ensures.ended in
    finished_there c.args.engine.now c.take.new.engine c.args.child.id c.args.child.step e.produced.outcome c.requires.there.0 c.plan.ensures.valid e.finished c.requires.there.1 c.requires.there.2.step

pub lose-requires : goal.lose-requires
lose-requires g c =
    let j = c.requires.there in
    (j.0, subst (λ (e : EngineValue). job_in c.args.child.id e ≡ Some j.0) (sym c.in-Err.ensures.unchanged) j.1)

pub returns-in-Ok-clause-ended : goal.returns-in-Ok-clause-ended
returns-in-Ok-clause-ended g c =
    on_ok c.put_outcome.result (ends_put g.N.Runner.may_give (g.S.BlobSource.tells c.args.sink.now) (g.S.BlobSource.tells c.take.new.sink) (g.S.BlobSource.tells c.put_outcome.new.sink) c.args.child c.args.engine.now c.take.new.engine c.requires.there.0 c.requires.there.1 c.requires.there.2 c.take.ensures.kept c.in-Ok.ensures.ended c.put_outcome.ensures.kept)

pub returns-in-Ok-clause-stopped : goal.returns-in-Ok-clause-stopped
returns-in-Ok-clause-stopped g c =
    IfErr-weaker c.put_outcome.result _ _ (λ r h. inr (ends_put g.N.Runner.may_give (g.S.BlobSource.tells c.args.sink.now) (g.S.BlobSource.tells c.take.new.sink) (g.S.BlobSource.tells c.put_outcome.new.sink) c.args.child c.args.engine.now c.take.new.engine c.requires.there.0 c.requires.there.1 c.requires.there.2 c.take.ensures.kept c.in-Ok.ensures.ended c.put_outcome.ensures.kept, h)) c.put_outcome.ensures.failed

pub returns-in-Err-clause-stopped : goal.returns-in-Err-clause-stopped
returns-in-Err-clause-stopped g c =
    let j = c.requires.there in
    inl (
      (j.0, j.1, c.lose.ensures ∙ ap (without_job c.args.child.id) c.in-Err.ensures.unchanged),
      c.take.ensures.kept,
      c.in-Err.ensures.refused,
    )

pub returns-in-Ok-clause-listed : goal.returns-in-Ok-clause-listed
returns-in-Ok-clause-listed g c = subst (λ ds. OnOk c.put_outcome.result ((g.S.BlobSource.tells c.put_outcome.new.sink).puts ≡ ds ++ c.args.child.action ∷ [])) c.take.ensures.kept.puts c.put_outcome.ensures.listed

pub returns-in-Ok-clause-only : goal.returns-in-Ok-clause-only
returns-in-Ok-clause-only g c = subst (PutsMade (g.N.Runner.may_give c.args.child.job) (g.S.BlobSource.tells c.args.sink.now).blobs) (sym c.put_outcome.ensures.blobs) c.take.ensures.only

pub returns-in-Ok-clause-fetched : goal.returns-in-Ok-clause-fetched
returns-in-Ok-clause-fetched g c = counts_from (c.in-Ok.ensures.fetched.unfailed (λ f. f)) c.put_outcome.ensures.fetched

pub returns-in-Ok-clause-device : goal.returns-in-Ok-clause-device
returns-in-Ok-clause-device g c = counts_same (put_no_device c.put_outcome.result c.put_outcome.ensures.failed) (c.in-Ok.ensures.device.unfailed (λ f. f))

pub returns-in-Err-clause-fetched : goal.returns-in-Err-clause-fetched
returns-in-Err-clause-fetched g c = c.in-Err.ensures.fetched

pub returns-in-Err-clause-device : goal.returns-in-Err-clause-device
returns-in-Err-clause-device g c = c.in-Err.ensures.device
