use Rattle.std.proofs.Common.{ap, subst}
use Rattle.std.proofs.lemmas.Result.{err_from_is_err_and}
use Rattle.blob_source.proofs.Asking.{ok_no_error}
use Rattle.blob_source.proofs.Calling.{called_no}
use Rattle.tree.proofs.Learning.{learns_more, learns_refused, refused_exit}
use Rattle.tree.specs.Folded.{IsFoldOfPassed}
use Rattle.verifier.specs.Together.{ExplainsLines, TogetherLooksAt, put_together}
use Rattle.runs.specs.Engine.{EngineValue}
use Rattle.runs.specs.Looking.{outcomes_in}
use Rattle.runs.proofs.Fetching.{fetching_refused}
use Rattle.runs.proofs.engine.Engine.put_together.Goals as goal

pub returns-in_err-folded-clause-faulty : goal.returns-in_err-folded-clause-faulty
returns-in_err-folded-clause-faulty g c =
    let p = err_from_is_err_and c.from_residual.result c.from_residual.ensures.1 in
    let told = (g.S.BlobSource.tells c.put_together.new.source).blobs in
    let why = c.in_err-folded.field-0.0 in
    rw p.1 (why, subst (λ d. ExplainsLines (put_together told d (outcomes_in c.args.self.now.finished) c.args.lines.now).fails why) (ap (λ (e : EngineValue). e.sources) c.self.view_is) c.in_err-folded.ensures.faulty, p.2)

pub returns-in_err-folded-clause-called : goal.returns-in_err-folded-clause-called
returns-in_err-folded-clause-called g c = fetching_refused c.from_residual.ensures.1 c.in_err-folded.ensures.called

pub returns-in_err-folded-clause-learned : goal.returns-in_err-folded-clause-learned
returns-in_err-folded-clause-learned g c =
    let told = (g.S.BlobSource.tells c.put_together.new.source).blobs in
    learns_refused (λ a h. subst (λ d. TogetherLooksAt told d (outcomes_in c.args.self.now.finished) c.args.lines.now a) (ap (λ (e : EngineValue). e.sources) c.self.view_is) h) (refused_exit _ _ c.from_residual.ensures.1) c.in_err-folded.ensures.learned

pub returns-clause-told : goal.returns-clause-told
returns-clause-told g c =
    let told = (g.S.BlobSource.tells c.put_together.new.source).blobs in
    subst (λ d. IsFoldOfPassed (put_together told d (outcomes_in c.args.self.now.finished) c.args.lines.now) c.in_ok-folded.folded) (ap (λ (e : EngineValue). e.sources) c.self.view_is) c.in_ok-folded.ensures.told

pub returns-clause-called : goal.returns-clause-called
returns-clause-called g c = called_no ok_no_error ok_no_error c.in_ok-folded.ensures.called

pub returns-clause-learned : goal.returns-clause-learned
returns-clause-learned g c =
    let told = (g.S.BlobSource.tells c.put_together.new.source).blobs in
    learns_more (λ a h. subst (λ d. TogetherLooksAt told d (outcomes_in c.args.self.now.finished) c.args.lines.now a) (ap (λ (e : EngineValue). e.sources) c.self.view_is) h) (λ n. n) c.in_ok-folded.ensures.learned
