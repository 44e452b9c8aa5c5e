use Rattle.std.proofs.Common.{ap, sym, subst, ◌∙◌}
use Rattle.std.specs.Prelude.{Some, Ok}
use Rattle.blob_source.specs.Source.{bytes_of}
use Rattle.blob_source.proofs.Asking.{ok_no_error}
use Rattle.blob_source.proofs.Calling.{called_no, calls_some}
use Rattle.blob_source.specs.declared.source.FetchError.{FetchError}
use Rattle.tree.specs.Memo.{IsWithout}
use Rattle.tree.proofs.Learning.{learns_more, learns_refused, refused_exit}
use Rattle.verifier.proofs.Checking.{held_answer}
use Rattle.verifier.proofs.steps.held_result.Goals as goal

pub returns-in-Some-clause-called : goal.returns-in-Some-clause-called
returns-in-Some-clause-called g c =
    called_no ok_no_error c.decode_result.ensures.fetch (calls_some c.in_ok-result.ensures.called)

pub returns-in-Some-clause-checked : goal.returns-in-Some-clause-checked
returns-in-Some-clause-checked g c =
    let told = sym ((c.in_ok-result.ensures {u = tt}).told) ∙ ap bytes_of c.in-Some.is ∙ ap Some (sym c.deref.ensures.value) in
    held_answer (g.S.BlobSource.tells c.result.new.source).results c.args.recorded.now c.deref.result.now c.decode_result.result told c.decode_result.ensures.found c.decode_result.ensures.none

pub returns-in_err-result-clause-learned : goal.returns-in_err-result-clause-learned
returns-in_err-result-clause-learned g c = learns_refused (λ a h. h) (refused_exit _ _ c.from_residual.ensures.1) c.in_err-result.ensures.learned

pub returns-in-None-clause-learned : goal.returns-in-None-clause-learned
returns-in-None-clause-learned g c = learns_refused (λ a h. h) tt c.in_ok-result.ensures.learned

pub returns-in-Some-clause-learned : goal.returns-in-Some-clause-learned
returns-in-Some-clause-learned g c = learns_more (λ a h. h) (λ none without. subst (λ o. IsWithout {E = FetchError} (Ok o)) c.in-Some.is without) c.in_ok-result.ensures.learned
