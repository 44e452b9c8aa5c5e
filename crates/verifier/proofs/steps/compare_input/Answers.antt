-- The recorded input against the tree.
use Rattle.std.proofs.Common.{ap, sym, ◌∙◌}
use Rattle.std.specs.Prelude.{Err}
use Rattle.blob_source.proofs.Asking.{ok_no_error}
use Rattle.blob_source.proofs.Calling.{called_as, err_injective}
use Rattle.tree.proofs.Learning.{learns_refused}
use Rattle.verifier.proofs.Checking.{input_explained, input_looked}
use Rattle.verifier.proofs.ChecksThen.{checks_none, checks_both}
use Rattle.verifier.proofs.SameDigests.{differing_digests, no_other_digests}
use Rattle.verifier.proofs.steps.compare_input.Goals as goal

pub explain_difference-requires-clause-other : goal.explain_difference-requires-clause-other
explain_difference-requires-clause-other g c = λ same. differing_digests c.args.input.now.root c.input_root_digest-recorded.result (sym c.ne.ensures ∙ c.if-ne.true) (sym same)

pub returns-then-ne : goal.returns-then-ne
returns-then-ne g c = λ t fold.
    let B = (g.S.BlobSource.tells c.explain_difference.new.source).blobs in
    let recorded = c.input_root_digest-recorded in
    let other = differing_digests c.args.input.now.root recorded.result (sym c.ne.ensures ∙ c.if-ne.true) in
    checks_both _ _ _ _ (input_explained B c.args.action.now t c.args.input.now recorded.result c.explain_difference.result fold recorded.ensures.value other c.explain_difference.ensures.explained)
    (called_as (λ e. err_injective c.explain_difference.result _ e) (λ e. ap Err e) c.explain_difference.ensures.called)
    (learns_refused (input_looked B c.args.action.now t c.args.input.now recorded.result fold recorded.ensures.value other) tt c.explain_difference.ensures.learned)

pub returns : goal.returns
returns g c = λ t fold.
    let recorded = c.input_root_digest-recorded in
    let same = no_other_digests c.args.input.now.root recorded.result (sym c.ne.ensures ∙ c.if-ne.false) in
    checks_none _ _ _ c.requires.known (sym fold.root ∙ same ∙ recorded.ensures.value) ok_no_error
