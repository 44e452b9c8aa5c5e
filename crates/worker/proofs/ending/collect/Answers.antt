use Rattle.std.proofs.Common.{ap, inl, inr, refl, subst}
use Rattle.std.proofs.lemmas.Result.{err_from_is_err_and}
use Rattle.worker.proofs.Stopping.{end_comes}
use Rattle.worker.specs.Values.{ProducedValue}
use Rattle.tree.specs.Folded.{items_of}
use Rattle.worker.specs.Outcomes.{HasAllRight, tree_blobs}
use Rattle.worker.specs.Stored.{PutsNoOther}
use Rattle.worker.proofs.Keeping.{kept_trans, all_right_still, only_behind, only_front, only_then}
use Rattle.std.proofs.Common.{◌∙◌}
use Rattle.worker.specs.Counted.{IsDevice, IsFetch}
use Rattle.worker.proofs.Failures.{counts_none, counts_same, counts_from, counts_exit, store_no_device}
use Rattle.worker.proofs.ending.collect.Goals as goal

pub returns-in_err-put_trees-clause-kept : goal.returns-in_err-put_trees-clause-kept
returns-in_err-put_trees-clause-kept g c = kept_trans c.put_all.ensures.kept c.put_trees.ensures.kept

pub returns-clause-kept : goal.returns-clause-kept
returns-clause-kept g c = kept_trans c.put_all.ensures.kept c.put_trees.ensures.kept

pub returns-clause-gave : goal.returns-clause-gave
returns-clause-gave g c =
    let put = (g.S.BlobSource.tells c.put_all.new.sink).blobs in
    let end = (g.S.BlobSource.tells c.put_trees.new.sink).blobs in
    let bs = items_of c.outcome.inside.blobs.items in
    let held : HasAllRight put bs = subst (λ vs. HasAllRight put (items_of vs)) c.deref.ensures.value c.in_ok-put_all.ensures.held in (
      c.in_ok-outcome.field-0,
      c.in_ok-outcome.ensures.gave,
      ap (λ (p : ProducedValue). p.outcome) c.outcome.view_is,
      subst (λ (p : ProducedValue). HasAllRight end p.blobs) c.outcome.view_is (all_right_still put end bs c.put_trees.ensures.kept.blobs held),
    )

pub returns-in_err-outcome-clause-only : goal.returns-in_err-outcome-clause-only
returns-in_err-outcome-clause-only g c = inl refl

pub returns-in_err-put_all-clause-only : goal.returns-in_err-put_all-clause-only
returns-in_err-put_all-clause-only g c =
    let old = (g.S.BlobSource.tells c.args.sink.now).blobs in
    let put = (g.S.BlobSource.tells c.put_all.new.sink).blobs in
    let own = subst (λ (p : ProducedValue). PutsNoOther p.blobs old put) c.outcome.view_is (subst (λ vs. PutsNoOther (items_of vs) old put) c.deref.ensures.value c.put_all.ensures.only) in
    inr (c.in_ok-outcome.field-0, c.in_ok-outcome.ensures.gave, only_front _ _ own)

pub returns-in_err-put_trees-clause-only : goal.returns-in_err-put_trees-clause-only
returns-in_err-put_trees-clause-only g c =
    let old = (g.S.BlobSource.tells c.args.sink.now).blobs in
    let put = (g.S.BlobSource.tells c.put_all.new.sink).blobs in
    let end = (g.S.BlobSource.tells c.put_trees.new.sink).blobs in
    let own = subst (λ (p : ProducedValue). PutsNoOther p.blobs old put) c.outcome.view_is (subst (λ vs. PutsNoOther (items_of vs) old put) c.deref.ensures.value c.put_all.ensures.only) in
    let trees = subst (λ (p : ProducedValue). PutsNoOther (tree_blobs p.outcome.outputs) put end) c.outcome.view_is c.put_trees.ensures.only in
    inr (c.in_ok-outcome.field-0, c.in_ok-outcome.ensures.gave, only_then (only_front _ _ own) (only_behind _ _ trees))

pub returns-clause-only : goal.returns-clause-only
returns-clause-only g c =
    let old = (g.S.BlobSource.tells c.args.sink.now).blobs in
    let put = (g.S.BlobSource.tells c.put_all.new.sink).blobs in
    let end = (g.S.BlobSource.tells c.put_trees.new.sink).blobs in
    let own = subst (λ (p : ProducedValue). PutsNoOther p.blobs old put) c.outcome.view_is (subst (λ vs. PutsNoOther (items_of vs) old put) c.deref.ensures.value c.put_all.ensures.only) in
    let trees = subst (λ (p : ProducedValue). PutsNoOther (tree_blobs p.outcome.outputs) put end) c.outcome.view_is c.put_trees.ensures.only in
    inr (c.in_ok-outcome.field-0, c.in_ok-outcome.ensures.gave, only_then (only_front _ _ own) (only_behind _ _ trees))

pub returns-in_err-outcome-clause-refused : goal.returns-in_err-outcome-clause-refused
returns-in_err-outcome-clause-refused g c =
    let p = err_from_is_err_and c.from_residual.result c.from_residual.ensures.1 in
    rw (p.1, p.2) (end_comes (g.N.Runner.may_give c.args.job) c.in_err-outcome.field-0.0 c.in_err-outcome.ensures.absolute c.in_err-outcome.ensures.bad c.in_err-outcome.ensures.device)

pub returns-in_err-outcome-clause-fetched : goal.returns-in_err-outcome-clause-fetched
returns-in_err-outcome-clause-fetched g c = counts_exit IsFetch c.from_residual.result c.from_residual.ensures.1 (counts_none (λ f. f))

pub returns-in_err-outcome-clause-device : goal.returns-in_err-outcome-clause-device
returns-in_err-outcome-clause-device g c = counts_exit IsDevice c.from_residual.result c.from_residual.ensures.1 c.in_err-outcome.ensures.counted

pub returns-in_err-put_all-clause-fetched : goal.returns-in_err-put_all-clause-fetched
returns-in_err-put_all-clause-fetched g c = counts_exit IsFetch c.from_residual-in_err-put_all.result c.from_residual-in_err-put_all.ensures.1 (c.in_err-put_all.ensures.fetched)

pub returns-in_err-put_trees-clause-fetched : goal.returns-in_err-put_trees-clause-fetched
returns-in_err-put_trees-clause-fetched g c = counts_from (c.in_ok-put_all.ensures.fetched.unfailed (λ f. f)) (counts_exit IsFetch c.from_residual-in_err-put_trees.result c.from_residual-in_err-put_trees.ensures.1 (c.in_err-put_trees.ensures.fetched))

pub returns-in_err-put_all-clause-device : goal.returns-in_err-put_all-clause-device
returns-in_err-put_all-clause-device g c = counts_from (c.in_ok-outcome.ensures.counted.unfailed (λ f. f)) (counts_exit IsDevice c.from_residual-in_err-put_all.result c.from_residual-in_err-put_all.ensures.1 (counts_none (store_no_device c.in_err-put_all.field-0.0 c.in_err-put_all.ensures.failed)))

pub returns-in_err-put_trees-clause-device : goal.returns-in_err-put_trees-clause-device
returns-in_err-put_trees-clause-device g c = counts_from (c.in_ok-outcome.ensures.counted.unfailed (λ f. f)) (counts_exit IsDevice c.from_residual-in_err-put_trees.result c.from_residual-in_err-put_trees.ensures.1 (counts_none (store_no_device c.in_err-put_trees.field-0.0 c.in_err-put_trees.ensures.failed)))

pub returns-clause-fetched : goal.returns-clause-fetched
returns-clause-fetched g c = counts_same (λ f. f) (c.in_ok-put_trees.ensures.fetched.unfailed (λ f. f) ∙ c.in_ok-put_all.ensures.fetched.unfailed (λ f. f))

pub returns-clause-device : goal.returns-clause-device
returns-clause-device g c = counts_same (λ f. f) (c.in_ok-outcome.ensures.counted.unfailed (λ f. f))
