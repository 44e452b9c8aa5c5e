-- The encodings are those that the graft made, and a difference below the roots is the first.
use Rattle.std.proofs.Common.{ap, sym, ◌∙◌, subst, map}
use Rattle.std.proofs.lemmas.Result.{err_from_is_err_and}
use Rattle.std.specs.List.{AllByRecursion}
use Rattle.blob_digest.specs.Digest.{digest_of}
use Rattle.tree.specs.Folded.{items_of}
use Rattle.tree.specs.Difference.{differing, FindsFirst, ExplainsDifference, LeavesOwn}
use Rattle.tree.specs.Comparing.{IsEncoding}
use Rattle.tree.proofs.ValidTrees.{valid_own}
use Rattle.tree.proofs.OwnDirectories.{digests_beside}
use Rattle.tree.specs.LooksAt.{Compares}
use Rattle.tree.proofs.Learning.{learns_more, learns_refused, refused_exit}
use Rattle.tree.proofs.comparing.first_difference.Goals as goal

pub difference_below-requires-clause-own : goal.difference_below-requires-clause-own
difference_below-requires-clause-own g c = record {
  digests = c.deref-3.ensures.value ∙ c.in_ok-digests.ensures {u = tt} ∙ ap (map (λ e. digest_of e.items)) (c.deref.ensures.value ∙ sym c.deref-2.ensures.value) ∙ digests_beside c.deref-2.result.now;
  valid = subst (AllByRecursion IsEncoding) (sym (ap items_of c.deref-2.ensures.value)) (valid_own c.args.grafted.now c.requires.valid);
}

pub returns-in_err-first-clause-refused : goal.returns-in_err-first-clause-refused
returns-in_err-first-clause-refused g c =
    let p = err_from_is_err_and c.from_residual-in_err-first.result c.from_residual-in_err-first.ensures.1 in
    let B = (g.S.BlobSource.tells c.difference_below.new.source).blobs in
    rw (p.1, p.2) (subst (λ own. ExplainsDifference (FindsFirst own B c.args.grafted.now.root c.args.recorded.now) c.in_err-first.field-0.0) (ap items_of c.deref-2.ensures.value) (c.in_err-first.ensures {u = tt}).refused)

pub returns-clause-found : goal.returns-clause-found
returns-clause-found g c =
    let B = (g.S.BlobSource.tells c.difference_below.new.source).blobs in
    subst (λ own. FindsFirst own B c.args.grafted.now.root c.args.recorded.now (differing c.in_ok-first.first)) (ap items_of c.deref-2.ensures.value) (c.in_ok-first.ensures {u = tt}).found

pub returns-in_err-first-clause-unasked_own : goal.returns-in_err-first-clause-unasked_own
returns-in_err-first-clause-unasked_own g c =
    subst (λ own. LeavesOwn own (g.S.BlobSource.tells c.args.source.now).blobs (g.S.BlobSource.tells c.difference_below.new.source).blobs) (ap items_of c.deref-2.ensures.value) c.difference_below.ensures.unasked

pub returns-clause-unasked_own : goal.returns-clause-unasked_own
returns-clause-unasked_own g c =
    subst (λ own. LeavesOwn own (g.S.BlobSource.tells c.args.source.now).blobs (g.S.BlobSource.tells c.difference_below.new.source).blobs) (ap items_of c.deref-2.ensures.value) c.difference_below.ensures.unasked

pub returns-in_err-first-clause-learned : goal.returns-in_err-first-clause-learned
returns-in_err-first-clause-learned g c =
    let B = (g.S.BlobSource.tells c.difference_below.new.source).blobs in
    learns_refused (λ a h. subst (λ own. Compares own B 64 c.args.grafted.now.root c.args.recorded.now a) (ap items_of c.deref-2.ensures.value) h) (refused_exit _ _ c.from_residual-in_err-first.ensures.1) (c.in_err-first.ensures {u = tt}).learned

pub returns-clause-learned : goal.returns-clause-learned
returns-clause-learned g c =
    let B = (g.S.BlobSource.tells c.difference_below.new.source).blobs in
    learns_more (λ a h. subst (λ own. Compares own B 64 c.args.grafted.now.root c.args.recorded.now a) (ap items_of c.deref-2.ensures.value) h) (λ n. n) (c.in_ok-first.ensures {u = tt}).learned
