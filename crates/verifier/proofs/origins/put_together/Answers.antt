-- The lines, and then what they put together.
use Rattle.std.proofs.Common.{sym, subst}
use Rattle.std.proofs.lemmas.Result.{err_from_is_err_and}
use Rattle.blob_source.proofs.Asking.{ok_no_error}
use Rattle.blob_source.proofs.Calling.{called_no, called_then, called_exit}
use Rattle.tree.specs.Merging.{AreHeld, merge_lines, merged}
use Rattle.tree.specs.MergeLooks.{MergeLooksAt}
use Rattle.tree.proofs.Learning.{learns_then, learns_refused, refused_exit}
use Rattle.verifier.proofs.Looking.{together_first, together_next, passes_together, fails_first, fails_merged}
use Rattle.verifier.proofs.Explained.{lines_map, merge_explained}
use Rattle.verifier.specs.Together.{FirstFault, put_together}
use Rattle.verifier.proofs.Checking.{resolves_still}
use Rattle.verifier.proofs.origins.put_together.Goals as goal

pub merge-requires-clause-held : goal.merge-requires-clause-held
merge-requires-clause-held g c = subst (λ ns. AreHeld (merge_lines ns)) (sym c.deref.ensures.value) c.in_ok-nodes.ensures.held

pub merge-requires-clause-known : goal.merge-requires-clause-known
merge-requires-clause-known g c = c.in_ok-nodes.ensures.learned.known

pub returns-in_err-nodes-clause-faulty : goal.returns-in_err-nodes-clause-faulty
returns-in_err-nodes-clause-faulty g c =
    let p = err_from_is_err_and c.from_residual.result c.from_residual.ensures.1 in
    let told = (g.S.BlobSource.tells c.resolve.new.source).blobs in
    let os = g.O.Outcomes.came_to c.args.outcomes.now in
    rw (p.1, p.2) (lines_map (FirstFault told c.args.sources.now os c.args.lines.now) (put_together told c.args.sources.now os c.args.lines.now).fails c.in_err-nodes.field-0.0 (fails_first told c.args.sources.now os c.args.lines.now) c.in_err-nodes.ensures.faulty)

pub returns-in_err-nodes-clause-called : goal.returns-in_err-nodes-clause-called
returns-in_err-nodes-clause-called g c = called_exit c.from_residual.ensures.1 c.in_err-nodes.ensures.called

pub returns-in_err-nodes-clause-learned : goal.returns-in_err-nodes-clause-learned
returns-in_err-nodes-clause-learned g c =
    let told = (g.S.BlobSource.tells c.resolve.new.source).blobs in
    learns_refused (λ a h. together_first told told c.args.sources.now (g.O.Outcomes.came_to c.args.outcomes.now) c.args.lines.now a (λ d b q. q) h) (refused_exit _ _ c.from_residual.ensures.1) c.in_err-nodes.ensures.learned

pub returns-in-Ok-clause-told : goal.returns-in-Ok-clause-told
returns-in-Ok-clause-told g c =
    let mid = (g.S.BlobSource.tells c.resolve.new.source).blobs in
    let new = (g.S.BlobSource.tells c.merge.new.source).blobs in
    let os = g.O.Outcomes.came_to c.args.outcomes.now in
    let nodes = merge_lines c.in_ok-nodes.nodes.items in
    let origins = resolves_still mid new c.args.sources.now os c.args.lines.now nodes c.merge.ensures.called.asked.blobs c.in_ok-nodes.ensures.told in
    let made = (c.in-Ok.ensures {u = tt}).merged in
    (made.0, passes_together new c.args.sources.now os c.args.lines.now nodes made.0 origins (subst (λ ns. (merged new (merge_lines ns)).passes made.0) c.deref.ensures.value made.1), made.2)

pub returns-in-Ok-clause-called : goal.returns-in-Ok-clause-called
returns-in-Ok-clause-called g c = called_no (λ n. n) ok_no_error (called_then (λ n. n) (called_no ok_no_error (λ n. n) c.in_ok-nodes.ensures.called) (called_no ok_no_error (λ n. n) (c.in-Ok.ensures {u = tt}).called))

pub returns-in-Ok-clause-learned : goal.returns-in-Ok-clause-learned
returns-in-Ok-clause-learned g c =
    let mid = (g.S.BlobSource.tells c.resolve.new.source).blobs in
    let new = (g.S.BlobSource.tells c.merge.new.source).blobs in
    let os = g.O.Outcomes.came_to c.args.outcomes.now in
    let grows = c.merge.ensures.called.asked.blobs in
    let nodes = merge_lines c.in_ok-nodes.nodes.items in
    learns_then {t1 = g.S.BlobSource.tells c.resolve.new.source} (λ a. together_first mid new c.args.sources.now os c.args.lines.now a grows)
    (λ a h. together_next mid new c.args.sources.now os c.args.lines.now nodes a grows c.in_ok-nodes.ensures.told (subst (λ ns. MergeLooksAt new (merge_lines ns) a) c.deref.ensures.value h)) (λ n. n)
    c.in_ok-nodes.ensures.learned (c.in-Ok.ensures {u = tt}).learned

pub returns-clause-faulty : goal.returns-clause-faulty
returns-clause-faulty g c =
    let mid = (g.S.BlobSource.tells c.resolve.new.source).blobs in
    let new = (g.S.BlobSource.tells c.merge.new.source).blobs in
    let os = g.O.Outcomes.came_to c.args.outcomes.now in
    let nodes = merge_lines c.in_ok-nodes.nodes.items in
    let origins = resolves_still mid new c.args.sources.now os c.args.lines.now nodes c.merge.ensures.called.asked.blobs c.in_ok-nodes.ensures.told in
    merge_explained (merged new (merge_lines c.deref.result.now)).fails (put_together new c.args.sources.now os c.args.lines.now).fails c.in-Err.error
    (λ why h. fails_merged new c.args.sources.now os c.args.lines.now nodes origins why (subst (λ ns. (merged new (merge_lines ns)).fails why) c.deref.ensures.value h)) (c.in-Err.ensures {u = tt}).refused

pub returns-clause-called : goal.returns-clause-called
returns-clause-called g c = called_then (λ n. n) (called_no ok_no_error (λ n. n) c.in_ok-nodes.ensures.called) (c.in-Err.ensures {u = tt}).called

pub returns-clause-learned : goal.returns-clause-learned
returns-clause-learned g c =
    let mid = (g.S.BlobSource.tells c.resolve.new.source).blobs in
    let new = (g.S.BlobSource.tells c.merge.new.source).blobs in
    let os = g.O.Outcomes.came_to c.args.outcomes.now in
    let grows = c.merge.ensures.called.asked.blobs in
    let nodes = merge_lines c.in_ok-nodes.nodes.items in
    learns_then {t1 = g.S.BlobSource.tells c.resolve.new.source} (λ a. together_first mid new c.args.sources.now os c.args.lines.now a grows)
    (λ a h. together_next mid new c.args.sources.now os c.args.lines.now nodes a grows c.in_ok-nodes.ensures.told (subst (λ ns. MergeLooksAt new (merge_lines ns) a) c.deref.ensures.value h)) (λ n. n)
    c.in_ok-nodes.ensures.learned (learns_refused (λ a h. h) tt (c.in-Err.ensures {u = tt}).learned)
