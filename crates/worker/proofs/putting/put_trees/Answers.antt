use Rattle.std.proofs.Common.{◌≡◌, ◌≢◌, ◌+◌, ◌≤◌, [], ◌∷◌, append-nil, length, ap, arith, sym, subst, ◌∙◌}
use Rattle.std.proofs.lemmas.Result.{err_from_is_err_and}
use Rattle.std.specs.List.{AllByRecursion}
use Rattle.messages.specs.Tree.{tree_bytes}
use Rattle.blob_digest.specs.Digest.{DigestValue, digest_of}
use Rattle.blob_source.specs.Sink.{HasRight}
use Rattle.actions.specs.Outcome.{output_value}
use Rattle.actions.specs.declared.outcome.Output.TheVariants as outputs
use Rattle.worker.specs.Stored.{IsKept, PutsNoOther}
use Rattle.worker.specs.Outcomes.{directories_of, HasTree, tree_blobs}
use Rattle.worker.proofs.Keeping.{kept_none, kept_trans, kept_blob, right_put, all_right_still, fetch_fault, only_one, only_then}
use Rattle.worker.proofs.PutOnce.{call_counts}
use Rattle.worker.proofs.Storing.{trees_taken, no_tree, tree_blobs_more, tree_so}
use Rattle.blob_source.proofs.Asking.{ok_no_error}
use Rattle.worker.specs.Counted.{IsFetch}
use Rattle.worker.proofs.Failures.{counts_none, counts_same, counts_from, counts_exit, counts_put, counts_calls}
use Rattle.worker.proofs.putting.put_trees.Goals as goal
use Rattle.worker.proofs.putting.put_trees.Goals.{in-Tree+in_ok-put_directories+in_ok-encode+in_ok-put_blob, in_default}

pub returns-in_err-put_directories-clause-kept : goal.returns-in_err-put_directories-clause-kept
returns-in_err-put_directories-clause-kept g c = kept_trans c.loop-output.invariant.kept c.put_directories.ensures.kept

pub returns-in_err-encode-clause-kept : goal.returns-in_err-encode-clause-kept
returns-in_err-encode-clause-kept g c = kept_trans c.loop-output.invariant.kept c.put_directories.ensures.kept

pub returns-in_err-put_blob-clause-kept : goal.returns-in_err-put_blob-clause-kept
returns-in_err-put_blob-clause-kept g c = kept_trans c.loop-output.invariant.kept (kept_trans c.put_directories.ensures.kept (kept_blob c.put_blob.ensures.called))

pub returns-in_err-put_blob-clause-failed : goal.returns-in_err-put_blob-clause-failed
returns-in_err-put_blob-clause-failed g c =
    let p = err_from_is_err_and c.from_residual-in_err-put_blob.result c.from_residual-in_err-put_blob.ensures.1 in
    rw (p.1, p.2) (fetch_fault _ c.in_err-put_blob.field-0.0)

pub loop-output-preserved : goal.loop-output-preserved
loop-output-preserved g c =
    let tells = g.S.BlobSource.tells in
    let before = (tells c.loop-output.sink).blobs in
    let x = c.output-item.result in
    elim c.match-output.branch [
      | in-Tree+in_ok-put_directories+in_ok-encode+in_ok-put_blob w ↦
          let kept : IsKept (tells c.loop-output.sink) (tells c.match-output.sink) = subst (λ s. IsKept (tells c.loop-output.sink) (tells s)) (sym w.sink-is) (kept_trans w.put_directories.ensures.kept (kept_blob w.put_blob.ensures.called)) in
          let after = (tells w.put_blob.new.self).blobs in
          let one : HasRight after _ = right_put (tells w.put_directories.new.sink).blobs after (w.in_ok-put_blob.ensures {u = tt}).held in
          let so : (d : DigestValue) → AllByRecursion (λ b. digest_of b ≢ d) (tree_blobs c.args.outcome.now.outputs) → (digest_of (tree_bytes w.in-Tree.tree) ≢ d) × AllByRecursion (λ b. digest_of b ≢ d) (directories_of w.in-Tree.tree)
          = λ d all. tree_so (λ b. digest_of b ≢ d) _ c.loop-output.output-index x w.in-Tree.tree c.loop-output-test.true c.output-item.is w.in-Tree.is (subst (λ es. AllByRecursion (λ b. digest_of b ≢ d) (tree_blobs es)) (sym c.outputs-output-items.ensures.value) all) in
          record {
            kept = kept_trans c.loop-output.invariant.kept kept;
            once =
                let trees = (w.in_ok-put_directories.ensures {u = tt}).once in
                let blob = call_counts w.put_blob.ensures.called.asked.counts in
                let here : (tells w.put_blob.new.self).calls ≤ (tells c.loop-output.sink).calls + length (tree_blobs ((x.0, outputs.Tree w.in-Tree.tree) ∷ [])) = (let none = ap length (append-nil (directories_of w.in-Tree.tree)) in omega (arith, trees, blob, none)) in
                let one = subst (λ o. (tells w.put_blob.new.self).calls ≤ (tells c.loop-output.sink).calls + length (tree_blobs ((x.0, output_value o) ∷ []))) (sym w.in-Tree.is) here in
                let ends = ap (λ s. (tells s).calls) w.sink-is in
                let was = c.loop-output.invariant.once in
                let more = tree_blobs_more _ c.loop-output.output-index x c.loop-output-test.true c.output-item.is in
                omega (arith, one, ends, was, more);
            only = subst (λ s. PutsNoOther (tree_blobs c.args.outcome.now.outputs) (tells c.args.sink.now).blobs (tells s).blobs) (sym w.sink-is) (only_then c.loop-output.invariant.only
                (only_then (record { same = λ d all. w.put_directories.ensures.only.same d (so d all).1 }) (only_one (λ d all. subst (λ bs. digest_of bs ≢ d) (sym (w.deref.ensures.value ∙ (w.in_ok-encode.ensures {u = tt}).bytes)) (so d all).0) w.put_blob.ensures.called)));
            fetched = subst (λ s. (tells s).failures ≡ (tells c.args.sink.now).failures) (sym w.sink-is) ((w.in_ok-put_blob.ensures {u = tt}).called.unfailed ok_no_error ∙ (w.in_ok-put_directories.ensures {u = tt}).fetched.unfailed (λ f. f) ∙ c.loop-output.invariant.fetched);
            held = trees_taken before (tells c.match-output.sink).blobs _ c.loop-output.output-index x c.loop-output-test.true c.output-item.is kept.blobs c.loop-output.invariant.held
                (subst (λ o. HasTree (tells c.match-output.sink).blobs (x.0, output_value o)) (sym w.in-Tree.is)
                (subst (λ s. HasTree (tells s).blobs (x.0, outputs.Tree w.in-Tree.tree)) (sym w.sink-is) (
                  subst (λ bs. HasRight after (digest_of bs)) (w.deref.ensures.value ∙ (w.in_ok-encode.ensures {u = tt}).bytes) one,
                  all_right_still (tells w.put_directories.new.sink).blobs after (directories_of w.in-Tree.tree) (kept_blob w.put_blob.ensures.called).blobs (w.in_ok-put_directories.ensures {u = tt}).held,
                )));
          }
      | in_default w ↦
          let kept : IsKept (tells c.loop-output.sink) (tells c.match-output.sink) = subst (λ s. IsKept (tells c.loop-output.sink) (tells s)) (sym w.sink-is) kept_none in
          record {
            kept = kept_trans c.loop-output.invariant.kept kept;
            once =
                let ends = ap (λ s. (tells s).calls) w.sink-is in
                let was = c.loop-output.invariant.once in
                let more = tree_blobs_more _ c.loop-output.output-index x c.loop-output-test.true c.output-item.is in
                omega (arith, ends, was, more);
            only = subst (λ s. PutsNoOther (tree_blobs c.args.outcome.now.outputs) (tells c.args.sink.now).blobs (tells s).blobs) (sym w.sink-is) c.loop-output.invariant.only;
            fetched = subst (λ s. (tells s).failures ≡ (tells c.args.sink.now).failures) (sym w.sink-is) c.loop-output.invariant.fetched;
            held = trees_taken before (tells c.match-output.sink).blobs _ c.loop-output.output-index x c.loop-output-test.true c.output-item.is kept.blobs c.loop-output.invariant.held
                (no_tree (tells c.match-output.sink).blobs x.0 x.1 w.in_default.not-Tree);
          }
    ]

pub returns-in_err-put_directories-clause-only : goal.returns-in_err-put_directories-clause-only
returns-in_err-put_directories-clause-only g c = only_then c.loop-output.invariant.only (record { same = λ d all. c.put_directories.ensures.only.same d (tree_so (λ b. digest_of b ≢ d) _ c.loop-output.output-index c.output-item.result c.in-Tree.tree c.loop-output-test.true c.output-item.is c.in-Tree.is (subst (λ es. AllByRecursion (λ b. digest_of b ≢ d) (tree_blobs es)) (sym c.outputs-output-items.ensures.value) all)).1 })

pub returns-in_err-encode-clause-only : goal.returns-in_err-encode-clause-only
returns-in_err-encode-clause-only g c = only_then c.loop-output.invariant.only (record { same = λ d all. c.put_directories.ensures.only.same d (tree_so (λ b. digest_of b ≢ d) _ c.loop-output.output-index c.output-item.result c.in-Tree.tree c.loop-output-test.true c.output-item.is c.in-Tree.is (subst (λ es. AllByRecursion (λ b. digest_of b ≢ d) (tree_blobs es)) (sym c.outputs-output-items.ensures.value) all)).1 })

pub returns-in_err-put_blob-clause-only : goal.returns-in_err-put_blob-clause-only
returns-in_err-put_blob-clause-only g c =
    only_then (only_then c.loop-output.invariant.only (record { same = λ d all. c.put_directories.ensures.only.same d (tree_so (λ b. digest_of b ≢ d) _ c.loop-output.output-index c.output-item.result c.in-Tree.tree c.loop-output-test.true c.output-item.is c.in-Tree.is (subst (λ es. AllByRecursion (λ b. digest_of b ≢ d) (tree_blobs es)) (sym c.outputs-output-items.ensures.value) all)).1 })) (only_one (λ d all. subst (λ bs. digest_of bs ≢ d) (sym (c.deref.ensures.value ∙ c.in_ok-encode.ensures.bytes)) (tree_so (λ b. digest_of b ≢ d) _ c.loop-output.output-index c.output-item.result c.in-Tree.tree c.loop-output-test.true c.output-item.is c.in-Tree.is (subst (λ es. AllByRecursion (λ b. digest_of b ≢ d) (tree_blobs es)) (sym c.outputs-output-items.ensures.value) all)).0) c.put_blob.ensures.called)

pub returns-clause-only : goal.returns-clause-only
returns-clause-only g c = c.loop-output.invariant.only

pub returns-in_err-put_directories-clause-fetched : goal.returns-in_err-put_directories-clause-fetched
returns-in_err-put_directories-clause-fetched g c = counts_from c.loop-output.invariant.fetched (counts_exit IsFetch c.from_residual.result c.from_residual.ensures.1 (c.in_err-put_directories.ensures.fetched))

pub returns-in_err-encode-clause-fetched : goal.returns-in_err-encode-clause-fetched
returns-in_err-encode-clause-fetched g c = counts_from (c.in_ok-put_directories.ensures.fetched.unfailed (λ f. f) ∙ c.loop-output.invariant.fetched) (counts_exit IsFetch c.from_residual-in_err-encode.result c.from_residual-in_err-encode.ensures.1 (counts_none (λ f. f)))

pub returns-in_err-put_blob-clause-fetched : goal.returns-in_err-put_blob-clause-fetched
returns-in_err-put_blob-clause-fetched g c = counts_from (c.in_ok-put_directories.ensures.fetched.unfailed (λ f. f) ∙ c.loop-output.invariant.fetched) (counts_exit IsFetch c.from_residual-in_err-put_blob.result c.from_residual-in_err-put_blob.ensures.1 (counts_put _ _ (counts_calls c.in_err-put_blob.ensures.called)))

pub returns-clause-fetched : goal.returns-clause-fetched
returns-clause-fetched g c = counts_same (λ f. f) c.loop-output.invariant.fetched
