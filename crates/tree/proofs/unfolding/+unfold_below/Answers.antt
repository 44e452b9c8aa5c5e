-- The entries so far, and those of the next child.
use Rattle.std.proofs.Common.{[], ◌∷◌, ◌++◌, length, ap, sym, subst, ◌∙◌, arith, rules, length-append}
use Rattle.std.proofs.lemmas.Result.{err_from_is_err_and}
use Rattle.std.proofs.lemmas.Map.Iter.{rest_more, rest_all}
use Rattle.messages.specs.declared.node.Node.TheVariants as nodes
use Rattle.tree.specs.Form.{node_value}
use Rattle.tree.specs.FlatTree.{flat_value}
use Rattle.tree.specs.Lookup.{names_in}
use Rattle.tree.specs.Unfolding.{child_values, AreChildren, ExplainsChild}
use Rattle.blob_source.proofs.Asking.{ok_no_error}
use Rattle.blob_source.proofs.Calling.{called_exit, called_no, called_on, calls_some}
use Rattle.tree.proofs.Leaving.{others_more, others_then}
use Rattle.tree.proofs.Ways.{unfold_here, unfold_still}
use Rattle.tree.proofs.FoundEntries.{asks_below, asks_done, asks_root}
use Rattle.tree.proofs.UnfoldSteps.{Unfolds, child_looks, fault_here, unfolds_first, unfolds_leaf, unfolds_folder, unfolds_end, child_too_deep, child_fault, flat_pushed, counts_leaf, counts_folder}
use Rattle.tree.proofs.unfolding.+unfold_below.Goals as goal
use Rattle.tree.proofs.unfolding.+unfold_below.Goals.{in-File+in_ok-push-in-File, in-Link+in_ok-push-in-Link, in-Dir+in_ok-push-in-Dir+in_ok-unfold_below-in-Dir+in-Some-1, in-Dir+in_ok-push-in-Dir+in_ok-unfold_below-in-Dir+in-None-1}

pub returns-in_err-directory-clause-refused : goal.returns-in_err-directory-clause-refused
returns-in_err-directory-clause-refused g t c =
    let p = err_from_is_err_and c.from_residual.result c.from_residual.ensures.1 in
    rw (p.1, p.2) (fault_here _ c.args.digest.now _ _ c.in_err-directory.ensures.faulty)

pub returns-in_err-directory-clause-only : goal.returns-in_err-directory-clause-only
returns-in_err-directory-clause-only g t c = others_more (unfold_here c.args.digest.now) c.fetch_message.ensures.only

pub returns-in_err-name-items-clause-only : goal.returns-in_err-name-items-clause-only
returns-in_err-name-items-clause-only g t c = others_more (unfold_here c.args.digest.now) c.fetch_message.ensures.only

pub loop-name-init : goal.loop-name-init
loop-name-init g t c = record {
  next = tt;
  finite = tt;
  called = calls_some (called_no ok_no_error (λ n. n) c.in_ok-directory.ensures.called);
  only = others_more (unfold_here c.args.digest.now) c.fetch_message.ensures.only;
  few = omega (arith, c.fetch_message.ensures.called.asked.most_calls);
  unfolds = unfolds_first _ c.args.digest.now c.in_ok-directory.directory (names_in c.args.above.now) _ _ c.in_ok-directory.ensures.told
      (subst (λ l. AreChildren (child_values l) c.in_ok-directory.directory) (sym c.into_iter-name-iterator.ensures.into_iter_gives.0) (c.in_ok-items.ensures {u = tt}));
}

pub returns-in_err-path-clause-refused : goal.returns-in_err-path-clause-refused
returns-in_err-path-clause-refused g t c =
    let p = err_from_is_err_and c.from_residual-in_err-path.result c.from_residual-in_err-path.ensures.1 in
    let steps = rest_more (λ x. x) c.loop-name.name-iterator c.next.new.self c.next.result (c.in-Some.name, c.in-Some.node) c.in-Some.is c.next.ensures.steps in
    let unfolds = subst (λ l. Unfolds (g.S.BlobSource.tells c.loop-name.source).blobs c.args.digest.now (names_in c.args.above.now) (flat_value c.args.entries.now.items) (flat_value c.loop-name.entries.items) (child_values l)) steps c.loop-name.invariant.unfolds in
    let full = subst (λ o. ExplainsChild o c.in_err-path.field-0.0) c.as_ref.ensures.value c.in_err-path.ensures.refused in
    rw (p.1, p.2) (child_too_deep _ c.args.digest.now c.args.above.now _ _ c.in-Some.name (node_value c.in-Some.node) (child_values c.next.new.self) _ unfolds full)

pub unfold_below-requires : goal.unfold_below-requires
unfold_below-requires g t c κs within =
    let few = (c.in_ok-names.ensures {u = tt}).valid.few in
    let path = c.in_ok-path.ensures.path ∙ ap (λ o. names_in o ++ c.in-Some.name ∷ []) c.as_ref.ensures.value in
    let longer = ap length path ∙ length-append (names_in c.args.above.now) (c.in-Some.name ∷ []) in
    (omega (arith, few, longer, c.decreases), within)

pub returns-in_err-unfold_below-in-Dir-clause-refused : goal.returns-in_err-unfold_below-in-Dir-clause-refused
returns-in_err-unfold_below-in-Dir-clause-refused g t c =
    let p = err_from_is_err_and c.from_residual-in_err-unfold_below-in-Dir.result c.from_residual-in_err-unfold_below-in-Dir.ensures.1 in
    let steps = rest_more (λ x. x) c.loop-name.name-iterator c.next.new.self c.next.result (c.in-Some.name, c.in-Some.node) c.in-Some.is c.next.ensures.steps in
    let unfolds = subst (λ l. Unfolds (g.S.BlobSource.tells c.loop-name.source).blobs c.args.digest.now (names_in c.args.above.now) (flat_value c.args.entries.now.items) (flat_value c.loop-name.entries.items) (child_values l)) steps c.loop-name.invariant.unfolds in
    let node = subst (λ x. Unfolds (g.S.BlobSource.tells c.loop-name.source).blobs c.args.digest.now (names_in c.args.above.now) (flat_value c.args.entries.now.items) (flat_value c.loop-name.entries.items) ((c.in-Some.name, node_value x) ∷ child_values c.next.new.self)) c.in-Dir.is unfolds in
    let path = c.in_ok-path.ensures.path ∙ ap (λ o. names_in o ++ c.in-Some.name ∷ []) c.as_ref.ensures.value in
    rw (p.1, p.2) (child_fault _ _ c.args.digest.now c.in-Dir.digest (names_in c.args.above.now) c.in_ok-path.path _ _ c.in-Some.name (child_values c.next.new.self) _ c.unfold_below.ensures.called.asked.blobs node path (c.in_ok-names.ensures {u = tt}).valid.few c.in_err-unfold_below-in-Dir.ensures.refused)

pub returns-in_err-unfold_below-in-Dir-clause-called : goal.returns-in_err-unfold_below-in-Dir-clause-called
returns-in_err-unfold_below-in-Dir-clause-called g t c =
    called_on c.loop-name.invariant.called (called_exit c.from_residual-in_err-unfold_below-in-Dir.ensures.1 c.in_err-unfold_below-in-Dir.ensures.called)

pub returns-in_err-unfold_below-in-Dir-clause-only : goal.returns-in_err-unfold_below-in-Dir-clause-only
returns-in_err-unfold_below-in-Dir-clause-only g t c =
    let steps = rest_more (λ x. x) c.loop-name.name-iterator c.next.new.self c.next.result (c.in-Some.name, c.in-Some.node) c.in-Some.is c.next.ensures.steps in
    let unfolds = subst (λ l. Unfolds (g.S.BlobSource.tells c.loop-name.source).blobs c.args.digest.now (names_in c.args.above.now) (flat_value c.args.entries.now.items) (flat_value c.loop-name.entries.items) (child_values l)) steps c.loop-name.invariant.unfolds in
    let node = subst (λ x. Unfolds (g.S.BlobSource.tells c.loop-name.source).blobs c.args.digest.now (names_in c.args.above.now) (flat_value c.args.entries.now.items) (flat_value c.loop-name.entries.items) ((c.in-Some.name, node_value x) ∷ child_values c.next.new.self)) c.in-Dir.is unfolds in
    let grows = c.unfold_below.ensures.called.asked.blobs in
    others_then (λ a. unfold_still c.args.digest.now a grows) (λ a. child_looks _ _ c.args.digest.now c.in-Dir.digest (names_in c.args.above.now) _ _ c.in-Some.name (child_values c.next.new.self) a grows node)
    c.loop-name.invariant.only c.unfold_below.ensures.only

pub returns-in_err-path-clause-called : goal.returns-in_err-path-clause-called
returns-in_err-path-clause-called g t c = called_no (λ n. n) (search rules) c.loop-name.invariant.called

pub returns-in_err-names-clause-called : goal.returns-in_err-names-clause-called
returns-in_err-names-clause-called g t c = called_no (λ n. n) (search rules) c.loop-name.invariant.called

pub returns-in_err-push-in-File-clause-called : goal.returns-in_err-push-in-File-clause-called
returns-in_err-push-in-File-clause-called g t c = called_no (λ n. n) (search rules) c.loop-name.invariant.called

pub returns-in_err-push-in-Dir-clause-called : goal.returns-in_err-push-in-Dir-clause-called
returns-in_err-push-in-Dir-clause-called g t c = called_no (λ n. n) (search rules) c.loop-name.invariant.called

pub loop-name-preserved : goal.loop-name-preserved
loop-name-preserved g t c =
    let steps = rest_more (λ x. x) c.loop-name.name-iterator c.next.new.self c.next.result (c.in-Some.name, c.in-Some.node) c.in-Some.is c.next.ensures.steps in
    let unfolds = subst (λ l. Unfolds (g.S.BlobSource.tells c.loop-name.source).blobs c.args.digest.now (names_in c.args.above.now) (flat_value c.args.entries.now.items) (flat_value c.loop-name.entries.items) (child_values l)) steps c.loop-name.invariant.unfolds in
    let path = c.in_ok-path.ensures.path ∙ ap (λ o. names_in o ++ c.in-Some.name ∷ []) c.as_ref.ensures.value in
    let names = c.in_ok-names.ensures {u = tt} in
    let before = λ (x : nodes.the_data g.row.A.Denot). Unfolds (g.S.BlobSource.tells c.loop-name.source).blobs c.args.digest.now (names_in c.args.above.now) (flat_value c.args.entries.now.items) (flat_value c.loop-name.entries.items) ((c.in-Some.name, node_value x) ∷ child_values c.next.new.self) in
    elim c.match-node-3.branch [
      | in-File+in_ok-push-in-File w ↦
          let pushed = flat_pushed c.loop-name.entries.items w.push.new.self.items c.in_ok-names.names _ c.in_ok-path.path names.value (w.in_ok-push-in-File.ensures {u = tt}).items in
          rw (w.source-is, w.entries-is) (record {
            next = tt;
            finite = tt;
            called = c.loop-name.invariant.called;
            only = c.loop-name.invariant.only;
            few = omega (arith, c.loop-name.invariant.few, counts_leaf _ _ c.in_ok-path.path _ pushed);
            unfolds = unfolds_leaf _ _ c.args.digest.now (names_in c.args.above.now) _ _ _ c.in-Some.name _ c.in_ok-path.path (child_values c.next.new.self) (λ e b h. h) (subst before w.in-File.is unfolds) (λ e i. cc) path names.valid pushed;
          })
      | in-Link+in_ok-push-in-Link w ↦
          let pushed = flat_pushed c.loop-name.entries.items w.push-in-Link.new.self.items c.in_ok-names.names _ c.in_ok-path.path names.value (w.in_ok-push-in-Link.ensures {u = tt}).items in
          rw (w.source-is, w.entries-is) (record {
            next = tt;
            finite = tt;
            called = c.loop-name.invariant.called;
            only = c.loop-name.invariant.only;
            few = omega (arith, c.loop-name.invariant.few, counts_leaf _ _ c.in_ok-path.path _ pushed);
            unfolds = unfolds_leaf _ _ c.args.digest.now (names_in c.args.above.now) _ _ _ c.in-Some.name _ c.in_ok-path.path (child_values c.next.new.self) (λ e b h. h) (subst before w.in-Link.is unfolds) (λ e i. cc) path names.valid pushed;
          })
      | in-Dir+in_ok-push-in-Dir+in_ok-unfold_below-in-Dir+in-Some-1 w ↦
          let pushed = flat_pushed c.loop-name.entries.items w.push-in-Dir.new.self.items c.in_ok-names.names _ c.in_ok-path.path names.value (w.in_ok-push-in-Dir.ensures {u = tt}).items in
          rw (w.source-is, w.entries-is) (record {
            next = tt;
            finite = tt;
            called = called_on c.loop-name.invariant.called (called_no ok_no_error (λ n. n) (w.in_ok-unfold_below-in-Dir.ensures {u = tt}).called);
            only = others_then (λ a. unfold_still c.args.digest.now a w.unfold_below.ensures.called.asked.blobs)
                (λ a. child_looks _ _ c.args.digest.now w.in-Dir.digest (names_in c.args.above.now) _ _ c.in-Some.name (child_values c.next.new.self) a w.unfold_below.ensures.called.asked.blobs (subst before w.in-Dir.is unfolds))
                c.loop-name.invariant.only w.unfold_below.ensures.only;
            few = omega (arith, c.loop-name.invariant.few, counts_folder _ _ c.in_ok-path.path pushed, (w.in_ok-unfold_below-in-Dir.ensures {u = tt}).few);
            unfolds = unfolds_folder _ _ c.args.digest.now (names_in c.args.above.now) _ _ _ _ c.in-Some.name w.in-Dir.digest c.in_ok-path.path (child_values c.next.new.self) w.unfold_below.ensures.called.asked.blobs (subst before w.in-Dir.is unfolds) path names.valid pushed (w.in_ok-unfold_below-in-Dir.ensures {u = tt}).told;
          })
      | in-Dir+in_ok-push-in-Dir+in_ok-unfold_below-in-Dir+in-None-1 w ↦
          let pushed = flat_pushed c.loop-name.entries.items w.push-in-Dir.new.self.items c.in_ok-names.names _ c.in_ok-path.path names.value (w.in_ok-push-in-Dir.ensures {u = tt}).items in
          rw (w.source-is, w.entries-is) (record {
            next = tt;
            finite = tt;
            called = called_on c.loop-name.invariant.called (called_no ok_no_error (λ n. n) (w.in_ok-unfold_below-in-Dir.ensures {u = tt}).called);
            only = others_then (λ a. unfold_still c.args.digest.now a w.unfold_below.ensures.called.asked.blobs)
                (λ a. child_looks _ _ c.args.digest.now w.in-Dir.digest (names_in c.args.above.now) _ _ c.in-Some.name (child_values c.next.new.self) a w.unfold_below.ensures.called.asked.blobs (subst before w.in-Dir.is unfolds))
                c.loop-name.invariant.only w.unfold_below.ensures.only;
            few = omega (arith, c.loop-name.invariant.few, counts_folder _ _ c.in_ok-path.path pushed, (w.in_ok-unfold_below-in-Dir.ensures {u = tt}).few);
            unfolds = unfolds_folder _ _ c.args.digest.now (names_in c.args.above.now) _ _ _ _ c.in-Some.name w.in-Dir.digest c.in_ok-path.path (child_values c.next.new.self) w.unfold_below.ensures.called.asked.blobs (subst before w.in-Dir.is unfolds) path names.valid pushed (w.in_ok-unfold_below-in-Dir.ensures {u = tt}).told;
          })
    ]

pub returns-clause-told : goal.returns-clause-told
returns-clause-told g t c =
    let none = rest_all (λ x. x) c.loop-name.name-iterator c.next.new.self c.next.result c.in-None.is c.next.ensures.steps in
    unfolds_end _ c.args.digest.now _ _ _ (subst (λ l. Unfolds (g.S.BlobSource.tells c.loop-name.source).blobs c.args.digest.now (names_in c.args.above.now) (flat_value c.args.entries.now.items) (flat_value c.loop-name.entries.items) (child_values l)) none c.loop-name.invariant.unfolds)

-- ---- one call for each directory

pub returns-in_err-directory-clause-once : goal.returns-in_err-directory-clause-once
returns-in_err-directory-clause-once g t c = asks_root _ c.args.digest.now _ _ c.fetch_message.ensures.called.asked.most_calls

pub returns-in_err-name-items-clause-once : goal.returns-in_err-name-items-clause-once
returns-in_err-name-items-clause-once g t c = asks_root _ c.args.digest.now _ _ c.fetch_message.ensures.called.asked.most_calls

pub returns-in_err-path-clause-once : goal.returns-in_err-path-clause-once
returns-in_err-path-clause-once g t c = asks_done _ c.args.digest.now _ _ _ _ c.loop-name.invariant.unfolds _ _ c.loop-name.invariant.few

pub returns-in_err-names-clause-once : goal.returns-in_err-names-clause-once
returns-in_err-names-clause-once g t c = asks_done _ c.args.digest.now _ _ _ _ c.loop-name.invariant.unfolds _ _ c.loop-name.invariant.few

pub returns-in_err-push-in-File-clause-once : goal.returns-in_err-push-in-File-clause-once
returns-in_err-push-in-File-clause-once g t c = asks_done _ c.args.digest.now _ _ _ _ c.loop-name.invariant.unfolds _ _ c.loop-name.invariant.few

pub returns-in_err-push-in-Link-clause-once : goal.returns-in_err-push-in-Link-clause-once
returns-in_err-push-in-Link-clause-once g t c = asks_done _ c.args.digest.now _ _ _ _ c.loop-name.invariant.unfolds _ _ c.loop-name.invariant.few

pub returns-in_err-push-in-Dir-clause-once : goal.returns-in_err-push-in-Dir-clause-once
returns-in_err-push-in-Dir-clause-once g t c = asks_done _ c.args.digest.now _ _ _ _ c.loop-name.invariant.unfolds _ _ c.loop-name.invariant.few

pub returns-in_err-unfold_below-in-Dir-clause-once : goal.returns-in_err-unfold_below-in-Dir-clause-once
returns-in_err-unfold_below-in-Dir-clause-once g t c =
    let steps = rest_more (λ x. x) c.loop-name.name-iterator c.next.new.self c.next.result (c.in-Some.name, c.in-Some.node) c.in-Some.is c.next.ensures.steps in
    let unfolds = subst (λ l. Unfolds (g.S.BlobSource.tells c.loop-name.source).blobs c.args.digest.now (names_in c.args.above.now) (flat_value c.args.entries.now.items) (flat_value c.loop-name.entries.items) (child_values l)) steps c.loop-name.invariant.unfolds in
    let node = subst (λ x. Unfolds (g.S.BlobSource.tells c.loop-name.source).blobs c.args.digest.now (names_in c.args.above.now) (flat_value c.args.entries.now.items) (flat_value c.loop-name.entries.items) ((c.in-Some.name, node_value x) ∷ child_values c.next.new.self)) c.in-Dir.is unfolds in
    asks_below _ _ c.args.digest.now c.in-Dir.digest _ _ _ c.in-Some.name (child_values c.next.new.self) _ _ _ c.unfold_below.ensures.called.asked.blobs node c.loop-name.invariant.few c.unfold_below.ensures.once

pub returns-clause-once : goal.returns-clause-once
returns-clause-once g t c = asks_done _ c.args.digest.now _ _ _ _ c.loop-name.invariant.unfolds _ _ c.loop-name.invariant.few
