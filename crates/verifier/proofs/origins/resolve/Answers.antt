-- The nodes so far, and the line's.
use Rattle.std.proofs.Common.{◌≡◌, ◌+◌, List, ◌∷◌, [], ◌++◌, ap, sym, subst, ◌∙◌, drop, rules}
use Rattle.std.proofs.lemmas.List.{map-append}
use Rattle.std.proofs.lemmas.Result.{err_from_is_err_and}
use Rattle.verifier.specs.Together.{LineFault, FirstFault}
use Rattle.tree.specs.Tree.{Name}
use Rattle.tree.specs.Merging.{AreHeld, NodeWithin, merge_lines, node_within}
use Rattle.blob_source.proofs.Asking.{ok_no_error}
use Rattle.blob_source.proofs.Calling.{called_none, called_no, called_on, called_exit}
use Rattle.verifier.proofs.Explained.{lines_map}
use Rattle.verifier.proofs.HeldOrigins.{held_push}
use Rattle.verifier.proofs.Lines.{LinesGoOn, lines_first, lines_next, lines_end, lines_fault, there_at}
use Rattle.tree.proofs.Learning.{learns_none, learns_then, learns_refused, refused_exit}
use Rattle.verifier.proofs.Looking.{lines_look_first, lines_look_here, lines_look_next, lines_look_still}
use Rattle.verifier.proofs.origins.resolve.Goals as goal

pub find_origin-requires-clause-there : goal.find_origin-requires-clause-there
find_origin-requires-clause-there g c = there_at _ c.args.lines.now c.loop-line.line-index c.line-item.result c.loop-line-test.true c.line-item.is c.requires.there

pub find_origin-requires-clause-known : goal.find_origin-requires-clause-known
find_origin-requires-clause-known g c = c.loop-line.invariant.learned.known

pub loop-line-init : goal.loop-line-init
loop-line-init g c = record { called = called_none (λ n. n); goes = subst (λ ns. LinesGoOn (g.S.BlobSource.tells c.args.source.now).blobs c.args.sources.now (g.O.Outcomes.came_to c.args.outcomes.now) c.args.lines.now (merge_lines ns) c.args.lines.now) (sym c.new-nodes.ensures.items) (lines_first _ _ _ _); held = subst (λ ns. AreHeld (merge_lines ns)) (sym c.new-nodes.ensures.items) tt; look = lines_look_first _ _ _ _; learned = learns_none c.requires.known }

pub returns-in_err-node-clause-faulty : goal.returns-in_err-node-clause-faulty
returns-in_err-node-clause-faulty g c =
    let p = err_from_is_err_and c.from_residual.result c.from_residual.ensures.1 in
    let tells = g.S.BlobSource.tells c.find_origin.new.source in
    rw (p.1, p.2) (lines_map (LineFault tells.blobs c.args.sources.now (g.O.Outcomes.came_to c.args.outcomes.now) c.line-item.result) (FirstFault tells.blobs c.args.sources.now (g.O.Outcomes.came_to c.args.outcomes.now) c.args.lines.now) c.in_err-node.field-0.0
    (λ why h. lines_fault _ _ c.args.sources.now (g.O.Outcomes.came_to c.args.outcomes.now) c.args.lines.now _ c.loop-line.line-index c.line-item.result why c.loop-line-test.true c.line-item.is c.loop-line.invariant.goes c.find_origin.ensures.called.asked.blobs h) c.in_err-node.ensures.faulty)

pub loop-line-preserved : goal.loop-line-preserved
loop-line-preserved g c =
    let line = c.line-item.result in
    let x = node_within c.in_ok-node.node c.in_ok-node.within in
    let item : List Name × NodeWithin = (line.target, x) in
    let pushed : c.push.new.self.items ≡ c.loop-line.nodes.items ++ (line.target, c.in_ok-node.node, c.in_ok-node.within) ∷ [] = search rules in
    let values : merge_lines c.push.new.self.items ≡ merge_lines c.loop-line.nodes.items ++ item ∷ [] = ap merge_lines pushed ∙ map-append (λ l. (l.0, node_within l.1 l.2)) c.loop-line.nodes.items ((line.target, c.in_ok-node.node, c.in_ok-node.within) ∷ []) in
    record {
      called = called_on c.loop-line.invariant.called (called_no ok_no_error (λ n. n) c.in_ok-node.ensures.called);
      goes = subst (λ xs. LinesGoOn (g.S.BlobSource.tells c.find_origin.new.source).blobs c.args.sources.now (g.O.Outcomes.came_to c.args.outcomes.now) c.args.lines.now xs (drop (c.loop-line.line-index + 1) c.args.lines.now)) (sym values)
          (lines_next _ _ c.args.sources.now (g.O.Outcomes.came_to c.args.outcomes.now) c.args.lines.now (merge_lines c.loop-line.nodes.items) c.loop-line.line-index line x c.loop-line-test.true c.line-item.is c.loop-line.invariant.goes c.find_origin.ensures.called.asked.blobs (c.in_ok-node.ensures {u = tt}).told);
      held = subst AreHeld (sym values) (held_push (merge_lines c.loop-line.nodes.items) item c.loop-line.invariant.held (c.in_ok-node.ensures {u = tt}).held);
      look = lines_look_next _ _ c.args.sources.now (g.O.Outcomes.came_to c.args.outcomes.now) c.args.lines.now c.loop-line.line-index line c.loop-line-test.true c.line-item.is c.loop-line.invariant.look c.find_origin.ensures.called.asked.blobs _ (c.in_ok-node.ensures {u = tt}).told.node;
      learned = learns_then {t1 = g.S.BlobSource.tells c.loop-line.source} (λ a. lines_look_still _ _ c.args.sources.now (g.O.Outcomes.came_to c.args.outcomes.now) c.args.lines.now a c.find_origin.ensures.called.asked.blobs)
          (lines_look_here _ _ c.args.sources.now (g.O.Outcomes.came_to c.args.outcomes.now) c.args.lines.now c.loop-line.line-index c.line-item.result c.loop-line-test.true c.line-item.is c.loop-line.invariant.look c.find_origin.ensures.called.asked.blobs) (λ n. n)
          c.loop-line.invariant.learned c.in_ok-node.ensures.learned;
    }

pub returns-clause-told : goal.returns-clause-told
returns-clause-told g c = lines_end _ c.args.sources.now (g.O.Outcomes.came_to c.args.outcomes.now) c.args.lines.now (merge_lines c.loop-line.nodes.items) c.loop-line.line-index c.loop-line-test.false c.loop-line.invariant.goes

pub returns-clause-held : goal.returns-clause-held
returns-clause-held g c = c.loop-line.invariant.held

pub returns-in_err-node-clause-called : goal.returns-in_err-node-clause-called
returns-in_err-node-clause-called g c = called_on c.loop-line.invariant.called (called_exit c.from_residual.ensures.1 c.in_err-node.ensures.called)

pub returns-in_err-copy_of-clause-called : goal.returns-in_err-copy_of-clause-called
returns-in_err-copy_of-clause-called g c = called_on c.loop-line.invariant.called (called_no ok_no_error (search rules) c.in_ok-node.ensures.called)

pub returns-in_err-push-clause-called : goal.returns-in_err-push-clause-called
returns-in_err-push-clause-called g c = called_on c.loop-line.invariant.called (called_no ok_no_error (search rules) c.in_ok-node.ensures.called)

pub returns-clause-called : goal.returns-clause-called
returns-clause-called g c = called_no (λ n. n) ok_no_error c.loop-line.invariant.called

pub returns-in_err-node-clause-learned : goal.returns-in_err-node-clause-learned
returns-in_err-node-clause-learned g c =
    learns_then {t1 = g.S.BlobSource.tells c.loop-line.source} (λ a. lines_look_still _ _ c.args.sources.now (g.O.Outcomes.came_to c.args.outcomes.now) c.args.lines.now a c.find_origin.ensures.called.asked.blobs)
    (lines_look_here _ _ c.args.sources.now (g.O.Outcomes.came_to c.args.outcomes.now) c.args.lines.now c.loop-line.line-index c.line-item.result c.loop-line-test.true c.line-item.is c.loop-line.invariant.look c.find_origin.ensures.called.asked.blobs) (λ n. n)
    c.loop-line.invariant.learned (learns_refused (λ a h. h) (refused_exit _ _ c.from_residual.ensures.1) c.in_err-node.ensures.learned)

pub returns-in_err-copy_of-clause-learned : goal.returns-in_err-copy_of-clause-learned
returns-in_err-copy_of-clause-learned g c =
    learns_refused (λ a h. h) (refused_exit _ _ c.from_residual-in_err-copy_of.ensures.1)
    (learns_then {t1 = g.S.BlobSource.tells c.loop-line.source} (λ a. lines_look_still _ _ c.args.sources.now (g.O.Outcomes.came_to c.args.outcomes.now) c.args.lines.now a c.find_origin.ensures.called.asked.blobs)
    (lines_look_here _ _ c.args.sources.now (g.O.Outcomes.came_to c.args.outcomes.now) c.args.lines.now c.loop-line.line-index c.line-item.result c.loop-line-test.true c.line-item.is c.loop-line.invariant.look c.find_origin.ensures.called.asked.blobs) (λ n. n)
    c.loop-line.invariant.learned c.in_ok-node.ensures.learned)

pub returns-in_err-push-clause-learned : goal.returns-in_err-push-clause-learned
returns-in_err-push-clause-learned g c =
    learns_refused (λ a h. h) (refused_exit _ _ c.from_residual-in_err-push.ensures.1)
    (learns_then {t1 = g.S.BlobSource.tells c.loop-line.source} (λ a. lines_look_still _ _ c.args.sources.now (g.O.Outcomes.came_to c.args.outcomes.now) c.args.lines.now a c.find_origin.ensures.called.asked.blobs)
    (lines_look_here _ _ c.args.sources.now (g.O.Outcomes.came_to c.args.outcomes.now) c.args.lines.now c.loop-line.line-index c.line-item.result c.loop-line-test.true c.line-item.is c.loop-line.invariant.look c.find_origin.ensures.called.asked.blobs) (λ n. n)
    c.loop-line.invariant.learned c.in_ok-node.ensures.learned)

pub returns-clause-learned : goal.returns-clause-learned
returns-clause-learned g c = c.loop-line.invariant.learned
