-- One line after another is opened, in the order in which they stand.
use Rattle.std.proofs.Common.{◌≡◌, ◌<◌, [], ◌∷◌, sym, ap, subst, length, ◌∙◌, rules, arith}
use Rattle.std.proofs.lemmas.Bool.Decides.{Decides-eqb}
use Rattle.std.proofs.lemmas.Result.{err_from_is_err_and}
use Rattle.std.specs.Vec.{vec_len}
use Rattle.blob_source.proofs.Asking.{ok_no_error}
use Rattle.blob_source.proofs.Calling.{called_none, called_exit, called_no, called_on}
use Rattle.tree.specs.Form.{node_value}
use Rattle.tree.specs.Merging.{NodeWithin, AreHeld, opened, node_opened}
use Rattle.tree.specs.MergeParts.{part_value, part_values, within_of}
use Rattle.tree.proofs.Learning.{learns_none, learns_then, learns_refused, refused_exit}
use Rattle.tree.proofs.MergeLooking.{OpensLooking, opens_looking_first, opens_looking_on, opened_still}
use Rattle.tree.proofs.MergeLoops.{map_pushed, nothing_left, some_if_not}
use Rattle.tree.proofs.MergeOpens.{merge_explained, line_kept, opens_here, looking_here, fault_here, looks_here_at}
use Rattle.tree.proofs.MergeSteps.{OpensOn, opens_first, opens_line, opens_end}
use Rattle.tree.proofs.merging.open_parts.Goals as goal

pub returns-in_err-below-clause-called : goal.returns-in_err-below-clause-called
returns-in_err-below-clause-called g c = called_none (search rules)

pub loop-part-init : goal.loop-part-init
loop-part-init g c =
    let W = within_of c.args.lines.now in
    let B = (g.S.BlobSource.tells c.args.source.now).blobs in
    let all = part_values W c.args.parts.items in
    let items : c.into_iter-part-iterator.result.rest.items ≡ c.args.parts.items = search rules in
    record {
      called = called_none (λ n. n);
      opens = subst (λ ps. OpensOn B (part_values W c.in_ok-below.below.items) (part_values W ps) all) (sym items) (subst (λ bs. OpensOn B (part_values W bs) all all) (sym (c.in_ok-below.ensures {u = tt}).items) (opens_first B all));
      looking = subst (λ ps. OpensLooking B (part_values W ps) all) (sym items) (opens_looking_first B all);
      held = subst (λ ps. AreHeld (part_values W ps)) (sym items) c.requires.held;
      learned = learns_none c.requires.known;
    }

pub returns-in_err-open_node-clause-refused : goal.returns-in_err-open_node-clause-refused
returns-in_err-open_node-clause-refused g c =
    let W = within_of c.args.lines.now in
    let part = c.in-Some.part in
    let x : NodeWithin = record { node = node_value part.node; within = W part.line } in
    let left = c.next.new.self.rest.items in
    let steps : c.loop-part.part-iterator.rest.items ≡ part ∷ left = search rules in
    let test = (Decides-eqb (vec_len part.names) 0).0 (sym c.if-is_empty.ensures) in
    let none = nothing_left part.names.items (omega (arith, test, part.names.ok.0)) in
    let B = (g.S.BlobSource.tells c.loop-part.source).blobs in
    let C = (g.S.BlobSource.tells c.open_node.new.source).blobs in
    let all = part_values W c.args.parts.items in
    let old = subst (λ ps. OpensOn B (part_values W c.loop-part.below.items) (part_values W ps) all) steps c.loop-part.invariant.opens in
    let p = err_from_is_err_and c.from_residual-in_err-open_node.result c.from_residual-in_err-open_node.ensures.1 in
    rw (p.1, p.2) (merge_explained (node_opened C x.node x.within).fails (opened C all).fails _
    (fault_here part.names.items x (part_values W left) all (part_values W c.loop-part.below.items) c.open_node.ensures.called.asked.blobs none old) c.in_err-open_node.ensures.refused)

pub returns-in_err-open_node-clause-called : goal.returns-in_err-open_node-clause-called
returns-in_err-open_node-clause-called g c = called_on c.loop-part.invariant.called (called_exit c.from_residual-in_err-open_node.ensures.1 c.in_err-open_node.ensures.called)

pub returns-in_err-open_node-clause-learned : goal.returns-in_err-open_node-clause-learned
returns-in_err-open_node-clause-learned g c =
    let W = within_of c.args.lines.now in
    let part = c.in-Some.part in
    let x : NodeWithin = record { node = node_value part.node; within = W part.line } in
    let left = c.next.new.self.rest.items in
    let steps : c.loop-part.part-iterator.rest.items ≡ part ∷ left = search rules in
    let test = (Decides-eqb (vec_len part.names) 0).0 (sym c.if-is_empty.ensures) in
    let none = nothing_left part.names.items (omega (arith, test, part.names.ok.0)) in
    let B = (g.S.BlobSource.tells c.loop-part.source).blobs in
    let all = part_values W c.args.parts.items in
    let grows = c.open_node.ensures.called.asked.blobs in
    let looking = subst (λ ps. OpensLooking B (part_values W ps) all) steps c.loop-part.invariant.looking in
    learns_then {t1 = g.S.BlobSource.tells c.loop-part.source} (λ a. opened_still all a grows) (looks_here_at part.names.items x (part_values W left) all (part_values W c.loop-part.below.items) grows none looking) (λ n. n)
    c.loop-part.invariant.learned (learns_refused (λ a h. h) (refused_exit _ _ c.from_residual-in_err-open_node.ensures.1) c.in_err-open_node.ensures.learned)

pub loop-part-preserved-in_ok-open_node : goal.loop-part-preserved-in_ok-open_node
loop-part-preserved-in_ok-open_node g c =
    let W = within_of c.args.lines.now in
    let part = c.in-Some.part in
    let x : NodeWithin = record { node = node_value part.node; within = W part.line } in
    let left = c.next.new.self.rest.items in
    let steps : c.loop-part.part-iterator.rest.items ≡ part ∷ left = search rules in
    let B = (g.S.BlobSource.tells c.loop-part.source).blobs in
    let all = part_values W c.args.parts.items in
    let old = subst (λ ps. OpensOn B (part_values W c.loop-part.below.items) (part_values W ps) all) steps c.loop-part.invariant.opens in
    let looking = subst (λ ps. OpensLooking B (part_values W ps) all) steps c.loop-part.invariant.looking in
    let held = subst (λ ps. AreHeld (part_values W ps)) steps c.loop-part.invariant.held in
    let test = (Decides-eqb (vec_len part.names) 0).0 (sym c.if-is_empty.ensures) in
    let none = nothing_left part.names.items (omega (arith, test, part.names.ok.0)) in
    let grows = c.open_node.ensures.called.asked.blobs in
    let C = (g.S.BlobSource.tells c.open_node.new.source).blobs in
    let new = (c.in_ok-open_node.ensures {u = tt}).opened in
    record {
      called = called_on c.loop-part.invariant.called (called_no ok_no_error (λ n. n) (c.in_ok-open_node.ensures {u = tt}).called);
      opens = subst (λ bs. OpensOn C bs (part_values W left) all) (sym new.2) (opens_here part.names.items x (part_values W left) all (part_values W c.loop-part.below.items) grows none new.0 new.1 old);
      looking = looking_here part.names.items x (part_values W left) all (part_values W c.loop-part.below.items) grows none new.0 new.1 looking;
      held = held.1;
      learned = learns_then {t1 = g.S.BlobSource.tells c.loop-part.source} (λ a. opened_still all a grows) (looks_here_at part.names.items x (part_values W left) all (part_values W c.loop-part.below.items) grows none looking) (λ n. n)
          c.loop-part.invariant.learned (c.in_ok-open_node.ensures {u = tt}).learned;
    }

pub loop-part-preserved-in_ok-open_node-2 : goal.loop-part-preserved-in_ok-open_node-2
loop-part-preserved-in_ok-open_node-2 g c =
    let W = within_of c.args.lines.now in
    let part = c.in-Some.part in
    let x : NodeWithin = record { node = node_value part.node; within = W part.line } in
    let left = c.next.new.self.rest.items in
    let steps : c.loop-part.part-iterator.rest.items ≡ part ∷ left = search rules in
    let B = (g.S.BlobSource.tells c.loop-part.source).blobs in
    let all = part_values W c.args.parts.items in
    let old = subst (λ ps. OpensOn B (part_values W c.loop-part.below.items) (part_values W ps) all) steps c.loop-part.invariant.opens in
    let looking = subst (λ ps. OpensLooking B (part_values W ps) all) steps c.loop-part.invariant.looking in
    let held = subst (λ ps. AreHeld (part_values W ps)) steps c.loop-part.invariant.held in
    let test = (Decides-eqb (vec_len part.names) 0).0 (sym c.if-is_empty.ensures) in
    let none = nothing_left part.names.items (omega (arith, test, part.names.ok.0)) in
    let grows = c.open_node.ensures.called.asked.blobs in
    let C = (g.S.BlobSource.tells c.open_node.new.source).blobs in
    let new = (c.in_ok-open_node.ensures {u = tt}).opened in
    record {
      called = called_on c.loop-part.invariant.called (called_no ok_no_error (λ n. n) (c.in_ok-open_node.ensures {u = tt}).called);
      opens = subst (λ bs. OpensOn C bs (part_values W left) all) (sym new.2) (opens_here part.names.items x (part_values W left) all (part_values W c.loop-part.below.items) grows none new.0 new.1 old);
      looking = looking_here part.names.items x (part_values W left) all (part_values W c.loop-part.below.items) grows none new.0 new.1 looking;
      held = held.1;
      learned = learns_then {t1 = g.S.BlobSource.tells c.loop-part.source} (λ a. opened_still all a grows) (looks_here_at part.names.items x (part_values W left) all (part_values W c.loop-part.below.items) grows none looking) (λ n. n)
          c.loop-part.invariant.learned (c.in_ok-open_node.ensures {u = tt}).learned;
    }

pub loop-part-preserved : goal.loop-part-preserved
loop-part-preserved g c =
    let W = within_of c.args.lines.now in
    let part = c.in-Some.part in
    let x : NodeWithin = record { node = node_value part.node; within = W part.line } in
    let left = c.next.new.self.rest.items in
    let steps : c.loop-part.part-iterator.rest.items ≡ part ∷ left = search rules in
    let B = (g.S.BlobSource.tells c.loop-part.source).blobs in
    let all = part_values W c.args.parts.items in
    let old = subst (λ ps. OpensOn B (part_values W c.loop-part.below.items) (part_values W ps) all) steps c.loop-part.invariant.opens in
    let looking = subst (λ ps. OpensLooking B (part_values W ps) all) steps c.loop-part.invariant.looking in
    let held = subst (λ ps. AreHeld (part_values W ps)) steps c.loop-part.invariant.held in
    let count = some_if_not (vec_len part.names) (sym c.if-is_empty.ensures) in
    let some : 0 < length part.names.items = omega (arith, count, part.names.ok.0) in
    let items = ap (part_values W) (c.in_ok-push.ensures {u = tt}).items ∙ map_pushed (part_value W) c.loop-part.below.items part in
    record {
      called = c.loop-part.invariant.called;
      opens = subst (λ bs. OpensOn B bs (part_values W left) all) (sym items)
          (opens_line (part.names.items, x) (part_values W left) all (part_values W c.loop-part.below.items) (λ e b h. h) old ((part.names.items, x) ∷ []) (λ later more. line_kept later part.names.items x some));
      looking = opens_looking_on (part.names.items, x) (part_values W left) all (λ e b h. h) looking ((part.names.items, x) ∷ []) (λ later more. line_kept later part.names.items x some);
      held = held.1;
      learned = c.loop-part.invariant.learned;
    }

pub returns-in_err-push-clause-called : goal.returns-in_err-push-clause-called
returns-in_err-push-clause-called g c = called_no (λ n. n) (search rules) c.loop-part.invariant.called

pub returns-in_err-push-clause-learned : goal.returns-in_err-push-clause-learned
returns-in_err-push-clause-learned g c = learns_refused (λ a h. h) (refused_exit _ _ c.from_residual-in_err-push.ensures.1) c.loop-part.invariant.learned

pub returns-clause-opened : goal.returns-clause-opened
returns-clause-opened g c =
    let W = within_of c.args.lines.now in
    let B = (g.S.BlobSource.tells c.loop-part.source).blobs in
    let all = part_values W c.args.parts.items in
    let none = nothing_left c.loop-part.part-iterator.rest.items (omega (arith, c.in-None.ensures.steps.0, c.loop-part.part-iterator.rest.ok.0)) in
    opens_end B (part_values W c.loop-part.below.items) all (subst (λ ps. OpensOn B (part_values W c.loop-part.below.items) (part_values W ps) all) none c.loop-part.invariant.opens)

pub returns-clause-called : goal.returns-clause-called
returns-clause-called g c = called_no (λ n. n) ok_no_error c.loop-part.invariant.called
