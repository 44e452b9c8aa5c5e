-- Name by name, while the source tells more and more.
use Rattle.std.proofs.Common.{◌-◌, [], ◌∷◌, ◌++◌, length, ap, sym, subst, ◌∙◌, arith, rules, false, length-append}
use Rattle.std.specs.Prelude.{IsTrue, is_some}
use Rattle.std.proofs.lemmas.Result.{err_from_is_err_and, IfOk-weaker, IfErr-weaker}
use Rattle.std.proofs.lemmas.Map.Iter.{rest_more, rest_all}
use Rattle.blob_source.specs.Source.{Blobs, Grows}
use Rattle.blob_source.proofs.Asking.{ok_no_error}
use Rattle.blob_source.proofs.Calling.{called_none, called_exit, called_no, called_on}
use Rattle.tree.specs.Form.{node_value, no_children, with_child}
use Rattle.tree.specs.Lookup.{names_in}
use Rattle.tree.specs.Tree.{single, whole}
use Rattle.blob_digest.specs.Digest.{digest_of}
use Rattle.messages.specs.Directory.{directory_bytes}
use Rattle.messages.specs.declared.node.Node.TheVariants.{Dir}
use Rattle.tree.specs.Merging.{AreHeld, CanMeet, grouped, lone, opened, merged_in}
use Rattle.tree.specs.MergeLooks.{MergeLooksIn}
use Rattle.tree.specs.MergeParts.{part_values, group_values, within_of, lines_met, IsVisitOfMerged, IsVisitOfMet}
use Rattle.tree.specs.Unfolding.{ExplainsChild}
use Rattle.tree.specs.Folded.{items_of}
use Rattle.tree.specs.Visiting.{children_directory, with_children, tops_in}
use Rattle.tree.proofs.Learning.{learns_none, learns_then, learns_refused, refused_exit}
use Rattle.tree.proofs.MergeBelow.{at_name, look_name, GroupsHeld, grouped_held, counted_held, whole_passes, whole_fails, learns_below, name_stands, name_meets, name_fails, opening_looks, below_passes, below_fails, below_looks, can_more, no_lone, lone_some, lone_first, has_room}
use Rattle.tree.proofs.MergeHeld.{opened_held}
use Rattle.tree.proofs.MergeLooking.{LooksOn, looks_first, looks_on}
use Rattle.tree.proofs.MergeOpens.{merge_explained}
use Rattle.tree.proofs.MergeSteps.{MergesOn, merges_first, merges_leaf, merges_folder, merges_fault, merges_end, conflicts, fails_opening}
use Rattle.tree.proofs.merging.+merge_below.Goals as goal

-- ---- meet

pub meet-returns-then-not-can_meet-clause-refused : goal.meet-returns-then-not-can_meet-clause-refused
meet-returns-then-not-can_meet-clause-refused g t c =
    let W = within_of c.args.lines.now in
    let B = (g.S.BlobSource.tells c.args.source.now).blobs in
    conflicts B (merged_in B c.args.deeper c.args.path) c.args.deeper c.args.path (part_values W c.args.parts.items) (λ can.
    let is : IsTrue c.can_meet.result = (c.can_meet.ensures W).1 (subst (λ ps. CanMeet c.args.deeper (part_values W ps)) (sym c.deref.ensures.value) can) in
    let not : IsTrue false = subst IsTrue c.if-not-can_meet.true is in search (rules, not))

pub meet-returns-then-not-can_meet-clause-called : goal.meet-returns-then-not-can_meet-clause-called
meet-returns-then-not-can_meet-clause-called g t c = called_none (search rules)

pub meet-returns-then-not-can_meet-clause-learned : goal.meet-returns-then-not-can_meet-clause-learned
meet-returns-then-not-can_meet-clause-learned g t c = learns_none c.requires.known

pub meet-returns-in_err-parts-clause-refused : goal.meet-returns-in_err-parts-clause-refused
meet-returns-in_err-parts-clause-refused g t c =
    let W = within_of c.args.lines.now in
    let ls = part_values W c.args.parts.items in
    let is : IsTrue c.can_meet.result = search rules in
    let can = subst (λ ps. CanMeet c.args.deeper (part_values W ps)) c.deref.ensures.value ((c.can_meet.ensures W).0 is) in
    let C = (g.S.BlobSource.tells c.open_parts.new.source).blobs in
    let p = err_from_is_err_and c.from_residual.result c.from_residual.ensures.1 in
    rw (p.1, p.2) (merge_explained (opened C ls).fails (lines_met C c.args.deeper c.args.path ls).fails _ (λ f h. fails_opening C (merged_in C c.args.deeper c.args.path) c.args.deeper c.args.path ls f can h) c.in_err-parts.ensures.refused)

pub meet-returns-in_err-parts-clause-called : goal.meet-returns-in_err-parts-clause-called
meet-returns-in_err-parts-clause-called g t c = called_exit c.from_residual.ensures.1 c.in_err-parts.ensures.called

pub meet-returns-in_err-parts-clause-learned : goal.meet-returns-in_err-parts-clause-learned
meet-returns-in_err-parts-clause-learned g t c =
    let W = within_of c.args.lines.now in
    let ls = part_values W c.args.parts.items in
    let is : IsTrue c.can_meet.result = search rules in
    let can = subst (λ ps. CanMeet c.args.deeper (part_values W ps)) c.deref.ensures.value ((c.can_meet.ensures W).0 is) in
    let C = (g.S.BlobSource.tells c.open_parts.new.source).blobs in
    learns_refused (opening_looks c.args.deeper c.args.path ls can C C (λ e b h. h)) (refused_exit _ _ c.from_residual.ensures.1) c.in_err-parts.ensures.learned

pub meet-merge_below-requires : goal.meet-merge_below-requires
meet-merge_below-requires g t c κs within =
    let W = within_of c.args.lines.now in
    let ls = part_values W c.args.parts.items in
    let is : IsTrue c.can_meet.result = search rules in
    let can = subst (λ ps. CanMeet c.args.deeper (part_values W ps)) c.deref.ensures.value ((c.can_meet.ensures W).0 is) in
    let C = (g.S.BlobSource.tells c.open_parts.new.source).blobs in
    let opens = c.in_ok-parts.ensures {u = tt} in
    (omega (arith, c.decreases), (within.0, (within.1, (opens.learned.known, (opened_held C ls (part_values W c.in_ok-parts.parts.items) c.requires.held opens.opened, (can_more c.args.deeper ls can, c.requires.depth))))))

pub meet-returns : goal.meet-returns
meet-returns g t c =
    let W = within_of c.args.lines.now in
    let path = c.args.path in
    let ls = part_values W c.args.parts.items in
    let is : IsTrue c.can_meet.result = search rules in
    let can = subst (λ ps. CanMeet c.args.deeper (part_values W ps)) c.deref.ensures.value ((c.can_meet.ensures W).0 is) in
    let C = (g.S.BlobSource.tells c.open_parts.new.source).blobs in
    let D = (g.S.BlobSource.tells c.merge_below.new.source).blobs in
    let grows = c.merge_below.ensures.called.asked.blobs in
    let new = part_values W c.in_ok-parts.parts.items in
    let opens = c.in_ok-parts.ensures {u = tt} in
    let below = c.merge_below.ensures in
    record {
      met = IfOk-weaker c.merge_below.result (IsVisitOfMerged (merged_in D c.args.deeper path new)) (IsVisitOfMet (lines_met D c.args.deeper path ls)) (λ v h. (h.0, below_passes c.args.deeper path ls can C D grows new opens.opened h.0 h.1, h.2)) below.merged;
      refused = IfErr-weaker c.merge_below.result _ _ (λ e h. merge_explained (merged_in D c.args.deeper path new).fails (lines_met D c.args.deeper path ls).fails e (below_fails c.args.deeper path ls can C D grows new opens.opened) h) below.refused;
      called = called_on (called_no ok_no_error (λ n. n) opens.called) below.called;
      learned = learns_then {t1 = g.S.BlobSource.tells c.open_parts.new.source} (opening_looks c.args.deeper path ls can C D grows) (below_looks c.args.deeper path ls can C D grows new opens.opened) (λ n. n) opens.learned below.learned;
    }

-- ---- merge_below

pub merge_below-returns-in_err-name-items-clause-called : goal.merge_below-returns-in_err-name-items-clause-called
merge_below-returns-in_err-name-items-clause-called g t c =
    called_none (search rules)

pub merge_below-loop-name-init : goal.merge_below-loop-name-init
merge_below-loop-name-init g t c =
    let W = within_of c.args.lines.now in
    let path = names_in c.args.above.now in
    let B = (g.S.BlobSource.tells c.args.source.now).blobs in
    let ls = part_values W c.args.parts.items in
    let at = at_name (c.args.deeper - 1) path in
    let look = look_name (c.args.deeper - 1) path in
    let rest = ap (group_values W) c.into_iter-name-iterator.ensures.into_iter_gives.0 ∙ c.in_ok-items.ensures {u = tt} W in
    record {
      next = tt;
      finite = tt;
      called = called_none (λ n. n);
      merges = subst (λ gs. MergesOn at B (children_directory c.new-children.result) (tops_in c.new-children.result) gs (grouped ls)) (sym rest)
          (subst (λ m. MergesOn at B m (tops_in c.new-children.result) (grouped ls) (grouped ls)) (sym c.new-children.ensures.directory)
          (subst (λ ts. MergesOn at B no_children ts (grouped ls) (grouped ls)) (sym c.new-children.ensures.tops) (merges_first at B (grouped ls))));
      looking = subst (λ gs. LooksOn at look B gs (grouped ls)) (sym rest) (looks_first at look B (grouped ls));
      held = subst GroupsHeld (sym rest) (grouped_held ls c.requires.held);
      learned = learns_none c.requires.known;
    }

pub merge_below-returns-in_err-parts-clause-called : goal.merge_below-returns-in_err-parts-clause-called
merge_below-returns-in_err-parts-clause-called g t c =
    called_no (λ n. n) (search rules) c.loop-name.invariant.called

pub merge_below-returns-in_err-parts-clause-learned : goal.merge_below-returns-in_err-parts-clause-learned
merge_below-returns-in_err-parts-clause-learned g t c =
    learns_refused (λ a h. h) (refused_exit _ _ c.from_residual-in_err-parts.ensures.1) c.loop-name.invariant.learned

pub merge_below-index-requires : goal.merge_below-index-requires
merge_below-index-requires g t c =
    let W = within_of c.args.lines.now in
    let test = ap (λ ps. is_some (lone (part_values W ps))) (sym c.deref.ensures.value) ∙ sym (c.is_lone.ensures W) ∙ c.if-is_lone.true in
    let some = lone_some W c.in_ok-parts.parts.items test in
    omega (arith, some, c.in_ok-parts.parts.ok.0)

pub merge_below-returns-in_err-push-clause-called : goal.merge_below-returns-in_err-push-clause-called
merge_below-returns-in_err-push-clause-called g t c =
    called_no (λ n. n) (search rules) c.loop-name.invariant.called

pub merge_below-returns-in_err-push-clause-learned : goal.merge_below-returns-in_err-push-clause-learned
merge_below-returns-in_err-push-clause-learned g t c =
    learns_refused (λ a h. h) (refused_exit _ _ c.from_residual-in_err-push.ensures.1) c.loop-name.invariant.learned

pub merge_below-returns-in_err-path-clause-refused : goal.merge_below-returns-in_err-path-clause-refused
merge_below-returns-in_err-path-clause-refused g t c =
    let p = err_from_is_err_and c.from_residual-in_err-path.result c.from_residual-in_err-path.ensures.1 in
    let full = subst (λ o. ExplainsChild o c.in_err-path.field-0.0) c.as_ref.ensures.value c.in_err-path.ensures.refused in
    rw (p.1, p.2) (has_room (merged_in (g.S.BlobSource.tells c.loop-name.source).blobs c.args.deeper (names_in c.args.above.now) (part_values (within_of c.args.lines.now) c.args.parts.items)).fails c.args.above.now c.in_err-path.field-0.0 (omega (arith, c.requires.some, c.requires.depth)) full)

pub merge_below-returns-in_err-path-clause-called : goal.merge_below-returns-in_err-path-clause-called
merge_below-returns-in_err-path-clause-called g t c =
    called_no (λ n. n) (search rules) c.loop-name.invariant.called

pub merge_below-returns-in_err-path-clause-learned : goal.merge_below-returns-in_err-path-clause-learned
merge_below-returns-in_err-path-clause-learned g t c =
    learns_refused (λ a h. h) (refused_exit _ _ c.from_residual-in_err-path.ensures.1) c.loop-name.invariant.learned

pub merge_below-meet-requires : goal.merge_below-meet-requires
merge_below-meet-requires g t c κs within =
    let W = within_of c.args.lines.now in
    let path = names_in c.args.above.now in
    let given = part_values W c.in-Some.parts.items in
    let steps = rest_more (λ x. x) c.loop-name.name-iterator c.next.new.self c.next.result (c.in-Some.name, c.in-Some.parts) c.in-Some.is c.next.ensures.steps in
    let held = subst (λ l. GroupsHeld (group_values W l)) steps c.loop-name.invariant.held in
    let same = c.in_ok-parts.ensures {u = tt} W in
    let longer = ap length (c.in_ok-path.ensures.path ∙ ap (λ o. names_in o ++ c.in-Some.name ∷ []) c.as_ref.ensures.value) ∙ length-append path (c.in-Some.name ∷ []) in
    (omega (arith, c.decreases, c.requires.some), (within.0, (within.1, (c.loop-name.invariant.learned.known, (subst AreHeld (sym same) (counted_held given held.0), omega (arith, longer, c.requires.some, c.requires.depth))))))

pub merge_below-returns-in_err-below-clause-refused : goal.merge_below-returns-in_err-below-clause-refused
merge_below-returns-in_err-below-clause-refused g t c =
    let W = within_of c.args.lines.now in
    let path = names_in c.args.above.now in
    let ls = part_values W c.args.parts.items in
    let at = at_name (c.args.deeper - 1) path in
    let n = c.in-Some.name in
    let given = part_values W c.in-Some.parts.items in
    let left = group_values W c.next.new.self in
    let B = (g.S.BlobSource.tells c.loop-name.source).blobs in
    let steps = rest_more (λ x. x) c.loop-name.name-iterator c.next.new.self c.next.result (c.in-Some.name, c.in-Some.parts) c.in-Some.is c.next.ensures.steps in
    let made = children_directory c.loop-name.children in
    let tops = tops_in c.loop-name.children in
    let merges = subst (λ l. MergesOn at B made tops (group_values W l) (grouped ls)) steps c.loop-name.invariant.merges in
    let kept = part_values W c.in_ok-parts.parts.items in
    let same = c.in_ok-parts.ensures {u = tt} W in
    let none = no_lone (lone kept) (ap (λ ps. is_some (lone (part_values W ps))) (sym c.deref.ensures.value) ∙ sym (c.is_lone.ensures W) ∙ c.if-is_lone.false) in
    let D = (g.S.BlobSource.tells c.meet.new.source).blobs in
    let more = c.meet.ensures.called.asked.blobs in
    let p = err_from_is_err_and c.from_residual-in_err-below.result c.from_residual-in_err-below.ensures.1 in
    rw (p.1, p.2) (merge_explained (lines_met D (c.args.deeper - 1) c.in_ok-path.path kept).fails (merged_in D c.args.deeper path ls).fails _
    (λ f h. whole_fails c.args.deeper path ls c.requires.some D f (merges_fault at n given left (grouped ls) made tops more merges f
    (name_fails (c.args.deeper - 1) path n given kept same none c.in_ok-path.path (c.in_ok-path.ensures.path ∙ ap (λ o. names_in o ++ n ∷ []) c.as_ref.ensures.value) D f h))) c.in_err-below.ensures.refused)

pub merge_below-returns-in_err-below-clause-called : goal.merge_below-returns-in_err-below-clause-called
merge_below-returns-in_err-below-clause-called g t c =
    called_on c.loop-name.invariant.called (called_exit c.from_residual-in_err-below.ensures.1 c.in_err-below.ensures.called)

pub merge_below-returns-in_err-below-clause-learned : goal.merge_below-returns-in_err-below-clause-learned
merge_below-returns-in_err-below-clause-learned g t c =
    let W = within_of c.args.lines.now in
    let path = names_in c.args.above.now in
    let ls = part_values W c.args.parts.items in
    let given = part_values W c.in-Some.parts.items in
    let steps = rest_more (λ x. x) c.loop-name.name-iterator c.next.new.self c.next.result (c.in-Some.name, c.in-Some.parts) c.in-Some.is c.next.ensures.steps in
    let looking = subst (λ l. LooksOn (at_name (c.args.deeper - 1) path) (look_name (c.args.deeper - 1) path) (g.S.BlobSource.tells c.loop-name.source).blobs (group_values W l) (grouped ls)) steps c.loop-name.invariant.looking in
    let kept = part_values W c.in_ok-parts.parts.items in
    let same = c.in_ok-parts.ensures {u = tt} W in
    let none = no_lone (lone kept) (ap (λ ps. is_some (lone (part_values W ps))) (sym c.deref.ensures.value) ∙ sym (c.is_lone.ensures W) ∙ c.if-is_lone.false) in
    let here = c.in_ok-path.ensures.path ∙ ap (λ o. names_in o ++ c.in-Some.name ∷ []) c.as_ref.ensures.value in
    learns_below c.args.deeper path ls c.requires.some c.in-Some.name given kept (group_values W c.next.new.self) same none c.in_ok-path.path here c.meet.ensures.called.asked.blobs looking c.loop-name.invariant.learned
    (learns_refused (λ a h. h) (refused_exit _ _ c.from_residual-in_err-below.ensures.1) c.in_err-below.ensures.learned)

pub merge_below-returns-in_err-push_folder-clause-called : goal.merge_below-returns-in_err-push_folder-clause-called
merge_below-returns-in_err-push_folder-clause-called g t c =
    called_no (λ n. n) (search rules) (called_on c.loop-name.invariant.called (called_no ok_no_error (λ n. n) (c.in_ok-below.ensures {u = tt}).called))

pub merge_below-returns-in_err-push_folder-clause-learned : goal.merge_below-returns-in_err-push_folder-clause-learned
merge_below-returns-in_err-push_folder-clause-learned g t c =
    let W = within_of c.args.lines.now in
    let path = names_in c.args.above.now in
    let ls = part_values W c.args.parts.items in
    let given = part_values W c.in-Some.parts.items in
    let steps = rest_more (λ x. x) c.loop-name.name-iterator c.next.new.self c.next.result (c.in-Some.name, c.in-Some.parts) c.in-Some.is c.next.ensures.steps in
    let looking = subst (λ l. LooksOn (at_name (c.args.deeper - 1) path) (look_name (c.args.deeper - 1) path) (g.S.BlobSource.tells c.loop-name.source).blobs (group_values W l) (grouped ls)) steps c.loop-name.invariant.looking in
    let kept = part_values W c.in_ok-parts.parts.items in
    let same = c.in_ok-parts.ensures {u = tt} W in
    let none = no_lone (lone kept) (ap (λ ps. is_some (lone (part_values W ps))) (sym c.deref.ensures.value) ∙ sym (c.is_lone.ensures W) ∙ c.if-is_lone.false) in
    let here = c.in_ok-path.ensures.path ∙ ap (λ o. names_in o ++ c.in-Some.name ∷ []) c.as_ref.ensures.value in
    learns_refused {few = MergeLooksIn (g.S.BlobSource.tells c.meet.new.source).blobs c.args.deeper path ls} (λ a h. h) (refused_exit _ _ c.from_residual-in_err-push_folder.ensures.1)
    (learns_below c.args.deeper path ls c.requires.some c.in-Some.name given kept (group_values W c.next.new.self) same none c.in_ok-path.path here c.meet.ensures.called.asked.blobs looking c.loop-name.invariant.learned (c.in_ok-below.ensures {u = tt}).learned)

pub merge_below-loop-name-preserved-then-is_lone : goal.merge_below-loop-name-preserved-then-is_lone
merge_below-loop-name-preserved-then-is_lone g t c =
    let W = within_of c.args.lines.now in
    let path = names_in c.args.above.now in
    let ls = part_values W c.args.parts.items in
    let at = at_name (c.args.deeper - 1) path in
    let look = look_name (c.args.deeper - 1) path in
    let n = c.in-Some.name in
    let given = part_values W c.in-Some.parts.items in
    let left = group_values W c.next.new.self in
    let B = (g.S.BlobSource.tells c.loop-name.source).blobs in
    let steps = rest_more (λ x. x) c.loop-name.name-iterator c.next.new.self c.next.result (c.in-Some.name, c.in-Some.parts) c.in-Some.is c.next.ensures.steps in
    let made = children_directory c.loop-name.children in
    let tops = tops_in c.loop-name.children in
    let merges = subst (λ l. MergesOn at B made tops (group_values W l) (grouped ls)) steps c.loop-name.invariant.merges in
    let looking = subst (λ l. LooksOn at look B (group_values W l) (grouped ls)) steps c.loop-name.invariant.looking in
    let held = subst (λ l. GroupsHeld (group_values W l)) steps c.loop-name.invariant.held in
    let kept = part_values W c.in_ok-parts.parts.items in
    let same = c.in_ok-parts.ensures {u = tt} W in
    let test = ap (λ ps. is_some (lone (part_values W ps))) (sym c.deref.ensures.value) ∙ sym (c.is_lone.ensures W) ∙ c.if-is_lone.true in
    let x = node_value c.index.result.now.node in
    let one = lone_first W c.in_ok-parts.parts.items c.index.result.now test c.index.ensures in
    let pushed = c.in_ok-push.ensures {u = tt} in
    let stands : (later : Blobs) → Grows B later → (at later n given).passes (single x) = λ later more. name_stands (c.args.deeper - 1) path n given kept same x one later in
    record {
      next = tt;
      finite = tt;
      called = c.loop-name.invariant.called;
      merges = subst (λ m. MergesOn at B m (tops_in c.push.new.self) left (grouped ls)) (sym pushed.directory)
          (subst (λ ts. MergesOn at B (with_children made (with_child n x no_children)) ts left (grouped ls)) (sym pushed.tops)
          (merges_leaf at n given left (grouped ls) made tops (λ e b h. h) merges x stands));
      looking = looks_on at look n given left (grouped ls) (λ e b h. h) looking (single x) stands;
      held = held.1;
      learned = c.loop-name.invariant.learned;
    }

pub merge_below-loop-name-preserved : goal.merge_below-loop-name-preserved
merge_below-loop-name-preserved g t c =
    let W = within_of c.args.lines.now in
    let path = names_in c.args.above.now in
    let ls = part_values W c.args.parts.items in
    let at = at_name (c.args.deeper - 1) path in
    let look = look_name (c.args.deeper - 1) path in
    let n = c.in-Some.name in
    let given = part_values W c.in-Some.parts.items in
    let left = group_values W c.next.new.self in
    let B = (g.S.BlobSource.tells c.loop-name.source).blobs in
    let steps = rest_more (λ x. x) c.loop-name.name-iterator c.next.new.self c.next.result (c.in-Some.name, c.in-Some.parts) c.in-Some.is c.next.ensures.steps in
    let made = children_directory c.loop-name.children in
    let tops = tops_in c.loop-name.children in
    let merges = subst (λ l. MergesOn at B made tops (group_values W l) (grouped ls)) steps c.loop-name.invariant.merges in
    let looking = subst (λ l. LooksOn at look B (group_values W l) (grouped ls)) steps c.loop-name.invariant.looking in
    let held = subst (λ l. GroupsHeld (group_values W l)) steps c.loop-name.invariant.held in
    let kept = part_values W c.in_ok-parts.parts.items in
    let same = c.in_ok-parts.ensures {u = tt} W in
    let none = no_lone (lone kept) (ap (λ ps. is_some (lone (part_values W ps))) (sym c.deref.ensures.value) ∙ sym (c.is_lone.ensures W) ∙ c.if-is_lone.false) in
    let here = c.in_ok-path.ensures.path ∙ ap (λ o. names_in o ++ n ∷ []) c.as_ref.ensures.value in
    let D = (g.S.BlobSource.tells c.meet.new.source).blobs in
    let more = c.meet.ensures.called.asked.blobs in
    let below = c.in_ok-below.ensures {u = tt} in
    let pushed = c.in_ok-push_folder.ensures {u = tt} in
    let meets = name_meets (c.args.deeper - 1) path n given kept same none c.in_ok-path.path here D below.met.0 below.met.1 in
    let v = c.in_ok-below.below in
    record {
      next = tt;
      finite = tt;
      called = called_on c.loop-name.invariant.called (called_no ok_no_error (λ n. n) below.called);
      merges = subst (λ m. MergesOn at D m (tops_in c.push_folder.new.self) left (grouped ls)) (sym pushed.directory)
          (subst (λ ts. MergesOn at D (with_children made (with_child n (Dir v.root) no_children)) ts left (grouped ls)) (sym pushed.tops)
          (merges_folder at n given left (grouped ls) made tops more merges below.met.0 v.root (items_of v.encodings.items) below.met.2.root below.met.2.encodings meets));
      looking = looks_on at look n given left (grouped ls) more looking (whole below.met.0) meets;
      held = held.1;
      learned = learns_below c.args.deeper path ls c.requires.some n given kept left same none c.in_ok-path.path here more looking c.loop-name.invariant.learned below.learned;
    }

pub merge_below-returns-in_err-close-clause-called : goal.merge_below-returns-in_err-close-clause-called
merge_below-returns-in_err-close-clause-called g t c =
    called_no (λ n. n) (search rules) c.loop-name.invariant.called

pub merge_below-returns-in_err-close-clause-learned : goal.merge_below-returns-in_err-close-clause-learned
merge_below-returns-in_err-close-clause-learned g t c =
    learns_refused (λ a h. h) (refused_exit _ _ c.from_residual-in_err-close.ensures.1) c.loop-name.invariant.learned

pub merge_below-returns-clause-merged : goal.merge_below-returns-clause-merged
merge_below-returns-clause-merged g t c =
    let W = within_of c.args.lines.now in
    let path = names_in c.args.above.now in
    let ls = part_values W c.args.parts.items in
    let at = at_name (c.args.deeper - 1) path in
    let B = (g.S.BlobSource.tells c.loop-name.source).blobs in
    let made = children_directory c.loop-name.children in
    let tops = tops_in c.loop-name.children in
    let none = rest_all (λ x. x) c.loop-name.name-iterator c.next.new.self c.next.result c.in-None.is c.next.ensures.steps in
    let r = merges_end at B made tops (grouped ls) (subst (λ l. MergesOn at B made tops (group_values W l) (grouped ls)) none c.loop-name.invariant.merges) in
    let closed = c.in_ok-close.ensures {u = tt} in (
      r.0,
      whole_passes c.args.deeper path ls c.requires.some B r.0 r.1,
      record {
        root = closed.root ∙ ap (λ m. digest_of (directory_bytes m)) r.2;
        encodings = closed.tops ∙ (λ i. directory_bytes (r.2 i) ∷ r.3 i);
      },
    )

pub merge_below-returns-clause-called : goal.merge_below-returns-clause-called
merge_below-returns-clause-called g t c =
    called_no (λ n. n) ok_no_error c.loop-name.invariant.called
