-- The children so far, and those of the entries that are left, are those of all entries.
use Rattle.std.proofs.Common.{◌≡◌, ◌+◌, List, ◌∷◌, length, drop, sym, ap, subst, refl, ◌∙◌, arith}
use Rattle.std.proofs.lemmas.List.{drop-map, drop-drop, length-drop}
use Rattle.messages.specs.declared.node.Node.TheVariants as nodes
use Rattle.tree.specs.declared.flat_tree.FlatEntry.{FlatEntry}
use Rattle.tree.specs.declared.visiting.Line.{Line}
use Rattle.tree.specs.Tree.{Name, Standing, a_leaf, a_directory}
use Rattle.tree.specs.Form.{NodeValue}
use Rattle.tree.specs.FlatTree.{entry_value, IsListOf}
use Rattle.tree.specs.Visiting.{led, line_entries, children_directory, tops_in}
use Rattle.tree.proofs.Sorted.{length_led}
use Rattle.tree.proofs.FoldSteps.{Lists, lists_first, lists_same, lists_named, lists_rest, lists_leaf, lists_folder, listed_below, no_root, entries_length, visit_of_list}
use Rattle.tree.proofs.VisitSteps.{line_at, drop_line, drop_all, no_names, led_values, rest_of}
use Rattle.tree.proofs.folding.+visit_entries.Goals as goal

pub loop-start-init : goal.loop-start-init
loop-start-init g t c = record {
  within = omega arith;
  lists = lists_same c.new-children.ensures.directory c.new-children.ensures.tops (lists_first (line_entries c.args.entries.now));
}

pub loop-start-preserved-in-Continue-branch-2 :
    goal.loop-start-preserved-in-Continue-branch-2
loop-start-preserved-in-Continue-branch-2 g t c =
    let k = c.loop-start.start in
    let all = line_entries c.args.entries.now in
    let line = c.index-entries-start.result in
    let here = line_at (λ l. (l.names.now, entry_value l.item.now)) k c.args.entries.now line c.in-Some.name.now c.in-Some.field-0-1.now line.names.now c.loop-start-test.true c.index-entries-start.is refl (c.in-Some.ensures {u = tt}).cases.0 in
    let seen : drop k all ≡ (c.in-Some.name.now ∷ c.in-Some.field-0-1.now, a_leaf (nodes.File c.in-File.digest c.in-File.executable)) ∷ drop (k + 1) all =
    here ∙ ap (λ i. (c.in-Some.name.now ∷ c.in-Some.field-0-1.now, entry_value i) ∷ drop (k + 1) all) c.in-File.is in
    let pushed = c.in_ok-push_file-in-File.ensures {u = tt} in
    record {
      within = omega (arith, c.loop-start-test.true);
      lists = lists_named (children_directory c.loop-start.children) (nodes.File c.in-File.digest c.in-File.executable) (c.in_ok-copy.ensures {u = tt}) pushed.directory pushed.tops (lists_leaf (children_directory c.loop-start.children) (tops_in c.loop-start.children) c.in-Some.name.now c.in-Some.field-0-1.now _ (drop (k + 1) all) all
          (subst (λ r. Lists (children_directory c.loop-start.children) (tops_in c.loop-start.children) r all) seen c.loop-start.invariant.lists));
    }

pub loop-start-preserved-in-Continue-branch-3 :
    goal.loop-start-preserved-in-Continue-branch-3
loop-start-preserved-in-Continue-branch-3 g t c =
    let k = c.loop-start.start in
    let all = line_entries c.args.entries.now in
    let line = c.index-entries-start.result in
    let here = line_at (λ l. (l.names.now, entry_value l.item.now)) k c.args.entries.now line c.in-Some.name.now c.in-Some.field-0-1.now line.names.now c.loop-start-test.true c.index-entries-start.is refl (c.in-Some.ensures {u = tt}).cases.0 in
    let seen : drop k all ≡ (c.in-Some.name.now ∷ c.in-Some.field-0-1.now, a_leaf (nodes.Link c.in-Link.target)) ∷ drop (k + 1) all =
    here ∙ ap (λ i. (c.in-Some.name.now ∷ c.in-Some.field-0-1.now, entry_value i) ∷ drop (k + 1) all) c.in-Link.is in
    let pushed = c.in_ok-push_symlink-in-Link.ensures {u = tt} in
    record {
      within = omega (arith, c.loop-start-test.true);
      lists = lists_named (children_directory c.loop-start.children) (nodes.Link c.in-Link.target) (c.in_ok-copy.ensures {u = tt}) pushed.directory pushed.tops (lists_leaf (children_directory c.loop-start.children) (tops_in c.loop-start.children) c.in-Some.name.now c.in-Some.field-0-1.now _ (drop (k + 1) all) all
          (subst (λ r. Lists (children_directory c.loop-start.children) (tops_in c.loop-start.children) r all) seen c.loop-start.invariant.lists));
    }

pub visit_entries-requires : goal.visit_entries-requires
visit_entries-requires g t c κs within =
    let k = c.loop-start.start in
    let all = line_entries c.args.entries.now in
    let n = c.in-Some.name.now in
    let line = c.index-entries-start.result in
    let here = line_at (λ l. (l.names.now, entry_value l.item.now)) k c.args.entries.now line n c.in-Some.field-0-1.now line.names.now c.loop-start-test.true c.index-entries-start.is refl (c.in-Some.ensures {u = tt}).cases.0 in
    let seen : drop k all ≡ (n ∷ c.in-Some.field-0-1.now, a_directory) ∷ drop (k + 1) all = here ∙ ap (λ i. (n ∷ c.in-Some.field-0-1.now, entry_value i) ∷ drop (k + 1) all) c.in-Dir.is in
    let led_is : line_entries c.deref.result.now ≡ led n (drop (k + 1) all) =
    ap line_entries c.deref.ensures.value ∙ led_values entry_value n _ _ (c.in_ok-under-in-Dir.ensures {u = tt})
    ∙ ap (led n) (ap line_entries (rest_of (k + 1) c.args.entries.now) ∙ sym (drop-map (λ l. (l.names.now, entry_value l.item.now)) (k + 1) c.args.entries.now)) in
    let left = c.loop-start.invariant.lists.left c.requires.0 c.requires.1 in
    let tree = listed_below n c.in-Some.field-0-1.now (drop (k + 1) all) (line_entries c.deref.result.now) (left.tree, subst (λ r. IsListOf r left.tree) seen left.list) led_is in
    let few = length_led n (drop (k + 1) all) in
    let count = ap length led_is in
    let a = entries_length c.deref.result.now in
    let b = entries_length c.args.entries.now in
    let rest = length-drop (k + 1) all in
    (omega (arith, few, count, a, b, rest, c.loop-start-test.true, c.decreases), (within, tree))

pub loop-start-preserved-in-Dir : goal.loop-start-preserved-in-Dir
loop-start-preserved-in-Dir g t c =
    let k = c.loop-start.start in
    let all = line_entries c.args.entries.now in
    let n = c.in-Some.name.now in
    let line = c.index-entries-start.result in
    let here = line_at (λ l. (l.names.now, entry_value l.item.now)) k c.args.entries.now line n c.in-Some.field-0-1.now line.names.now c.loop-start-test.true c.index-entries-start.is refl (c.in-Some.ensures {u = tt}).cases.0 in
    let seen : drop k all ≡ (n ∷ c.in-Some.field-0-1.now, a_directory) ∷ drop (k + 1) all = here ∙ ap (λ i. (n ∷ c.in-Some.field-0-1.now, entry_value i) ∷ drop (k + 1) all) c.in-Dir.is in
    let under = line_entries c.deref.result.now in
    let led_is : under ≡ led n (drop (k + 1) all) =
    ap line_entries c.deref.ensures.value ∙ led_values entry_value n _ _ (c.in_ok-under-in-Dir.ensures {u = tt})
    ∙ ap (led n) (ap line_entries (rest_of (k + 1) c.args.entries.now) ∙ sym (drop-map (λ l. (l.names.now, entry_value l.item.now)) (k + 1) c.args.entries.now)) in
    let few = length_led n (drop (k + 1) all) in
    let count = ap length led_is in
    let a = entries_length c.deref.result.now in
    let b = entries_length c.args.entries.now in
    let rest = length-drop (k + 1) all in
    let taken : length under ≡ c.len-start.result = omega (arith, a, c.len-start.ensures, c.deref.ensures.len) in
    let pushed = c.in_ok-push_folder-in-Dir.ensures {u = tt} in
    let visit = c.in_ok-below-in-Dir.ensures {u = tt} in
    let more = lists_folder (children_directory c.loop-start.children) (tops_in c.loop-start.children) _ _ n c.in-Some.field-0-1.now (drop (k + 1) all) all under
    (subst (λ r. Lists (children_directory c.loop-start.children) (tops_in c.loop-start.children) r all) seen c.loop-start.invariant.lists) led_is (λ u at. ((visit u at).root, (visit u at).encodings)) in
    record {
      within = omega (arith, few, count, a, b, rest, taken, c.loop-start-test.true);
      lists = lists_named (children_directory c.loop-start.children) (nodes.Dir c.in_ok-below-in-Dir.below.root) (c.in_ok-copy.ensures {u = tt}) pushed.directory pushed.tops (lists_rest (drop-drop (length under) (k + 1) all ∙ ap (λ j. drop (k + 1 + j) all) taken) more);
    }

pub loop-start-preserved : goal.loop-start-preserved
loop-start-preserved g t c =
    let k = c.loop-start.start in
    let all = line_entries c.args.entries.now in
    let line = c.index-entries-start.result in
    let none = no_names line.names.now (let len = (c.in_default.ensures {u = tt}).cases in omega (arith, len)) in
    let here : drop k all ≡ (line.names.now, entry_value line.item.now) ∷ drop (k + 1) all =
    drop_line (λ l. (l.names.now, entry_value l.item.now)) k c.args.entries.now line c.loop-start-test.true ∙ ap (λ l. (l.names.now, entry_value l.item.now) ∷ drop (k + 1) all) (sym c.index-entries-start.is) in
    let left = c.loop-start.invariant.lists.left c.requires.0 c.requires.1 in
    absurd (no_root (entry_value line.item.now) (drop (k + 1) all) left.tree (subst (λ r. IsListOf r left.tree) (here ∙ ap (λ p. (p, entry_value line.item.now) ∷ drop (k + 1) all) none) left.list))

pub returns : goal.returns
returns g t c =
    let all = line_entries c.args.entries.now in
    let value : Line _ (FlatEntry _) → List Name × Standing NodeValue = λ l. (l.names.now, entry_value l.item.now) in
    let none = drop_all value c.loop-start.start c.args.entries.now (omega (arith, c.loop-start-test.false)) in
    visit_of_list c.close.result all (children_directory c.loop-start.children) (tops_in c.loop-start.children) (subst (λ r. Lists (children_directory c.loop-start.children) (tops_in c.loop-start.children) r all) none c.loop-start.invariant.lists)
    c.close.ensures.root c.close.ensures.tops
