-- What the checks of a plan look at is named as a message: no digest is looked at only since a file has it.
use Rattle.std.proofs.Common.{◌≡◌, ◌≢◌, ℕ, zero, suc, Bool, true, false, cond, List, [], ◌∷◌, ◌++◌, map, length, Option, Some, None, refl, ap, sym, ◌∙◌, subst, inl, inr, arith}
use Rattle.std.specs.Prelude.{◌⊎◌, slice_get}
use Rattle.std.specs.List.{AllByRecursion, Contains}
use Rattle.std.specs.Ordering.{eq_by_cmp}
use Rattle.std.proofs.lemmas.List.Elements.{Contains-append_left, Contains-append_right}
use Rattle.std.proofs.lemmas.List.{length-append}
use Rattle.blob_digest.specs.Digest.{DigestValue, digest_of}
use Rattle.blob_digest.specs.DigestValue.{IsDigest}
use Rattle.messages.specs.declared.node.Node.TheVariants.{File, Link, Dir}
use Rattle.messages.specs.DirectoryNode.{DirectoryNodeValue}
use Rattle.messages.specs.DirectoryRules.{DirectoryValue}
use Rattle.messages.specs.Directory.{directory_bytes}
use Rattle.messages.specs.Node.{IsChild, child}
use Rattle.messages.specs.Tree.{TreeValue, IsTree, tree_bytes, digests_of}
use Rattle.messages.proofs.Children.{child_stands}
use Rattle.action_messages.specs.Action.{ActionValue}
use Rattle.action_messages.specs.ActionResult.{ActionResultValue}
use Rattle.action_messages.specs.Command.{CommandValue}
use Rattle.action_messages.specs.OutputDirectory.{OutputDirectoryValue}
use Rattle.action_messages.specs.Outputs.{RecordedValue, file, directory, link, directories_among}
use Rattle.actions.specs.declared.outcome.Output.TheVariants as outputs
use Rattle.actions.specs.Outcome.{OutputValue, OutcomeValue}
use Rattle.actions.specs.OutcomeLookup.{LooksBelow, LooksIn, within_output}
use Rattle.actions.specs.Recorded.{StandForAll, IsRecorded}
use Rattle.actions.proofs.TreeLookups.{all_at, holds_mapped}
use Rattle.plan.specs.Values.{OriginValue, source, output, LineValue, StepValue, PlanValue, IsLine}
use Rattle.plan.specs.Plan.{AreSteps, IsPlan}
use Rattle.tree.specs.Tree.{Name, name_cmp, Tree, empty, leaf, folder, Entry, single, whole, entry_of, below_entry, IsOrdered}
use Rattle.tree.specs.Form.{NodeValue, directory_of, top, root}
use Rattle.tree.specs.Folded.{AreValid, first_visits}
use Rattle.tree.specs.Graft.{with_entry}
use Rattle.tree.specs.Difference.{IsFirstOf, IsNoneOf, ReadsDirectory, child_of}
use Rattle.tree.specs.Lookup.{found, LooksFrom}
use Rattle.tree.specs.LooksAt.{OnWayFrom, LooksAtOther, ComparesBoth, Compares}
use Rattle.tree.specs.Memo.{Asked, LooksAtBlob}
use Rattle.tree.specs.Merging.{WithinValue, in_source, in_tree, NodeWithin, MergeLines, MergeFault, lines_at, first_names, counted, IsHeldIn, AreHeld, child_lines, node_opened, line_opened, opened, met, node_here, lone, stands_or, entry_merged, each_name, merged_in, merged}
use Rattle.tree.specs.MergeLooks.{looks, NodeLooksAt, LineLooksAt, OpenedLooksAt, MetLooksAt, StandsOrLooksAt, EachLooksAt, MergeLooksIn, MergeLooksAt}
use Rattle.tree.specs.Stage.{Stage, ◌and_then◌}
use Rattle.tree.proofs.Children.{child-with_child, child-below, same_name}
use Rattle.tree.proofs.DirectoryBytes.{directory_bytes_injective}
use Rattle.tree.proofs.MergeHeld.{opened_held, node_held}
use Rattle.tree.proofs.MergeStages.{AllGiven, all_lines_at, all_counted, all_appended}
use Rattle.tree.proofs.MergeValid.{merged_valid}
use Rattle.tree.proofs.TreeDigests.{valid_digests}
use Rattle.tree.proofs.ValidTrees.{valid_directory}
use Rattle.tree.proofs.Visits.{IsTopAt, visits_found, visits_held}
use Rattle.blob_source.specs.Source.{Blobs, Telling}
use Rattle.blob_source.specs.Told.{IsTold, TellsDirectory, FailsDirectory}
use Rattle.verifier.specs.Holding.{HoldsResult}
use Rattle.verifier.specs.LooksAt.{InputLooksAt, OutputsLookAt, ResultLooksAt, StepLooksAt, StepsLookAt, PlanLooksAt}
use Rattle.verifier.specs.Named.{IsNamedAsMessage, an_action, a_command, an_input, the_sources, a_child, a_tree, in_tree as of_tree, AsksForMessage}
use Rattle.verifier.specs.StepChecks.{step_check}
use Rattle.verifier.specs.Together.{LooksUpOrigin, StandsAtOrigin, Resolves, put_together, OriginLooksAt, LinesLookAt, TogetherLooksAt}
use Rattle.verifier.specs.Verdict.{steps_check}
use Rattle.verifier.proofs.HeldOrigins.{tree_held, resolves_held}
use Rattle.verifier.proofs.OutputLookups.{mapped_from}
use Rattle.verifier.proofs.StepLaws.{recorded_from}
use Rattle.verifier.proofs.Totals.{AreValidOutputs}
use Rattle.verifier.proofs.VerdictTotal.{with_trees, valid_lines, passed_valid, one_more, steps_valid}

-- ---- lists

each_given : {X : Type 0} (P : NodeWithin → Type 0) (f : X → List Name × NodeWithin) (xs : List X) → ((x : X) → Contains xs x → P (f x).1) → AllGiven P (map f xs)
each_given P f [] h = tt
each_given P f (x ∷ xs) h = (h x (0, omega arith, refl), each_given P f xs (λ y here. h y (suc here.0, (let less = here.1 in omega (arith, less)), here.2)))

-- ---- the child of a tree's Directory

none_within : (p : List Name) → below_entry {L = NodeValue} p None ≡ None
none_within [] = refl
none_within (n ∷ p) = refl

abbrev node_of : Entry NodeValue → NodeValue
node_of (single x) = x
node_of (whole t) = Dir (root t)

abbrev IsChildFrom : Option (Entry NodeValue) → NodeValue → Type 0
IsChildFrom o x = (e : Entry NodeValue) × (o ≡ Some e) × (node_of e ≡ x)

-- of an entry before others
beside_from : (n m : Name) (e : Entry NodeValue) (x : NodeValue) (rest : Tree NodeValue) → cond (eq_by_cmp name_cmp n m) (Some (node_of e)) (child n (directory_of rest)) ≡ Some x
    → (child n (directory_of rest) ≡ Some x → IsChildFrom (entry_of n rest) x) → IsChildFrom (cond (eq_by_cmp name_cmp n m) (Some e) (entry_of n rest)) x
beside_from n m e x rest is others = by (eq_by_cmp name_cmp n m) is
  where
    by : (b : Bool) → cond b (Some (node_of e)) (child n (directory_of rest)) ≡ Some x → IsChildFrom (cond b (Some e) (entry_of n rest)) x
    by true is = (e, refl, (let both : ◌≡◌ {A = Option NodeValue} (Some (node_of e)) (Some x) = is in cc))
    by false is = others is

child_from : (n : Name) (x : NodeValue) (t : Tree NodeValue) → IsOrdered t → child n (directory_of t) ≡ Some x → IsChildFrom (entry_of n t) x
child_from n x empty ordered is = absurd (let none : ◌≡◌ {A = Option NodeValue} None (Some x) = is in cc)
child_from n x (leaf m y rest) ordered is =
    beside_from n m (single y) x rest (sym (child-with_child n m y (directory_of rest) (λ e. let same = same_name n m e in rw same (child-below m rest ordered.0))) ∙ is) (child_from n x rest ordered.1)
child_from n x (folder m below rest) ordered is =
    beside_from n m (whole below) x rest (sym (child-with_child n m (Dir (root below)) (directory_of rest) (λ e. let same = same_name n m e in rw same (child-below m rest ordered.0))) ∙ is) (child_from n x rest ordered.2)

-- ---- what is named

module _ (tells : Telling) (sources : DigestValue) (recorded : List DigestValue) where
  abbrev N : DigestValue → Type 0
  N d = IsNamedAsMessage tells sources recorded d

  abbrev B : Blobs
  B = tells.blobs

  abbrev IsNamed : Asked → Type 0
  IsNamed = AsksForMessage tells sources recorded

  named_blob : (d : DigestValue) (a : Asked) → N d → LooksAtBlob d a → IsNamed a
  named_blob d a h at = subst IsNamed (sym at.0) h

  abbrev IsNamedNode : NodeValue → Type 0
  IsNamedNode (File d executable) = Unit {0}
  IsNamedNode (Link target) = Unit {0}
  IsNamedNode (Dir d) = N d

  abbrev IsNamedIfAny : Option NodeValue → Type 0
  IsNamedIfAny None = Unit {0}
  IsNamedIfAny (Some x) = IsNamedNode x

  -- ---- look-ups

  child_named : (d : DigestValue) (m : DirectoryValue) (n : Name) → N d → TellsDirectory B d m → IsNamedIfAny (child n m)
  child_named d m n h told = by (child n m) (child_stands (Unit {0}) n m)
    where
      by : (o : Option NodeValue) → IsChild {A = Unit {0}} n m o → IsNamedIfAny o
      by None here = tt
      by (Some (File e executable)) here = tt
      by (Some (Link target)) here = tt
      by (Some (Dir e)) here = a_child d m (record { name = n; digest = e }) h told here

  way_named : (a : Asked) (p : List Name) (o : Option NodeValue) → IsNamedIfAny o → OnWayFrom B p o a → IsNamed a
  way_named a p None h k = absurd k
  way_named a [] (Some x) h k = absurd k
  way_named a (n ∷ p) (Some (File d executable)) h k = absurd k
  way_named a (n ∷ p) (Some (Link target)) h k = absurd k
  way_named a (n ∷ p) (Some (Dir d)) h (inl k) = named_blob d a h k
  way_named a (n ∷ p) (Some (Dir d)) h (inr k) = way_named a p (child n k.0) (child_named d k.0 n h k.1) k.2

  found_is : {x y : NodeValue} → found x ≡ found y → x ≡ y
  found_is e = cc

  look_named : (p : List Name) (o : Option NodeValue) (x : NodeValue) → IsNamedIfAny o → LooksFrom (TellsDirectory B) (FailsDirectory B) p o (found x) → IsNamedNode x
  look_named p None x h k = absurd cc
  look_named [] (Some y) x h k = subst IsNamedNode (sym (found_is k)) h
  look_named (n ∷ p) (Some (File d executable)) x h k = absurd cc
  look_named (n ∷ p) (Some (Link target)) x h k = absurd cc
  look_named (n ∷ p) (Some (Dir d)) x h (inl k) = look_named p (child n k.0) x (child_named d k.0 n h k.1) k.2
  look_named (n ∷ p) (Some (Dir d)) x h (inr k) = absurd (let is = k.2 in cc)

  -- ---- Trees of outputs

  abbrev IsToldTree : TreeValue → Type 0
  IsToldTree t = (d : DigestValue) × N d × IsTold IsTree tree_bytes B d t

  tree_named : (t : TreeValue) → IsToldTree t → (d : DigestValue) → Contains (digests_of (map directory_bytes (t.root ∷ t.children))) d → N d
  tree_named t told d here =
      let bytes = mapped_from digest_of (map directory_bytes (t.root ∷ t.children)) d here in
      let m = mapped_from directory_bytes (t.root ∷ t.children) bytes.0 bytes.1 in
      subst N (ap digest_of m.2 ∙ bytes.2) (of_tree told.0 t m.0 told.1 told.2 m.1)

  held_named : (t : TreeValue) → IsToldTree t → (x : NodeValue) → IsHeldIn (in_tree t) x → IsNamedNode x
  held_named t told (File d executable) held = tt
  held_named t told (Link target) held = tt
  held_named t told (Dir d) held = tree_named t told d held.1

  abbrev IsNamedOutput : OutputValue → Type 0
  IsNamedOutput (outputs.File d executable) = Unit {0}
  IsNamedOutput (outputs.Link target) = Unit {0}
  IsNamedOutput (outputs.Tree t) = IsToldTree t

  abbrev HasNamedOutputs : OutcomeValue → Type 0
  HasNamedOutputs o = AllByRecursion (λ (e : List Name × OutputValue). IsNamedOutput e.1) o.outputs

  below_named : (v : OutputValue) → IsNamedOutput v → (names : List Name) (x : NodeValue) → LooksBelow v names (found x) → IsNamedNode x
  below_named (outputs.File d executable) h [] x k = subst IsNamedNode (sym (found_is k)) tt
  below_named (outputs.File d executable) h (n ∷ names) x k = absurd cc
  below_named (outputs.Link target) h [] x k = subst IsNamedNode (sym (found_is k)) tt
  below_named (outputs.Link target) h (n ∷ names) x k = absurd cc
  below_named (outputs.Tree t) h names x k = held_named t h x (tree_held t h.2.valid names x k)

  outcome_named : (o : OutcomeValue) → HasNamedOutputs o → (p : List Name) (x : NodeValue) → LooksIn o p (found x) → IsNamedNode x
  outcome_named o h p x (inl k) = below_named k.0.1 (all_at (λ (e : List Name × OutputValue). IsNamedOutput e.1) o.outputs k.0 h k.1) k.2 x k.4
  outcome_named o h p x (inr k) = absurd (let e = k.1 in cc)

  -- those of a recorded outcome are told
  stand_named : (xs : List RecordedValue) (es : List (List Name × OutputValue)) → ((x : OutputDirectoryValue) → Contains (directories_among xs) x → N x.tree) → StandForAll B xs es
      → AllByRecursion (λ (e : List Name × OutputValue). IsNamedOutput e.1) es
  stand_named [] es h k = subst (AllByRecursion (λ (e : List Name × OutputValue). IsNamedOutput e.1)) (sym k) tt
  stand_named (x ∷ xs) [] h k = absurd k
  stand_named (file x ∷ xs) (e ∷ es) h k = (subst IsNamedOutput (sym k.1) tt, stand_named xs es h k.2)
  stand_named (directory x ∷ xs) (e ∷ es) h k =
      (subst IsNamedOutput (sym k.1.2) (x.tree, h x (0, omega arith, refl), k.1.1), stand_named xs es (λ y here. h y (suc here.0, (let less = here.1 in omega (arith, less)), here.2)) k.2)
  stand_named (link x ∷ xs) (e ∷ es) h k = (subst IsNamedOutput (sym k.1) tt, stand_named xs es h k.2)

  -- ---- lines

  abbrev IsNamedWithin : WithinValue → Type 0
  IsNamedWithin in_source = Unit {0}
  IsNamedWithin (in_tree t) = IsToldTree t

  abbrev IsNamedLine : NodeWithin → Type 0
  IsNamedLine g = IsNamedNode g.node × IsNamedWithin g.within

  abbrev AreNamedLines : MergeLines → Type 0
  AreNamedLines ls = AllGiven IsNamedLine ls

  children_named : (within : WithinValue) (m : DirectoryValue) → IsNamedWithin within → ((n : DirectoryNodeValue) → Contains m.directories n → N n.digest) → AreNamedLines (child_lines within m)
  children_named within m h each =
      all_appended IsNamedLine _ _ (each_given IsNamedLine _ m.files (λ f here. (tt, h)))
      (all_appended IsNamedLine _ _ (each_given IsNamedLine _ m.directories (λ n here. (each n here, h))) (each_given IsNamedLine _ m.symlinks (λ l here. (tt, h))))

  node_named : (x : NodeValue) (within : WithinValue) (new : MergeLines) → IsNamedLine (record { node = x; within = within }) → IsHeldIn within x → (node_opened B x within).passes new → AreNamedLines new
  unfolding ◌and_then◌
  node_named (File d executable) within new h held is = subst AreNamedLines (sym is) tt
  node_named (Link target) within new h held is = subst AreNamedLines (sym is) tt
  node_named (Dir d) in_source new h held (m, told, is) = subst AreNamedLines (sym is) (children_named in_source m tt (λ n here. a_child d m n h.0 told here))
  node_named (Dir d) (in_tree t) new h held (m, first, is) =
      let kept : AreHeld (child_lines (in_tree t) m) = node_held B (Dir d) (in_tree t) (child_lines (in_tree t) m) held (m, first, refl) in
      subst AreNamedLines (sym is) (children_named (in_tree t) m h.1 (λ n here.
      tree_named t h.1 n.digest (all_at (λ (l : List Name × NodeWithin). IsHeldIn l.1.within l.1.node) (child_lines (in_tree t) m) (n.name ∷ [], record { node = Dir n.digest; within = in_tree t }) kept
      (Contains-append_right _ _ _ (Contains-append_left _ _ _ (holds_mapped (λ (k : DirectoryNodeValue). (k.name ∷ [], record { node = Dir k.digest; within = in_tree t })) m.directories n here)))).1))

  line_named : (p : List Name) (g : NodeWithin) (new : MergeLines) → IsNamedLine g → IsHeldIn g.within g.node → (line_opened B p g).passes new → AreNamedLines new
  line_named [] g new h held is = node_named g.node g.within new h held is
  line_named (n ∷ p) g new h held is = subst AreNamedLines (sym is) (h, tt)

  opened_named : (ls new : MergeLines) → AreNamedLines ls → AreHeld ls → (opened B ls).passes new → AreNamedLines new
  unfolding ◌and_then◌
  opened_named [] new h held is = subst AreNamedLines (sym is) tt
  opened_named (l ∷ ls) new h held (here, k, (rest, more, is)) =
      subst AreNamedLines (sym is) (all_appended IsNamedLine here rest (line_named l.0 l.1 here h.0 held.0 k) (opened_named ls rest h.1 held.1 more))

  -- ---- what merging them looks at

  node_looks : (x : NodeValue) (within : WithinValue) (a : Asked) → IsNamedNode x → NodeLooksAt within x a → IsNamed a
  node_looks (File d executable) in_source a h k = absurd k
  node_looks (File d executable) (in_tree t) a h k = absurd k
  node_looks (Link target) in_source a h k = absurd k
  node_looks (Link target) (in_tree t) a h k = absurd k
  node_looks (Dir d) in_source a h k = named_blob d a h k
  node_looks (Dir d) (in_tree t) a h k = absurd k

  line_looks : (p : List Name) (g : NodeWithin) (a : Asked) → IsNamedLine g → LineLooksAt p g a → IsNamed a
  line_looks [] g a h k = node_looks g.node g.within a h.0 k
  line_looks (n ∷ p) g a h k = absurd k

  opened_looks : (ls : MergeLines) (a : Asked) → AreNamedLines ls → OpenedLooksAt B ls a → IsNamed a
  unfolding looks
  opened_looks [] a h k = absurd k
  opened_looks (l ∷ ls) a h (inl k) = line_looks l.0 l.1 a h.0 k
  opened_looks (l ∷ ls) a h (inr k) = opened_looks ls a h.1 k.2

  module _ {E L : Type 0} (at : Name → MergeLines → Stage E (Entry L)) (Looks : Name → MergeLines → Asked → Type 0) (ls : MergeLines) (a : Asked) (h : (n : Name) → Looks n (lines_at n ls) a → IsNamed a) where
    each_looks : (ns : List Name) → EachLooksAt at Looks (map (λ n. (n, lines_at n ls)) ns) a → IsNamed a
    unfolding looks
    each_looks [] k = absurd k
    each_looks (n ∷ ns) (inl k) = h n k
    each_looks (n ∷ ns) (inr k) = each_looks ns k.2

  given_named : (n : Name) (ls : MergeLines) → AreNamedLines ls → AreNamedLines (counted [] (lines_at n ls))
  given_named n ls h = all_counted IsNamedLine [] (lines_at n ls) (all_lines_at IsNamedLine n ls h)

  given_held : (n : Name) (ls : MergeLines) → AreHeld ls → AreHeld (counted [] (lines_at n ls))
  given_held n ls h = all_counted (λ g. IsHeldIn g.within g.node) [] (lines_at n ls) (all_lines_at (λ g. IsHeldIn g.within g.node) n ls h)

  met_looks : (k : ℕ) (path : List Name) (us : MergeLines) (a : Asked) → AreNamedLines us → AreHeld us → ((new : MergeLines) → AreNamedLines new → AreHeld new → MergeLooksIn B k path new a → IsNamed a)
      → (o : Option NodeValue) → StandsOrLooksAt o (MetLooksAt B (MergeLooksIn B k path) k us a) → IsNamed a
  unfolding looks
  met_looks k path us a h held below (Some x) here = absurd here
  met_looks k path us a h held below None (can, inl here) = opened_looks us a h here
  met_looks k path us a h held below None (can, inr (new, read, here)) = below new (opened_named us new h held read) (opened_held B us new held read) here

  merge_looks : (k : ℕ) (path : List Name) (ls : MergeLines) (a : Asked) → AreNamedLines ls → AreHeld ls → MergeLooksIn B k path ls a → IsNamed a
  unfolding looks
  merge_looks zero path ls a h held at = absurd at
  merge_looks (suc k) path ls a h held at =
      each_looks (λ n given. entry_merged B (merged_in B k (path ++ n ∷ [])) k (path ++ n ∷ []) (counted [] given))
      (λ n given b. StandsOrLooksAt (lone (counted [] given)) (MetLooksAt B (MergeLooksIn B k (path ++ n ∷ [])) k (counted [] given) b)) ls a
      (λ n here. met_looks k (path ++ n ∷ []) (counted [] (lines_at n ls)) a (given_named n ls h) (given_held n ls held) (λ new named own below. merge_looks k (path ++ n ∷ []) new a named own below) (lone (counted [] (lines_at n ls))) here)
      (first_names ls) at

  -- ---- the leaves of the tree that they merge into

  abbrev AreNamedLeaves : Tree NodeValue → Type 0
  AreNamedLeaves empty = Unit {0}
  AreNamedLeaves (leaf n x rest) = IsNamedNode x × AreNamedLeaves rest
  AreNamedLeaves (folder n below rest) = AreNamedLeaves below × AreNamedLeaves rest

  abbrev HasNamedLeaves : Entry NodeValue → Type 0
  HasNamedLeaves (single x) = IsNamedNode x
  HasNamedLeaves (whole t) = AreNamedLeaves t

  with_named : (n : Name) (e : Entry NodeValue) (rest : Tree NodeValue) → HasNamedLeaves e → AreNamedLeaves rest → AreNamedLeaves (with_entry n e rest)
  with_named n (single x) rest h k = (h, k)
  with_named n (whole t) rest h k = (h, k)

  lone_named : (us : MergeLines) (x : NodeValue) → AreNamedLines us → lone us ≡ Some x → IsNamedNode x
  lone_named [] x h e = absurd (let both : ◌≡◌ {A = Option NodeValue} None (Some x) = e in cc)
  lone_named (l ∷ []) x h e = by l.0 e
    where
      by : (p : List Name) → node_here p l.1 ≡ Some x → IsNamedNode x
      by [] e = subst IsNamedNode (let both : ◌≡◌ {A = Option NodeValue} (Some l.1.node) (Some x) = e in cc) h.0.0
      by (n ∷ p) e = absurd (let both : ◌≡◌ {A = Option NodeValue} None (Some x) = e in cc)
  lone_named (l ∷ k ∷ us) x h e = absurd (let both : ◌≡◌ {A = Option NodeValue} None (Some x) = e in cc)

  module _ (at : Name → MergeLines → Stage MergeFault (Entry NodeValue)) (ls : MergeLines) (h : (n : Name) (e : Entry NodeValue) → (at n (lines_at n ls)).passes e → HasNamedLeaves e) where
    each_named : (ns : List Name) (t : Tree NodeValue) → (each_name at (map (λ n. (n, lines_at n ls)) ns)).passes t → AreNamedLeaves t
    unfolding ◌and_then◌
    each_named [] t is = subst AreNamedLeaves (sym is) tt
    each_named (n ∷ ns) t (e, here, (rest, more, is)) = subst AreNamedLeaves (sym is) (with_named n e rest (h n e here) (each_named ns rest more))

  entry_named : (k : ℕ) (path : List Name) (us : MergeLines) → AreNamedLines us → AreHeld us → ((new : MergeLines) (t : Tree NodeValue) → AreNamedLines new → AreHeld new → (merged_in B k path new).passes t → AreNamedLeaves t)
      → (e : Entry NodeValue) → (entry_merged B (merged_in B k path) k path us).passes e → HasNamedLeaves e
  unfolding ◌and_then◌
  entry_named k path us h held below e is = by (lone us) refl is
    where
      by : (o : Option NodeValue) → lone us ≡ o → (stands_or o (met B (merged_in B k path) k path us)).passes e → HasNamedLeaves e
      by (Some x) alone here = subst HasNamedLeaves (sym here) (lone_named us x h alone)
      by None alone (u, can, (new, read, (t, rest, same))) = subst HasNamedLeaves (sym same) (below new t (opened_named us new h held read) (opened_held B us new held read) rest)

  merged_named : (k : ℕ) (path : List Name) (ls : MergeLines) (t : Tree NodeValue) → AreNamedLines ls → AreHeld ls → (merged_in B k path ls).passes t → AreNamedLeaves t
  unfolding ◌and_then◌
  merged_named zero path ls t h held is = subst AreNamedLeaves (sym is) tt
  merged_named (suc k) path ls t h held is =
      each_named (λ n given. entry_merged B (merged_in B k (path ++ n ∷ [])) k (path ++ n ∷ []) (counted [] given)) ls
      (λ n e here. entry_named k (path ++ n ∷ []) (counted [] (lines_at n ls)) (given_named n ls h) (given_held n ls held) (λ new below named own rest. merged_named k (path ++ n ∷ []) new below named own rest) e here) (first_names ls) t is

  -- ---- the comparison of that tree with a recorded input

  module _ (own : List (List ℕ)) where
    -- a tree of the merge: its Directories are the merge's own
    record IsOwn (t : Tree NodeValue) : Type 0 where
      named : AreNamedLeaves t
      valid : AreValid t
      ordered : IsOrdered t
      held : (p : List Name) (b : List ℕ) → IsTopAt t p b → Contains own b

    abbrev IsOwnEntry : Entry NodeValue → Type 0
    IsOwnEntry (single x) = IsNamedNode x
    IsOwnEntry (whole t) = IsOwn t

    abbrev IsFine : Entry NodeValue → Type 0
    IsFine (single x) = IsNamedNode x
    IsFine (whole t) = AreNamedLeaves t × AreValid t × IsOrdered t

    some_is : {x y : Entry NodeValue} → ◌≡◌ {A = Option (Entry NodeValue)} (Some x) (Some y) → x ≡ y
    some_is e = cc

    fine_beside : (n m : Name) (x e : Entry NodeValue) (rest : Tree NodeValue) → IsFine x → (entry_of n rest ≡ Some e → IsFine e) → cond (eq_by_cmp name_cmp n m) (Some x) (entry_of n rest) ≡ Some e → IsFine e
    fine_beside n m x e rest fine others is = by (eq_by_cmp name_cmp n m) is
      where
        by : (b : Bool) → cond b (Some x) (entry_of n rest) ≡ Some e → IsFine e
        by true is = subst IsFine (some_is is) fine
        by false is = others is

    fine_at : (n : Name) (t : Tree NodeValue) (e : Entry NodeValue) → AreNamedLeaves t → AreValid t → IsOrdered t → entry_of n t ≡ Some e → IsFine e
    fine_at n empty e named valid ordered is = absurd cc
    fine_at n (leaf m x rest) e named valid ordered is = fine_beside n m (single x) e rest named.0 (fine_at n rest e named.1 valid.1 ordered.1) is
    fine_at n (folder m below rest) e named valid ordered is = fine_beside n m (whole below) e rest (named.0, valid.0.1, ordered.1) (fine_at n rest e named.1 valid.1 ordered.2) is

    own_entry : (n : Name) (t : Tree NodeValue) (e : Entry NodeValue) → IsOwn t → entry_of n t ≡ Some e → IsOwnEntry e
    own_entry n t (single x) h is = fine_at n t (single x) h.named h.valid h.ordered is
    own_entry n t (whole u) h is =
        let fine = fine_at n t (whole u) h.named h.valid h.ordered is in
        record { named = fine.0; valid = fine.1; ordered = fine.2; held = λ p b at. h.held (n ∷ p) b (at.0, ap (below_entry p) is ∙ at.1, at.2) }

    own_below : (n : Name) (p : List Name) (t u : Tree NodeValue) → IsOwn t → ((e : Entry NodeValue) → IsOwnEntry e → below_entry p (Some e) ≡ Some (whole u) → IsOwn u) → below_entry p (entry_of n t) ≡ Some (whole u) → IsOwn u
    own_below n p t u h below is = by (entry_of n t) refl is
      where
        by : (o : Option (Entry NodeValue)) → entry_of n t ≡ o → below_entry p o ≡ Some (whole u) → IsOwn u
        by None at is = absurd (let no : below_entry {L = NodeValue} p None ≡ None = none_within p in let both : ◌≡◌ {A = Option (Entry NodeValue)} None (Some (whole u)) = sym no ∙ is in cc)
        by (Some e) at is = below e (own_entry n t e h at) is

    own_at : (p : List Name) (e : Entry NodeValue) (u : Tree NodeValue) → IsOwnEntry e → below_entry p (Some e) ≡ Some (whole u) → IsOwn u
    own_at [] e u h is = subst IsOwnEntry (some_is is) h
    own_at (n ∷ p) (single x) u h is = absurd cc
    own_at (n ∷ p) (whole t) u h is = own_below n p t u h (λ e own at. own_at p e u own at) is

    -- the digest is named, or that of a Directory of the merge
    abbrev IsComparable : DigestValue → Type 0
    IsComparable d = N d ⊎ ((u : Tree NodeValue) × IsOwn u × (root u ≡ d))

    not_own : (d : DigestValue) → IsComparable d → IsNoneOf own d → N d
    not_own d (inl h) none = h
    not_own d (inr (u, h, is)) none = absurd (all_at (λ b. digest_of b ≢ d) own (top u) none (h.held [] (top u) (u, refl, refl)) is)

    other_looks : (d : DigestValue) (a : Asked) → IsComparable d → LooksAtOther own d a → IsNamed a
    other_looks d a h k = named_blob d a (not_own d h k.0) k.1

    module _ (t : Tree NodeValue) (is_first : own ≡ first_visits t) (whole_own : IsOwn t) where
      in_first : (d : DigestValue) (b : List ℕ) → IsFirstOf own d b → Contains own b
      in_first d b h = subst (λ l. Contains l b) (sym h.stands) (Contains-append_right h.before (b ∷ h.behind) b (0, omega arith, refl))

      read_below : (d : DigestValue) (m : DirectoryValue) → IsComparable d → ReadsDirectory own B d m → (n : Name) (e : DigestValue) → child_of n m ≡ Some (Dir e) → IsComparable e
      read_below d m h (inr (none, told)) n e is = inl (subst IsNamedIfAny is (child_named d m n (not_own d h none) told))
      read_below d m h (inl (valid, first)) n e is =
          let there = visits_found t (directory_bytes m) whole_own.ordered (subst (λ l. Contains l (directory_bytes m)) is_first (in_first d (directory_bytes m) first)) in
          let u = there.1.0 in
          let own_u : IsOwn u = own_at there.0 (whole t) u whole_own there.1.1 in
          let same : m ≡ directory_of u = directory_bytes_injective m (directory_of u) (valid_digests m valid) (valid_digests (directory_of u) (valid_directory u own_u.ordered own_u.valid)) there.1.2 in
          let below = child_from n (Dir e) u own_u.ordered (ap (child_of n) (sym same) ∙ is) in
          by below.0 (own_entry n u below.0 own_u below.1) below.2
        where
          by : (x : Entry NodeValue) → IsOwnEntry x → node_of x ≡ Dir e → IsComparable e
          by (single x) h is = inl (subst IsNamedNode is h)
          by (whole w) h is = inr (w, h, (let both : ◌≡◌ {A = NodeValue} (Dir (root w)) (Dir e) = is in cc))

      both_are : (o p : Option NodeValue) (Next : DigestValue → DigestValue → Type 0) → ComparesBoth o p Next → (x y : DigestValue) × (o ≡ Some (Dir x)) × (p ≡ Some (Dir y)) × Next x y
      both_are None p Next h = absurd h
      both_are (Some (File d executable)) p Next h = absurd h
      both_are (Some (Link target)) p Next h = absurd h
      both_are (Some (Dir x)) None Next h = absurd h
      both_are (Some (Dir x)) (Some (File d executable)) Next h = absurd h
      both_are (Some (Dir x)) (Some (Link target)) Next h = absurd h
      both_are (Some (Dir x)) (Some (Dir y)) Next h = (x, y, refl, refl, h)

      compare_looks : (deeper : ℕ) (g r : DigestValue) (a : Asked) → IsComparable g → IsComparable r → Compares own B deeper g r a → IsNamed a
      compare_looks zero g r a hg hr k = absurd k
      compare_looks (suc deeper) g r a hg hr (inl k) = other_looks r a hr k
      compare_looks (suc deeper) g r a hg hr (inr (m, read, inl k)) = other_looks g a hg k
      compare_looks (suc deeper) g r a hg hr (inr (m, read, inr (k, here, n, first, both))) =
          let b = both_are (child_of n k) (child_of n m) (λ x y. Compares own B deeper x y a) both in
          compare_looks deeper b.0 b.1 a (read_below g k hg here n b.0 b.2) (read_below r m hr read n b.1 b.3) b.4

  -- ---- what lines put together

  -- outcomes that were recorded, by results that are held
  abbrev pub AreNamedOutcomes : List OutcomeValue → Type 0
  AreNamedOutcomes os = AllByRecursion HasNamedOutputs os

  one_named : (os : List OutcomeValue) (o : OutcomeValue) → AreNamedOutcomes os → HasNamedOutputs o → AreNamedOutcomes (os ++ o ∷ [])
  one_named [] o h k = (k, tt)
  one_named (x ∷ os) o h k = (h.0, one_named os o h.1 k)

  named_at : (os : List OutcomeValue) (i : ℕ) (o : OutcomeValue) → AreNamedOutcomes os → slice_get os i ≡ Some o → HasNamedOutputs o
  named_at [] i o h e = absurd cc
  named_at (x ∷ os) zero o h e = let same : x ≡ o = cc in subst HasNamedOutputs same h.0
  named_at (x ∷ os) (suc i) o h e = named_at os i o h.1 e

  module _ (is : IsDigest sources) (os : List OutcomeValue) (named : AreNamedOutcomes os) (valid : AllByRecursion AreValidOutputs os) where
    origin_looks : (o : OriginValue) (a : Asked) → OriginLooksAt B sources o a → IsNamed a
    origin_looks (source p) a h = way_named a p (Some (Dir sources)) the_sources h
    origin_looks (output i p) a h = absurd h

    lines_look : (ls : List LineValue) (a : Asked) → LinesLookAt B sources (slice_get os) ls a → IsNamed a
    lines_look [] a h = absurd h
    lines_look (l ∷ ls) a (inl h) = origin_looks l.origin a h
    lines_look (l ∷ ls) a (inr h) = lines_look ls a h.2

    origin_named : (o : OriginValue) (x : NodeValue) → LooksUpOrigin B sources (slice_get os) o (found x) → IsNamedNode x
    origin_named (source p) x h = look_named p (Some (Dir sources)) x the_sources h
    origin_named (output i p) x h = outcome_named h.0 (named_at os i h.0 named h.1) p x h.2

    within_named : (v : OutputValue) → IsNamedOutput v → IsNamedWithin (within_output v)
    within_named (outputs.File d executable) h = tt
    within_named (outputs.Link target) h = tt
    within_named (outputs.Tree t) h = h

    stands_named : (o : OriginValue) (x : NodeWithin) → StandsAtOrigin B sources (slice_get os) o x → IsNamedLine x
    stands_named (source p) x h = (origin_named (source p) x.node h.node, subst IsNamedWithin (sym h.within) tt)
    stands_named (output i p) x h =
        let o = h.within.0 in
        let e = h.within.2.0 in (
          origin_named (output i p) x.node h.node,
          subst IsNamedWithin (sym h.within.2.3) (within_named e.1 (all_at (λ (e : List Name × OutputValue). IsNamedOutput e.1) o.outputs e (named_at os i o named h.within.1) h.within.2.1)),
        )

    resolves_named : (ls : List LineValue) (xs : MergeLines) → Resolves B sources (slice_get os) ls xs → AreNamedLines xs
    resolves_named [] xs h = subst AreNamedLines (sym h) tt
    resolves_named (l ∷ ls) xs h = subst AreNamedLines (sym h.4) (stands_named l.origin h.0 h.1, resolves_named ls h.2 h.3)

    held_lines : (ls : List LineValue) (xs : MergeLines) → Resolves B sources (slice_get os) ls xs → AreHeld xs
    held_lines ls xs h = resolves_held B sources os (with_trees os valid) ls xs h

    together_looks : (ls : List LineValue) (a : Asked) → TogetherLooksAt B sources (slice_get os) ls a → IsNamed a
    unfolding looks MergeLooksAt
    together_looks ls a (inl h) = lines_look ls a h
    together_looks ls a (inr (xs, resolves, h)) = merge_looks 64 [] xs a (resolves_named ls xs resolves) (held_lines ls xs resolves) h

    together_own : (ls : List LineValue) (t : Tree NodeValue) → AllByRecursion (IsLine (length os)) ls → (put_together B sources (slice_get os) ls).passes t → IsOwn (first_visits t) t
    unfolding ◌and_then◌ merged
    together_own ls t all (xs, resolves, merges) =
        let rules = merged_valid B 64 [] xs (valid_lines B sources is os valid ls xs all resolves) (held_lines ls xs resolves) t merges in
        record { named = merged_named 64 [] xs t (resolves_named ls xs resolves) (held_lines ls xs resolves) merges; valid = rules.0; ordered = rules.1; held = λ p b at. visits_held t b p at }

    input_looks : (A : Type 0) (ls : List LineValue) (action : ActionValue) (a : Asked) → AllByRecursion (IsLine (length os)) ls → N action.input → InputLooksAt A B sources os ls action a → IsNamed a
    unfolding looks
    input_looks A ls action a all h (inl k) = together_looks ls a k
    input_looks A ls action a all h (inr (t, passes, (other, compares))) =
        let own = together_own ls t all passes in
        compare_looks (first_visits t) t refl own 64 (root t) action.input a (inr (t, own, refl)) (inl h) compares

  -- ---- results, steps and plans

  outputs_look : (c : CommandValue) (xs : List RecordedValue) (a : Asked) → ((x : OutputDirectoryValue) → Contains (directories_among xs) x → N x.tree) → OutputsLookAt B c xs a → IsNamed a
  outputs_look c [] a h k = absurd k
  outputs_look c (file x ∷ xs) a h (listed, inl k) = absurd k
  outputs_look c (file x ∷ xs) a h (listed, inr k) = outputs_look c xs a h k.2
  outputs_look c (directory x ∷ xs) a h (listed, inl k) = named_blob x.tree a (h x (0, omega arith, refl)) k
  outputs_look c (directory x ∷ xs) a h (listed, inr k) = outputs_look c xs a (λ y here. h y (suc here.0, (let less = here.1 in omega (arith, less)), here.2)) k.2
  outputs_look c (link x ∷ xs) a h (listed, inl k) = absurd k
  outputs_look c (link x ∷ xs) a h (listed, inr k) = outputs_look c xs a h k.2

  trees_named : (d : DigestValue) (r : ActionResultValue) (xs : List RecordedValue) → Contains recorded d → HoldsResult tells.results d r → directories_among xs ≡ r.directories → (x : OutputDirectoryValue) → Contains (directories_among xs) x → N x.tree
  trees_named d r xs here held same x at = a_tree d r x here held (subst (λ l. Contains l x) same at)

  recorded_named : (d : DigestValue) (r : ActionResultValue) (o : OutcomeValue) → Contains recorded d → HoldsResult tells.results d r → IsRecorded B r o → HasNamedOutputs o
  recorded_named d r o here held h = stand_named h.recorded o.outputs (trees_named d r h.recorded here held h.ordered.directories) h.outputs

  module _ (A : Type 0) (is : IsDigest sources) where
    result_looks : (c : CommandValue) (d : DigestValue) (a : Asked) → Contains recorded d → ResultLooksAt A tells c d a → IsNamed a
    unfolding looks
    result_looks c d a here (inl k) = subst IsNamed (sym k) here
    result_looks c d a here (inr (r, held, inl k)) = absurd k
    result_looks c d a here (inr (r, held, inr (u, ended, (xs, are, k)))) = outputs_look c xs a (trees_named d r xs here held are.directories) k

    step_looks : (os : List OutcomeValue) (s : StepValue) (d : DigestValue) (a : Asked) → AreNamedOutcomes os → AllByRecursion AreValidOutputs os → AllByRecursion (IsLine (length os)) s.lines → Contains recorded d
        → StepLooksAt A tells sources os s d a → IsNamed a
    unfolding looks
    step_looks os s d a named valid all here (inl k) = named_blob d a (an_action d here) k
    step_looks os s d a named valid all here (inr (action, told, inl k)) = absurd k
    step_looks os s d a named valid all here (inr (action, told, inr (u, cached, inl k))) = named_blob action.frame.command a (a_command d action here told) k
    step_looks os s d a named valid all here (inr (action, told, inr (u, cached, inr (c, command, inl k)))) = absurd k
    step_looks os s d a named valid all here (inr (action, told, inr (u, cached, inr (c, command, inr (v, framed, inl k))))) =
        input_looks is os named valid A s.lines action a all (an_input d action here told) k
    step_looks os s d a named valid all here (inr (action, told, inr (u, cached, inr (c, command, inr (v, framed, inr (w, input, k)))))) = result_looks c d a here k

    passed_named : (os : List OutcomeValue) (s : StepValue) (d : DigestValue) (o : OutcomeValue) → Contains recorded d → (step_check {A = A} tells sources os s d).passes o → HasNamedOutputs o
    passed_named os s d o here h =
        let like = recorded_from A tells sources os s d o h in
        recorded_named d like.result o here like.held like.recorded

    steps_look : (before : List StepValue) (os : List OutcomeValue) (ss : List StepValue) (ds : List DigestValue) (a : Asked) → length os ≡ length before → AreNamedOutcomes os → AllByRecursion AreValidOutputs os → AreSteps before ss
        → ((d : DigestValue) → Contains ds d → Contains recorded d) → StepsLookAt A tells sources os ss ds a → IsNamed a
    unfolding looks
    steps_look before os [] ds a count named valid steps here k = absurd k
    steps_look before os (s ∷ ss) [] a count named valid steps here k = absurd k
    steps_look before os (s ∷ ss) (d ∷ ds) a count named valid steps here (inl k) =
        step_looks os s d a named valid (subst (λ n. AllByRecursion (IsLine n) s.lines) (sym count) steps.0.lines.each) (here d (0, omega arith, refl)) k
    steps_look before os (s ∷ ss) (d ∷ ds) a count named valid steps here (inr (o, passes, k)) =
        steps_look (before ++ s ∷ []) (os ++ o ∷ []) ss ds a
        (let one = length-append os (o ∷ []) in let other = length-append before (s ∷ []) in omega (arith, one, other, count))
        (one_named os o named (passed_named os s d o (here d (0, omega arith, refl)) passes)) (one_more A tells sources is os o valid (passed_valid A tells sources is os s d o passes)) steps.1
        (λ e at. here e (suc at.0, (let less = at.1 in omega (arith, less)), at.2)) k

    -- what the steps come to
    steps_named : (os : List OutcomeValue) (ss : List StepValue) (ds : List DigestValue) (all : List OutcomeValue) → AreNamedOutcomes os → ((d : DigestValue) → Contains ds d → Contains recorded d)
        → (steps_check {A = A} tells sources os ss ds).passes all → AreNamedOutcomes all
    unfolding ◌and_then◌
    steps_named os [] ds all named here h = subst AreNamedOutcomes (sym h) named
    steps_named os (s ∷ ss) [] all named here h = absurd h
    steps_named os (s ∷ ss) (d ∷ ds) all named here h =
        steps_named (os ++ h.0 ∷ []) ss ds all (one_named os h.0 named (passed_named os s d h.0 (here d (0, omega arith, refl)) h.1)) (λ e at. here e (suc at.0, (let less = at.1 in omega (arith, less)), at.2)) h.2

    pub plan_looks : (plan : PlanValue) (a : Asked) → IsPlan plan → PlanLooksAt A tells sources plan recorded a → IsNamed a
    unfolding looks
    plan_looks plan a valid (inl k) = steps_look [] [] plan.steps recorded a refl tt tt valid.steps (λ d here. here) k
    plan_looks plan a valid (inr (os, passes, inl k)) =
        together_looks is os (steps_named [] plan.steps recorded os tt (λ d here. here) passes) (steps_valid A tells sources is [] plan.steps recorded os tt passes).0 plan.root_lines a k
    plan_looks plan a valid (inr (os, passes, inr k)) = absurd k.2
