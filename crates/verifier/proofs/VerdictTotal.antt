-- There is a verdict on every valid plan with as many recorded digests. That there is one is said as: it can't be that there
-- is none.
use Rattle.std.proofs.Common.{◌≡◌, ◌≢◌, ℕ, zero, suc, ◌+◌, arith, List, [], ◌∷◌, ◌++◌, length, refl, ap, sym, ◌∙◌, subst, inl, inr}
use Rattle.std.specs.Prelude.{Option, Some, slice_get}
use Rattle.std.specs.List.{AllByRecursion}
use Rattle.std.proofs.lemmas.List.{length-append}
use Rattle.blob_digest.specs.Digest.{DigestValue}
use Rattle.blob_digest.specs.DigestValue.{IsDigest}
use Rattle.action_messages.specs.Action.{ActionValue, IsAction, action_bytes}
use Rattle.action_messages.specs.ActionResult.{ActionResultValue, IsActionResult}
use Rattle.action_messages.specs.Command.{CommandValue, IsCommand, command_bytes}
use Rattle.actions.specs.Outcome.{OutputValue, OutcomeValue}
use Rattle.actions.specs.declared.outcome.Output.TheVariants.{File, Link, Tree}
use Rattle.actions.specs.OutcomeLookup.{IsFirstChild, NoFault, LooksBelow, LooksIn}
use Rattle.action_messages.specs.OutputFile.{IsOutputFile}
use Rattle.action_messages.specs.OutputSymlink.{IsOutputSymlink}
use Rattle.action_messages.specs.Outputs.{RecordedValue, file, directory, link, files_among, links_among}
use Rattle.actions.specs.Recorded.{StandForAll, IsRecorded}
use Rattle.actions.proofs.TreeLookups.{all_at, first_there}
use Rattle.messages.specs.DirectoryRules.{IsDirectory}
use Rattle.messages.specs.Node.{child}
use Rattle.plan.specs.Values.{OriginValue, source, output, LineValue, StepValue, PlanValue, IsLine}
use Rattle.plan.specs.Plan.{AreSteps, IsPlan}
use Rattle.tree.specs.Tree.{Name}
use Rattle.tree.specs.Folded.{IsNode, first_visits}
use Rattle.tree.specs.Form.{NodeValue, root}
use Rattle.tree.specs.Merging.{MergeLines, AreHeld, merged}
use Rattle.tree.specs.MergeParts.{AreValidLines}
use Rattle.tree.specs.Stage.{◌and_then◌}
use Rattle.tree.specs.Tree as trees
use Rattle.tree.specs.Lookup.{found}
use Rattle.blob_source.specs.Source.{Blobs, Telling}
use Rattle.blob_source.specs.Told.{TellsDirectory, FailsDirectory}
use Rattle.tree.proofs.FirstDifferences.{finds_first_total}
use Rattle.tree.proofs.ValidTrees.{visits_valid}
use Rattle.tree.proofs.MergeHeld.{total_merged_in}
use Rattle.tree.proofs.MergeValid.{merged_valid}
use Rattle.tree.proofs.StageLaws.{IsTotal, total_then, total_demands, total_comes_to}
use Rattle.tree.proofs.Totals.{looks_valid, child_valid}
use Rattle.tree.proofs.TreeDigests.{IsDigest-digest_of}
use Rattle.verifier.specs.declared.verdict.Verdict.{Verdict}
use Rattle.verifier.specs.declared.verdict.Verdict.TheVariants.{Yes, No}
use Rattle.verifier.specs.Together.{LooksUpOrigin, Resolves, of_merge}
use Rattle.verifier.specs.Faults.{cause_of_lines}
use Rattle.verifier.specs.StepChecks.{difference_cause, together, same_input, input_check, result_check, step_check}
use Rattle.verifier.specs.Verdict.{root_check, steps_check, plan_check, IsVerdict}
use Rattle.verifier.proofs.HeldOrigins.{IsValidTree, AreWithTrees, resolves_held}
use Rattle.verifier.proofs.StageLaws.{total_located, total_named}
use Rattle.verifier.proofs.StepLaws.{recorded_from}
use Rattle.verifier.proofs.Totals.{IsValidOutput, AreValidOutputs, total_message, total_resolved, total_held, total_read}

-- ---- nodes that are found keep their rules

below_valid : (x : OutputValue) → IsValidOutput x → (names : List Name) (y : NodeValue) → LooksBelow x names (found y) → IsNode y
below_valid (Tree t) h [] y e = subst IsNode (sym (found_is e)) (IsDigest-digest_of _)
  where
    found_is : {a b : NodeValue} → found a ≡ found b → a ≡ b
    found_is e = cc
below_valid (Tree t) h (n ∷ names) y e =
    looks_valid (IsFirstChild t) NoFault (λ d m first. all_at IsDirectory (t.root ∷ t.children) m (h.root, h.children) (first_there t d m first)) names (child n t.root) (child_valid t.root h.root n) y e
below_valid (File d b) h [] y e = subst IsNode (sym (found_is e)) h
  where
    found_is : {a b : NodeValue} → found a ≡ found b → a ≡ b
    found_is e = cc
below_valid (File d b) h (n ∷ names) y e = absurd cc
below_valid (Link l) h [] y e = subst IsNode (sym (found_is e)) h
  where
    found_is : {a b : NodeValue} → found a ≡ found b → a ≡ b
    found_is e = cc
below_valid (Link l) h (n ∷ names) y e = absurd cc

in_valid : (o : OutcomeValue) → AreValidOutputs o → (path : List Name) (y : NodeValue) → LooksIn o path (found y) → IsNode y
in_valid o h path y (inl k) = below_valid k.0.1 (all_at (λ (e : List Name × OutputValue). IsValidOutput e.1) o.outputs k.0 h.1 k.1) k.2 y k.4
in_valid o h path y (inr k) = absurd (let e = k.1 in cc)

valid_at : (os : List OutcomeValue) (i : ℕ) (o : OutcomeValue) → AllByRecursion AreValidOutputs os → slice_get os i ≡ Some o → AreValidOutputs o
valid_at [] i o h e = absurd cc
valid_at (x ∷ os) zero o h e = let same : x ≡ o = cc in subst AreValidOutputs same h.0
valid_at (x ∷ os) (suc i) o h e = valid_at os i o h.1 e

valid_tree : (v : OutputValue) → IsValidOutput v → IsValidTree v
valid_tree (Tree t) h = h
valid_tree (File d b) h = tt
valid_tree (Link l) h = tt

pub with_trees : (os : List OutcomeValue) → AllByRecursion AreValidOutputs os → AreWithTrees os
with_trees os h = record {
  valid = λ i o at. (valid_at os i o h at).0;
  trees = λ i o at e here. valid_tree e.1 (all_at (λ (x : List Name × OutputValue). IsValidOutput x.1) o.outputs e (valid_at os i o h at).1 here);
}

module _ (B : Blobs) (sources : DigestValue) (is : IsDigest sources) (os : List OutcomeValue) (valid : AllByRecursion AreValidOutputs os) where
  at_valid : (o : OriginValue) (y : NodeValue) → LooksUpOrigin B sources (slice_get os) o (found y) → IsNode y
  at_valid (source p) y h = looks_valid (TellsDirectory B) (FailsDirectory B) (λ d m told. told.valid) p _ (λ x e. subst IsNode (some_is e) is) y h
    where
      some_is : {a b : NodeValue} → ◌≡◌ {A = Option NodeValue} (Some a) (Some b) → a ≡ b
      some_is e = cc
  at_valid (output i p) y h = in_valid h.0 (valid_at os i h.0 valid h.1) p y h.2

  -- the lines that are merged
  pub valid_lines : (ls : List LineValue) (xs : MergeLines) → AllByRecursion (IsLine (length os)) ls → Resolves B sources (slice_get os) ls xs → AreValidLines xs
  valid_lines [] xs all h = subst AreValidLines (sym h) tt
  valid_lines (l ∷ ls) xs all h = subst AreValidLines (sym h.4) ((all.0.target.each, at_valid l.origin h.0.node h.1.node), valid_lines ls h.2 all.1 h.3)

-- ---- outcomes that a step passes with keep their rules

stand_valid : (B : Blobs) (xs : List RecordedValue) (es : List (List Name × OutputValue)) → AllByRecursion IsOutputFile (files_among xs) → AllByRecursion IsOutputSymlink (links_among xs) → StandForAll B xs es
    → AllByRecursion (λ (e : List Name × OutputValue). IsValidOutput e.1) es
stand_valid B [] es f l h = subst (AllByRecursion (λ (e : List Name × OutputValue). IsValidOutput e.1)) (sym h) tt
stand_valid B (x ∷ xs) [] f l h = elim h [ ]
stand_valid B (file x ∷ xs) (e ∷ es) f l h = (subst IsValidOutput (sym h.1) f.0.digest, stand_valid B xs es f.1 l h.2)
stand_valid B (directory x ∷ xs) (e ∷ es) f l h = (subst IsValidOutput (sym h.1.2) h.1.1.valid, stand_valid B xs es f l h.2)
stand_valid B (link x ∷ xs) (e ∷ es) f l h = (subst IsValidOutput (sym h.1) l.0.target, stand_valid B xs es f l.1 h.2)

recorded_valid : (B : Blobs) (r : ActionResultValue) (o : OutcomeValue) → IsActionResult r → IsRecorded B r o → AreValidOutputs o
recorded_valid B r o valid h =
    (h.valid, stand_valid B h.recorded o.outputs (subst (AllByRecursion IsOutputFile) (sym h.ordered.files) valid.files) (subst (AllByRecursion IsOutputSymlink) (sym h.ordered.symlinks) valid.symlinks) h.outputs)

module _ (A : Type 0) (t : Telling) (sources : DigestValue) (is : IsDigest sources) where
  pub passed_valid : (os : List OutcomeValue) (s : StepValue) (d : DigestValue) (o : OutcomeValue) → (step_check {A = A} t sources os s d).passes o → AreValidOutputs o
  passed_valid os s d o h =
      let like = recorded_from A t sources os s d o h in
      recorded_valid t.blobs like.result o like.held.2.2.valid like.recorded

  -- ---- the checks

  total_merged : (xs : MergeLines) → AreHeld xs → IsTotal (merged t.blobs xs)
  unfolding merged
  total_merged xs held = total_merged_in t.blobs 64 [] xs held

  total_together : (os : List OutcomeValue) (ls : List LineValue) → AllByRecursion AreValidOutputs os → AllByRecursion (IsLine (length os)) ls → IsTotal (together {A = A} t.blobs sources os ls)
  total_together os ls valid all =
      total_named cause_of_lines _ (total_then _ _ (total_resolved t.blobs sources os valid ls all)
      (λ xs h. total_named of_merge _ (total_merged xs (resolves_held t.blobs sources os (with_trees os valid) ls xs h))))

  total_same_input : (a : ActionValue) (xs : MergeLines) (made : trees.Tree NodeValue) → AreValidLines xs → AreHeld xs → (merged t.blobs xs).passes made → IsTotal (same_input {A = A} t.blobs a made)
  unfolding merged
  total_same_input a xs made valid held merges = record {
    ends = λ passes fails.
        let rules = merged_valid t.blobs 64 [] xs valid held made merges in
        let other : root made ≢ a.input = λ e. passes tt e in
        finds_first_total (first_visits made) t.blobs (visits_valid made rules.1 rules.0) (root made) a.input other (λ x h. fails (difference_cause x) (other, x, h, refl));
  }

  total_input : (os : List OutcomeValue) (ls : List LineValue) (a : ActionValue) → AllByRecursion AreValidOutputs os → AllByRecursion (IsLine (length os)) ls → IsTotal (input_check {A = A} t.blobs sources os ls a)
  unfolding ◌and_then◌
  total_input os ls a valid all =
      total_then _ _ (total_together os ls valid all) (λ made h.
      total_same_input a h.0 made (valid_lines t.blobs sources is os valid ls h.0 all h.1) (resolves_held t.blobs sources os (with_trees os valid) ls h.0 h.1) h.2)

  total_result : (m : CommandValue) (d : DigestValue) → IsTotal (result_check {A = A} t m d)
  total_result m d = total_then _ _ (total_held t.results d) (λ r kept. total_then _ _ (total_demands _ _) (λ _ _. total_read t.blobs m r kept.2.2.valid))

  total_step : (os : List OutcomeValue) (s : StepValue) (d : DigestValue) → AllByRecursion AreValidOutputs os → AllByRecursion (IsLine (length os)) s.lines → IsTotal (step_check {A = A} t sources os s d)
  total_step os s d valid all =
      total_then _ _ (total_message IsAction action_bytes t.blobs d) (λ a _.
      total_then _ _ (total_demands _ _) (λ _ _.
      total_then _ _ (total_message IsCommand command_bytes t.blobs a.frame.command) (λ m _.
      total_then _ _ (total_demands _ _) (λ _ _.
      total_then _ _ (total_input os s.lines a valid all) (λ _ _.
      total_result m d)))))

  total_root : (os : List OutcomeValue) (ls : List LineValue) (claim : DigestValue) → AllByRecursion AreValidOutputs os → AllByRecursion (IsLine (length os)) ls → IsTotal (root_check {A = A} t sources os ls claim)
  total_root os ls claim valid all = total_then _ _ (total_together os ls valid all) (λ made _. total_demands _ _)

  pub one_more : (os : List OutcomeValue) (o : OutcomeValue) → AllByRecursion AreValidOutputs os → AreValidOutputs o → AllByRecursion AreValidOutputs (os ++ o ∷ [])
  one_more [] o h k = (k, tt)
  one_more (x ∷ os) o h k = (h.0, one_more os o h.1 k)

  total_steps : (before : List StepValue) (os : List OutcomeValue) (ss : List StepValue) (ds : List DigestValue) → length os ≡ length before → AllByRecursion AreValidOutputs os → AreSteps before ss → length ds ≡ length ss
      → IsTotal (steps_check {A = A} t sources os ss ds)
  total_steps before os [] ds count valid steps each = total_comes_to os
  total_steps before os (s ∷ ss) [] count valid steps each = absurd (omega (arith, each))
  total_steps before os (s ∷ ss) (d ∷ ds) count valid steps each =
      total_then _ _ (total_located _ _ (total_step os s d valid (subst (λ n. AllByRecursion (IsLine n) s.lines) (sym count) steps.0.lines.each)))
      (λ o h. total_steps (before ++ s ∷ []) (os ++ o ∷ []) ss ds
      (let one = length-append os (o ∷ []) in let other = length-append before (s ∷ []) in omega (arith, one, other, count))
      (one_more os o valid (passed_valid os s d o h)) steps.1 (omega (arith, each)))

  -- what the steps come to
  pub steps_valid : (os : List OutcomeValue) (ss : List StepValue) (ds : List DigestValue) (all : List OutcomeValue) → AllByRecursion AreValidOutputs os → (steps_check {A = A} t sources os ss ds).passes all
      → AllByRecursion AreValidOutputs all × (length all ≡ length os + length ss)
  unfolding ◌and_then◌
  steps_valid os [] ds all valid h = (subst (AllByRecursion AreValidOutputs) (sym h) valid, (let same = ap length h in omega (arith, same)))
  steps_valid os (s ∷ ss) [] all valid h = elim h [ ]
  steps_valid os (s ∷ ss) (d ∷ ds) all valid h =
      let rest = steps_valid (os ++ h.0 ∷ []) ss ds all (one_more os h.0 valid (passed_valid os s d h.0 h.1)) h.2 in
      (rest.0, (let one = length-append os (h.0 ∷ []) in let count = rest.1 in omega (arith, one, count)))

  total_plan : (plan : PlanValue) (recorded : List DigestValue) (claim : DigestValue) → IsPlan plan → length recorded ≡ length plan.steps → IsTotal (plan_check {A = A} t sources plan recorded claim)
  total_plan plan recorded claim valid each =
      total_then _ _ (total_steps [] [] plan.steps recorded refl tt valid.steps each) (λ os h.
      let outcomes = steps_valid [] plan.steps recorded os tt h in
      let none : length {A = OutcomeValue} [] + length plan.steps ≡ length plan.steps = omega arith in
      total_located _ _ (total_root os plan.root_lines claim outcomes.0 (subst (λ n. AllByRecursion (IsLine n) plan.root_lines) (sym (outcomes.1 ∙ none)) valid.root_lines.each)))

  pub verdict_total : (plan : PlanValue) (recorded : List DigestValue) (claim : DigestValue) → IsPlan plan → length recorded ≡ length plan.steps → ((v : Verdict A) → IsVerdict t sources plan recorded claim v → ⊥) → ⊥
  verdict_total plan recorded claim valid each none =
      (total_plan plan recorded claim valid each).ends (λ u h. none (Yes claim (length plan.steps)) (refl, refl, h)) (λ why h. none (No why.0 why.1) h)
