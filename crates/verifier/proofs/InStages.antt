-- Stages that have a yes each, built one after another.
use Rattle.std.proofs.Common.{List, [], ◌∷◌, Option, ◌∙◌, ap, sym, subst}
use Rattle.std.specs.Prelude.{◌≡◌, ◌++◌, Some}
use Rattle.blob_digest.specs.Digest.{DigestValue}
use Rattle.tree.specs.Tree.{Tree, Leaf, IsOrdered}
use Rattle.tree.specs.Form.{form, root}
use Rattle.verifier.specs.AsRecorded.{IsPlanAsRecorded}
use Rattle.verifier.specs.Build.{HasFinishedAll, merge_of}
use Rattle.verifier.specs.BuildStages.{BuildStage, IsYesFrom, AreYes, last_claim, RunsStage, EndsIn, RunInTurn}
use Rattle.verifier.specs.Headline.{PlanRun, RunsFrom, IsNotStuck}
use Rattle.verifier.proofs.Holds.{recorded_tree, recorded_unstuck}
use Rattle.verifier.proofs.Passing.{yes_recorded}

module _ (A : Type 0) where
  -- what a yes was given for was recorded
  as_recorded : (sources : DigestValue) (s : BuildStage) → IsYesFrom A sources s → IsPlanAsRecorded s.tells.blobs s.tells.results sources s.plan s.recorded s.claim
  as_recorded sources s y = yes_recorded A s.tells sources s.plan s.recorded s.claim y.verdict y.given y.yes

  -- the tree that a complete run of a stage ends in
  pub record IsStart (digest : DigestValue) (t : Tree Leaf) : Type 0 where
    pub ordered : IsOrdered t
    pub same : root (form t) ≡ digest

  stage_runs : (sources : DigestValue) (s : BuildStage) (t : Tree Leaf) → IsStart sources t → (r : PlanRun) → RunsStage t s r → RunsFrom s.tells.blobs s.tells.results sources s.plan s.recorded r
  stage_runs sources s t at r runs = record { ordered = subst IsOrdered (sym runs.0) at.ordered; from = ap (λ t. root (form t)) runs.0 ∙ at.same; keeps = runs.1 }

  ended : (sources : DigestValue) (s : BuildStage) → IsYesFrom A sources s → (t : Tree Leaf) → IsStart sources t → (r : PlanRun) → RunsStage t s r → HasFinishedAll s.plan r.now
      → (g : Tree Leaf) × (merge_of r.tree r.now s.plan.root_lines ≡ Some g) × (root (form g) ≡ s.claim) × IsOrdered g
  ended sources s y t at r runs all =
      recorded_tree s.tells.blobs s.tells.results sources s.plan s.recorded s.claim y.planned (as_recorded sources s y) r (stage_runs sources s t at r runs) all

  one_tree : (t u : Tree Leaf) → ◌≡◌ {A = Option (Tree Leaf)} (Some t) (Some u) → t ≡ u
  one_tree t u is = cc

  goes_on : (sources : DigestValue) (s : BuildStage) → IsYesFrom A sources s → (t : Tree Leaf) → IsStart sources t → (r : PlanRun) (next : Tree Leaf) → EndsIn t s r next → IsStart s.claim next
  goes_on sources s y t at r next e =
      let g = ended sources s y t at r e.runs e.finished in
      let same : g.0 ≡ next = one_tree g.0 next (sym g.1 ∙ e.made) in
      subst (IsStart s.claim) same (record { ordered = g.3; same = g.2 })

  pub ends_in_last : (sources : DigestValue) (ss : List BuildStage) (rs : List PlanRun) (t end : Tree Leaf) → AreYes A sources ss → IsStart sources t → RunInTurn t ss rs end
      → IsStart (last_claim sources ss) end
  ends_in_last sources [] [] t end y at r = subst (IsStart sources) (sym r) at
  ends_in_last sources [] (x ∷ rs) t end y at r = elim r [ ]
  ends_in_last sources (s ∷ ss) [] t end y at r = elim r [ ]
  ends_in_last sources (s ∷ ss) (x ∷ rs) t end y at r = ends_in_last s.claim ss rs r.0 end y.1 (goes_on sources s y.0 t at x r.0 r.1) r.2

  -- the last of some stages has a yes from the last claim of those before it
  last_yes : (sources : DigestValue) (ss : List BuildStage) (s : BuildStage) → AreYes A sources (ss ++ s ∷ []) → IsYesFrom A (last_claim sources ss) s
  last_yes sources [] s y = y.0
  last_yes sources (x ∷ ss) s y = last_yes x.claim ss s y.1

  before_yes : (sources : DigestValue) (ss : List BuildStage) (s : BuildStage) → AreYes A sources (ss ++ s ∷ []) → AreYes A sources ss
  before_yes sources [] s y = tt
  before_yes sources (x ∷ ss) s y = (y.0, before_yes x.claim ss s y.1)

  pub starts : (sources : DigestValue) (t : Tree Leaf) → IsOrdered t → root (form t) ≡ sources → IsStart sources t
  starts sources t ordered same = record { ordered = ordered; same = same }

  pub never_stuck : (sources : DigestValue) (ss : List BuildStage) (rs : List PlanRun) (t between : Tree Leaf) (s : BuildStage) (r : PlanRun) → AreYes A sources (ss ++ s ∷ [])
      → IsStart sources t → RunInTurn t ss rs between → RunsStage between s r → IsNotStuck r.table s.plan r.meaning r.tree r.now
  never_stuck sources ss rs t between s r y at before runs =
      let here = ends_in_last sources ss rs t between (before_yes sources ss s y) at before in
      let yes = last_yes sources ss s y in
      (recorded_unstuck s.tells.blobs s.tells.results (last_claim sources ss) s.plan s.recorded s.claim yes.planned (as_recorded (last_claim sources ss) s yes)).of_run
      r (stage_runs (last_claim sources ss) s between here r runs)

  pub is_made : (sources : DigestValue) (ss : List BuildStage) (rs : List PlanRun) (t between : Tree Leaf) (s : BuildStage) (r : PlanRun) → AreYes A sources (ss ++ s ∷ [])
      → IsStart sources t → RunInTurn t ss rs between → RunsStage between s r → HasFinishedAll s.plan r.now → (end : Tree Leaf) × EndsIn between s r end
  is_made sources ss rs t between s r y at before runs all =
      let here = ends_in_last sources ss rs t between (before_yes sources ss s y) at before in
      let g = ended (last_claim sources ss) s (last_yes sources ss s y) between here r runs all in
      (g.0, record { runs = runs; finished = all; made = g.1 })
