-- The build of two steps in two stages, and with a no.
use Rattle.std.proofs.Common.{◌≡◌, ℕ, List, [], ◌∷◌, Some, refl, sym, ap, ◌∙◌, arith, inl, inr}
use Rattle.std.specs.Prelude.{Contains, codes}
use Rattle.blob_digest.specs.Digest.{DigestValue}
use Rattle.blob_source.specs.Told.{missing}
use Rattle.tree.specs.Tree.{Tree, Leaf, empty}
use Rattle.tree.specs.Form.{IsBlobOf}
use Rattle.tree.specs.Merge.{merge}
use Rattle.tree.specs.Stage.{◌and_then◌}
use Rattle.verifier.specs.declared.verdict.Cause.TheVariants.{BlobMissing, RootDiffers}
use Rattle.verifier.specs.declared.verdict.Place.TheVariants.{Root, Step}
use Rattle.verifier.specs.declared.verdict.Verdict.TheVariants.{Yes, No}
use Rattle.verifier.specs.Build.{merge_of}
use Rattle.verifier.specs.BuildStages.{IsYesFrom, AreYes, RunsStage, EndsIn, RunInTurn}
use Rattle.verifier.specs.Headline.{RunsFrom}
use Rattle.verifier.specs.TwoSteps as two
use Rattle.verifier.specs.Verdict.{IsVerdict}
use Rattle.verifier.proofs.Passing.{recorded_steps, recorded_verdict}
use Rattle.verifier.proofs.TwoSteps.{plan_valid, sources_named, fits, table_valid}
use Rattle.verifier.proofs.TwoStepsRecorded.{as_recorded, sized}
use Rattle.verifier.proofs.TwoStepsRun.{is_run_from, is_complete, agrees}
use Rattle.verifier.proofs.TwoStepsBlobs.{all_blobs, of_nothing, of_built, no_clash_from}

runs : (t : Tree Leaf) → ((b : List ℕ) → IsBlobOf t b → Contains all_blobs b) → RunsStage t two.stage (record two.run { tree = t })
runs t own = (refl, record { fits = fits; table = table_valid; agrees = agrees; apart = no_clash_from t own; happened = is_run_from t })

pub runs_once : RunsFrom two.blobs two.results two.sources two.plan two.recorded two.run
runs_once = record { ordered = tt; from = sources_named; keeps = (runs empty of_nothing).1 }

-- the plan whose lines meet has the same steps
pub meeting_runs : RunsFrom two.blobs two.results two.sources two.meeting_plan two.recorded two.run
meeting_runs = record {
  ordered = tt;
  from = sources_named;
  keeps = record { fits = record { steps = fits.steps }; table = table_valid; agrees = agrees; apart = no_clash_from empty of_nothing; happened = is_run_from empty };
}

-- ---- twice

yes : (A : Type 0) (sources : DigestValue) → IsYesFrom A sources two.stage
yes A sources = record { planned = plan_valid; verdict = Yes two.claim 2; given = recorded_verdict A two.telling sources two.plan two.recorded two.claim (as_recorded sources); yes = tt }

pub are_yes : (A : Type 0) → AreYes A two.sources (two.stage ∷ two.stage ∷ [])
are_yes A = (yes A two.sources, (yes A two.claim, tt))

makes : (t : Tree Leaf) → merge_of t two.end two.plan.root_lines ≡ Some two.built
unfolding merge
makes t = refl

ends : (t : Tree Leaf) → ((b : List ℕ) → IsBlobOf t b → Contains all_blobs b) → EndsIn t two.stage (record two.run { tree = t }) two.built
ends t own = record { runs = runs t own; finished = is_complete; made = makes t }

pub in_turn : RunInTurn empty (two.stage ∷ two.stage ∷ []) (two.run ∷ record two.run { tree = two.built } ∷ []) two.built
in_turn = (two.built, ends empty of_nothing, (two.built, ends two.built of_built, refl))

-- ---- a no

pub nothing_told : (A : Type 0) → IsVerdict {A = A} two.silent two.sources two.plan two.recorded two.claim (No (Step (codes "gen")) (BlobMissing two.gen_action_digest))
unfolding ◌and_then◌ two.gen_action_digest
nothing_told A = inl (inl (refl, inl (missing two.gen_action_digest, (refl, inr (sized two.gen_action_digest 137 refl, refl)), refl)))

other_claim : two.claim ≡ two.sources → ⊥
unfolding two.claim two.sources
other_claim e = let size = ap (λ (d : DigestValue). d.size) e in absurd (omega (arith, size))

pub other_claimed : (A : Type 0) → IsVerdict {A = A} two.telling two.sources two.plan two.recorded two.sources (No Root (RootDiffers two.claim))
unfolding ◌and_then◌
other_claimed A =
    let h = as_recorded two.sources in
    let steps = recorded_steps A two.telling two.sources [] two.plan.steps two.recorded h.outcomes h.steps in
    inr (h.outcomes, steps, (refl, inr (h.root.tree, (h.root.nodes, h.root.resolved, h.root.put_together), ((λ same. other_claim (sym h.root.same ∙ same)), ap RootDiffers (sym h.root.same)))))
