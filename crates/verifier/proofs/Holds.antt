-- Every complete run of a plan that is as recorded ends in the claim, no run of it is stuck, and a yes says so.
use Rattle.std.proofs.Common.{List, inl, inr, sym, subst}
use Rattle.std.specs.Prelude.{◌≡◌, ◌⊎◌, ℕ, Some, Result, Ok, Err, IfOk, IsSomeAnd}
use Rattle.blob_digest.specs.Digest.{DigestValue, NoClash}
use Rattle.plan.specs.Plan.{IsPlan}
use Rattle.plan.specs.Values.{PlanValue}
use Rattle.tree.specs.Tree.{Tree, Leaf, IsOrdered}
use Rattle.tree.specs.Form.{form, root}
use Rattle.blob_source.specs.Source.{Blobs, Telling}
use Rattle.verifier.specs.declared.verdict.Verdict.{Verdict}
use Rattle.verifier.specs.declared.verifying.Judged.{Judged}
use Rattle.verifier.specs.AsRecorded.{IsPlanAsRecorded}
use Rattle.verifier.specs.Build.{HasFinishedAll, merge_of}
use Rattle.verifier.specs.Headline.{IsConcerned, IsBlobAhead, PlanRun, RunsFrom, EveryRunEndsIn, EveryRunIsAsChosen, NoRunIsStuck}
use Rattle.verifier.specs.Verdict.{IsVerdict, IsYes}
use Rattle.verifier.proofs.FreshRuns.{FirstAsRecorded, IsGiven}
use Rattle.verifier.proofs.KeptRuns.{runs_keep, end_tree, nothing_is_stuck, runs_as_chosen}
use Rattle.verifier.proofs.Finishing.{can_be_finished}
use Rattle.verifier.proofs.Passing.{yes_recorded}

module _ {B C : Blobs} {sources : DigestValue} {plan : PlanValue} {ds : List DigestValue} (valid : IsPlan plan) (first : FirstAsRecorded B C sources plan ds) (r : PlanRun) (runs : RunsFrom B C sources plan ds r) where
  -- what is given of a run, by the blobs concerned, and by others too
  abbrev pub as_given : IsGiven (IsConcerned B plan r.meaning r.tree r.chosen r.events) B C sources plan ds r
  as_given = record { apart = runs.keeps.apart; within = λ b q. q; ordered = runs.ordered; sources = runs.from; runs = runs.keeps; rules = valid; recorded = first }

  abbrev AreBlobs : List ℕ → Type 0
  AreBlobs b = IsConcerned B plan r.meaning r.tree r.chosen r.events b ⊎ IsBlobAhead r.table plan r.meaning r.tree r.now b

  abbrev given_ahead : NoClash AreBlobs → IsGiven AreBlobs B C sources plan ds r
  given_ahead apart = record { apart = apart; within = λ b q. inl q; ordered = runs.ordered; sources = runs.from; runs = runs.keeps; rules = valid; recorded = first }

module _ (B C : Blobs) (sources : DigestValue) (plan : PlanValue) (ds : List DigestValue) (claim : DigestValue) (valid : IsPlan plan) (h : IsPlanAsRecorded B C sources plan ds claim) where
  abbrev every : FirstAsRecorded B C sources plan ds
  every = record { first = plan.steps; outcomes = h.outcomes; planned = λ i s at. at; steps = h.steps }

  -- the tree is in order, so that it may be the sources of another plan
  pub recorded_tree : (r : PlanRun) → RunsFrom B C sources plan ds r → HasFinishedAll plan r.now
      → (g : Tree Leaf) × (merge_of r.tree r.now plan.root_lines ≡ Some g) × (root (form g) ≡ claim) × IsOrdered g
  recorded_tree r k = end_tree (as_given valid every r k) (λ i s at. at) claim h.root

  pub recorded_ends : EveryRunEndsIn B C sources plan ds claim
  recorded_ends = record {
    of_run = λ r k all. let g = recorded_tree r k all in subst (λ o. IsSomeAnd o (λ g. root (form g) ≡ claim)) (sym g.1) g.2;
  }

  pub recorded_unstuck : NoRunIsStuck B C sources plan ds
  recorded_unstuck = record {
    of_run = λ r k. let given = as_given valid every r k in nothing_is_stuck given (λ i s at. at) r.now (runs_keep given);
    can_end = λ r k apart. can_be_finished (given_ahead valid every r k apart) (λ i s at. at) (λ b q. inr q);
  }

  pub recorded_as_chosen : EveryRunIsAsChosen B C sources plan ds
  recorded_as_chosen = record { of_run = λ r k. runs_as_chosen (as_given valid every r k) (λ i s at. at) }

-- so a yes says both
module _ {A E : Type 0} (t : Telling) (sources : DigestValue) (plan : PlanValue) (ds : List DigestValue) (claim : DigestValue) (valid : IsPlan plan) where
  pub answers_hold : (answer : Result (Judged A) E) → IfOk answer (λ j. IsVerdict t sources plan ds claim j.verdict) → IfOk answer (λ j. IsYes j.verdict → EveryRunEndsIn t.blobs t.results sources plan ds claim)
  answers_hold (Ok j) h = λ yes. recorded_ends t.blobs t.results sources plan ds claim valid (yes_recorded A t sources plan ds claim j.verdict h yes)
  answers_hold (Err e) h = tt

  pub answers_unstuck : (answer : Result (Judged A) E) → IfOk answer (λ j. IsVerdict t sources plan ds claim j.verdict) → IfOk answer (λ j. IsYes j.verdict → NoRunIsStuck t.blobs t.results sources plan ds)
  answers_unstuck (Ok j) h = λ yes. recorded_unstuck t.blobs t.results sources plan ds claim valid (yes_recorded A t sources plan ds claim j.verdict h yes)
  answers_unstuck (Err e) h = tt
