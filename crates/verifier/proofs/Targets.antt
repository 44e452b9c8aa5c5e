-- The targets of a plan's lines, and what follows where none overlaps another.
use Rattle.std.proofs.Common.{◌≡◌, ◌≢◌, ℕ, zero, suc, ◌<◌, ◌≤◌, Bool, true, false, cond, List, [], ◌∷◌, ◌++◌, Option, Some, None, length, refl, sym, subst, arith, inl, inr}
use Rattle.std.specs.Prelude.{◌==◌, option_map, option_and_then, slice_get}
use Rattle.std.specs.List.{AllByRecursion}
use Rattle.std.specs.Map.{lookup}
use Rattle.blob_digest.specs.Digest.{DigestValue}
use Rattle.messages.specs.Path.{IsPath, Overlap, IsApart}
use Rattle.plan.specs.declared.version.Version.TheVariants.{One}
use Rattle.plan.specs.Values.{source, output, OriginValue, LineValue, StepValue, PlanValue, IsLine}
use Rattle.plan.specs.Plan.{NoTargetsOverlap, AreSteps, AllKeepApart, IsPlan}
use Rattle.tree.specs.Tree.{Name, Tree, Leaf, Entry, whole, IsOrdered, IsOrderedEntry}
use Rattle.tree.specs.Graft.{graft, expand, HaveApartTargets}
use Rattle.tree.specs.Merge.{AreMergeable, merge}
use Rattle.tree.specs.Merging.{MergeLines}
use Rattle.tree.proofs.MergeLaws.{graft_merges}
use Rattle.tree.proofs.MergeTotal.{tells_merge}
use Rattle.tree.proofs.OrderLemmas.{IsOrderedAt, ordered_at}
use Rattle.blob_source.specs.Source.{Blobs}
use Rattle.verifier.specs.Together.{Earlier, Resolves}
use Rattle.verifier.specs.Build.{Outcome, IsTreeOutcome, State, outcome_of, below_path, output_from, output_at, origin_at, origins, merge_of, AreLinesOf}

-- ---- the lines of a plan

abbrev pub ArePaths : List LineValue → Type 0
ArePaths ls = AllByRecursion (λ (l : LineValue). IsPath l.target) ls

pub paths_of : (before : ℕ) (ls : List LineValue) → AllByRecursion (IsLine before) ls → ArePaths ls
paths_of before [] h = tt
paths_of before (l ∷ ls) h = (h.0.target, paths_of before ls h.1)

-- those of a step
pub step_paths : (before steps : List StepValue) → AreSteps before steps → (i : ℕ) (s : StepValue) → slice_get steps i ≡ Some s → ArePaths s.lines
step_paths before [] h i s e = absurd cc
step_paths before (x ∷ steps) h zero s e = let same : x ≡ s = cc in subst (λ y. ArePaths y.lines) same (paths_of (length before) x.lines h.0.lines.each)
step_paths before (x ∷ steps) h (suc i) s e = step_paths (before ++ x ∷ []) steps h.1 i s e

step_apart : (steps : List StepValue) → AllKeepApart One steps → (i : ℕ) (s : StepValue) → slice_get steps i ≡ Some s → NoTargetsOverlap s.lines
step_apart [] h i s e = absurd cc
step_apart (x ∷ steps) h zero s e = let same : x ≡ s = cc in subst (λ y. NoTargetsOverlap y.lines) same (h.0 refl)
step_apart (x ∷ steps) h (suc i) s e = step_apart steps h.1 i s e

pub lines_paths : (plan : PlanValue) (ls : List LineValue) → IsPlan plan → AreLinesOf plan ls → ArePaths ls
lines_paths plan ls valid (inl is) = subst ArePaths (sym is) (paths_of (length plan.steps) plan.root_lines valid.root_lines.each)
lines_paths plan ls valid (inr (i, s, at, is)) = subst ArePaths (sym is) (step_paths [] plan.steps valid.steps i s at)

-- in version 1 none overlaps another
pub lines_apart : (plan : PlanValue) (ls : List LineValue) → IsPlan plan → plan.version ≡ One → AreLinesOf plan ls → NoTargetsOverlap ls
lines_apart plan ls valid one (inl is) = subst NoTargetsOverlap (sym is) (valid.root_apart one)
lines_apart plan ls valid one (inr (i, s, at, is)) = subst NoTargetsOverlap (sym is) (step_apart plan.steps (subst (λ v. AllKeepApart v plan.steps) one valid.apart) i s at)

-- ---- what has the lines' targets

pub some_names : (p : List Name) → 0 < length p → p ≢ []
some_names [] lt = absurd (omega arith)
some_names (n ∷ p) lt = λ e. cc

-- each line has an item at its target
abbrev pub HaveTargets : {X : Type 0} → List LineValue → List (List Name × X) → Type 0
HaveTargets [] [] = Unit {0}
HaveTargets [] (x ∷ xs) = ⊥
HaveTargets (l ∷ ls) [] = ⊥
HaveTargets (l ∷ ls) (x ∷ xs) = (x.0 ≡ l.target) × HaveTargets ls xs

module _ {X : Type 0} where
  others_apart : (p : List Name) (ls : List LineValue) (xs : List (List Name × X)) → HaveTargets ls xs → AllByRecursion (λ other. ¬ Overlap p other.target) ls → AllByRecursion (λ (k : List Name × X). IsApart p k.0) xs
  others_apart p [] [] h free = tt
  others_apart p [] (x ∷ xs) h free = elim h [ ]
  others_apart p (l ∷ ls) [] h free = elim h [ ]
  others_apart p (l ∷ ls) (x ∷ xs) h free = (subst (IsApart p) (sym h.0) free.0, others_apart p ls xs h.1 free.1)

  pub targets_apart : (ls : List LineValue) (xs : List (List Name × X)) → HaveTargets ls xs → ArePaths ls → NoTargetsOverlap ls → HaveApartTargets xs
  targets_apart [] [] h paths free = tt
  targets_apart [] (x ∷ xs) h paths free = elim h [ ]
  targets_apart (l ∷ ls) [] h paths free = elim h [ ]
  targets_apart (l ∷ ls) (x ∷ xs) h paths free = (
    subst (λ p. p ≢ []) (sym h.0) (some_names l.target paths.0.some),
    subst (λ p. AllByRecursion (λ (k : List Name × X). IsApart p k.0) xs) (sym h.0) (others_apart l.target ls xs h.1 free.0),
    targets_apart ls xs h.1 paths.1 free.1,
  )

  pub targets_few : (ls : List LineValue) (xs : List (List Name × X)) → HaveTargets ls xs → ArePaths ls → AllByRecursion (λ (x : List Name × X). length x.0 ≤ 64) xs
  targets_few [] [] h paths = tt
  targets_few [] (x ∷ xs) h paths = elim h [ ]
  targets_few (l ∷ ls) [] h paths = elim h [ ]
  targets_few (l ∷ ls) (x ∷ xs) h paths = (subst (λ p. length p ≤ 64) (sym h.0) paths.0.few, targets_few ls xs h.1 paths.1)

pub resolved_targets : (B : Blobs) (d : DigestValue) (os : Earlier) (ls : List LineValue) (xs : MergeLines) → Resolves B d os ls xs → HaveTargets ls xs
resolved_targets B d os [] xs h = subst (HaveTargets []) (sym h) tt
resolved_targets B d os (l ∷ ls) xs h = subst (HaveTargets (l ∷ ls)) (sym h.4) (refl, resolved_targets B d os ls h.2 h.3)

-- ---- in a run

found_done : (P : Outcome → Type 0) (j : ℕ) (es : List (ℕ × Outcome)) (o : Outcome) → AllByRecursion (λ (e : ℕ × Outcome). P e.1) es → lookup (λ k. k == j) es ≡ Some o → P o
found_done P j [] o h e = cc
found_done P j (y ∷ es) o h e = at (y.0 == j) e (found_done P j es o h.1)
  where
    at : (q : Bool) → cond q (Some y.1) (lookup (λ k. k == j) es) ≡ Some o → (lookup (λ k. k == j) es ≡ Some o → P o) → P o
    at true e rest = let value : y.1 ≡ o = cc in subst P value h.0
    at false e rest = rest e

-- an outcome's output at a path is in order
pub output_ordered : (os : List (List Name × Entry Leaf)) (p : List Name) → AllByRecursion (λ (e : List Name × Entry Leaf). IsOrderedEntry e.1) os → IsOrderedAt (output_at os p)
output_ordered [] p h = tt
output_ordered (o ∷ os) p h = elim (below_path o.0 p) as (λ q. IsOrderedAt (output_from q o.1 (output_at os p))) [ None ↦ output_ordered os p h.1 | Some q ↦ ordered_at q (Some o.1) h.0 ]

module _ (t : Tree Leaf) (s : State) (ordered : IsOrdered t) (outcomes : AllByRecursion (λ (done : ℕ × Outcome). IsTreeOutcome done.1) s.done) where
  origin_ordered : (o : OriginValue) → IsOrderedAt (origin_at t s o)
  origin_ordered (source p) = ordered_at p (Some (whole t)) ordered
  origin_ordered (output j p) = by (outcome_of j s) refl
    where
      by : (q : Option Outcome) → outcome_of j s ≡ q → IsOrderedAt (option_and_then (λ (o : Outcome). output_at o.outputs p) q)
      by None is = tt
      by (Some o) is = output_ordered o.outputs p (found_done IsTreeOutcome j s.done o outcomes is).outputs

  record HasEntries (ls : List LineValue) (es : List (List Name × Entry Leaf)) : Type 0 where
    targets : HaveTargets ls es
    in_order : AllByRecursion (λ (e : List Name × Entry Leaf). IsOrderedEntry e.1) es

  entries : (ls : List LineValue) (es : List (List Name × Entry Leaf)) → origins t s ls ≡ Some es → HasEntries ls es
  entries [] es is = let none : [] ≡ es = cc in subst (HasEntries []) none (record { targets = tt; in_order = tt })
  entries (l ∷ ls) es is = by (origin_at t s l.origin) (origins t s ls) refl (origin_ordered l.origin) is (entries ls)
    where
      by : (o : Option (Entry Leaf)) (q : Option (List (List Name × Entry Leaf))) → origins t s ls ≡ q → IsOrderedAt o → option_and_then (λ e. option_map (λ es. (l.target, e) ∷ es) q) o ≡ Some es
          → ((es : List (List Name × Entry Leaf)) → origins t s ls ≡ Some es → HasEntries ls es) → HasEntries (l ∷ ls) es
      by None q those there is rest = absurd cc
      by (Some e) None those there is rest = absurd cc
      by (Some e) (Some others) those there is rest =
          let more = rest others those in
          let all : (l.target, e) ∷ others ≡ es = cc in
          subst (HasEntries (l ∷ ls)) all (record { targets = (refl, more.targets); in_order = (there, more.in_order) })

  mergeable : (ls : List LineValue) (es : List (List Name × Entry Leaf)) → HaveTargets ls es → ArePaths ls → AllByRecursion (λ (e : List Name × Entry Leaf). IsOrderedEntry e.1) es → AreMergeable es
  mergeable [] [] h paths k = tt
  mergeable [] (e ∷ es) h paths k = elim h [ ]
  mergeable (l ∷ ls) [] h paths k = elim h [ ]
  mergeable (l ∷ ls) (e ∷ es) h paths k = ((subst (λ p. p ≢ []) (sym h.0) (some_names l.target paths.0.some), k.0), mergeable ls es h.1 paths.1 k.1)

  -- where no target overlaps another, lines put together their graft
  pub apart_grafted : (ls : List LineValue) → ArePaths ls → NoTargetsOverlap ls → merge_of t s ls ≡ option_map (λ es. expand (graft es)) (origins t s ls)
  apart_grafted ls paths free = by (origins t s ls) refl
    where
      by : (q : Option (List (List Name × Entry Leaf))) → origins t s ls ≡ q → option_and_then merge q ≡ option_map (λ es. expand (graft es)) q
      by None is = refl
      by (Some es) is =
          let all = entries ls es is in
          (tells_merge es).complete (mergeable ls es all.targets paths all.in_order) (expand (graft es))
          (graft_merges es (targets_apart ls es all.targets paths free) (targets_few ls es all.targets paths) all.in_order)
