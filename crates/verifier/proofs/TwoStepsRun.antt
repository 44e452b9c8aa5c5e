-- The run of the build of two steps, and that no two different blobs concerned in it share a digest.
use Rattle.std.proofs.Common.{◌≡◌, ℕ, zero, suc, Bool, false, List, [], ◌∷◌, Option, Some, refl, ap, sym, ◌∙◌, subst, arith, inl, inr}
use Rattle.std.specs.Prelude.{slice_get, Contains, codes}
use Rattle.blob_digest.specs.Digest.{DigestValue, digest_of}
use Rattle.messages.specs.declared.node.Node.TheVariants as nodes
use Rattle.messages.specs.Tree.{IsTree, tree_bytes}
use Rattle.action_messages.specs.Action.{with_input, action_bytes}
use Rattle.actions.specs.Outcome.{tree_node}
use Rattle.action_messages.specs.OutputFile.{OutputFileValue}
use Rattle.action_messages.specs.OutputDirectory.{OutputDirectoryValue}
use Rattle.actions.proofs.TreeBytes.{tree_bytes_injective}
use Rattle.tree.specs.Tree.{Name, Tree, Leaf, empty}
use Rattle.tree.specs.Merge.{merge}
use Rattle.tree.specs.Form.{NodeValue}
use Rattle.blob_source.specs.Source.{Blobs}
use Rattle.blob_source.specs.Told.{IsTold}
use Rattle.verifier.specs.Holding.{HoldsResult}
use Rattle.verifier.specs.Build.{ActionMeaning, action_digest, Outcome, finish, State, opening, job_of, Obeys, IsRun, HasFinishedAll}
use Rattle.verifier.specs.Recorded.{Agrees, IsRecordedAs, RecordsAt, entries_form}
use Rattle.verifier.specs.TwoSteps as two
use Rattle.verifier.proofs.TwoSteps.{sources_named, input_named, gen_action_named, use_action_named, newline_named}
use Rattle.verifier.proofs.TwoStepsRecorded.{gen_result_held, use_result_held, tree_told}
use Rattle.verifier.proofs.StepsOnce.{told_once}

-- ---- the run

-- its states, one after another
abbrev pub s1 : State
s1 = record { done = []; jobs = (0, (0, two.gen.0)) ∷ [] }

abbrev pub s2 : State
s2 = record { done = []; jobs = (1, (0, two.gen.0)) ∷ (0, (0, two.gen.0)) ∷ [] }

abbrev pub s3 : State
s3 = record { done = []; jobs = (1, (0, two.gen.0)) ∷ [] }

abbrev pub s4 : State
s4 = record { done = (0, two.gen.1) ∷ []; jobs = [] }

abbrev pub s5 : State
s5 = record { done = (0, two.gen.1) ∷ []; jobs = (0, (1, two.uses.0)) ∷ [] }

abbrev pub s6 : State
s6 = record { done = (0, two.gen.1) ∷ []; jobs = (1, (0, two.gen.0)) ∷ (0, (1, two.uses.0)) ∷ [] }

abbrev pub s7 : State
s7 = record { done = (0, two.gen.1) ∷ (0, two.gen.1) ∷ []; jobs = (0, (1, two.uses.0)) ∷ [] }

-- a job that is the one with its number has the outcome of its pair
pub obeys : (X : List (ActionMeaning × Outcome)) (pair : ActionMeaning × Outcome) (s : State) (w i : ℕ) → Contains X pair → job_of w s ≡ Some (i, pair.0) → Obeys X s (finish w pair.1)
obeys X pair s w i inside at job is =
    let both : ◌≡◌ {A = Option (ℕ × ActionMeaning)} (Some (i, pair.0)) (Some job) = sym at ∙ is in
    let same : ◌≡◌ {A = ℕ × ActionMeaning} (i, pair.0) job = cc in
    subst (λ (j : ℕ × ActionMeaning). Contains X (j.1, pair.1)) same inside

pub gen_inside : Contains two.table two.gen
gen_inside = (0, omega arith, refl)

uses_inside : Contains two.table two.uses
uses_inside = (1, omega arith, refl)

-- of any sources, which no line reads
pub is_run_from : (t : Tree Leaf) → IsRun two.table two.plan two.meaning t opening two.events two.end
unfolding merge
is_run_from t = (
  tt,
  s1,
  refl,
  (
    tt,
    s2,
    refl,
    (
      tt,
      s3,
      refl,
      (
        obeys two.table two.gen s3 1 0 gen_inside refl,
        s4,
        refl,
        (tt, s5, refl, (tt, s6, refl, (obeys two.table two.gen s6 1 0 gen_inside refl, s7, refl, (obeys two.table two.uses s7 0 1 uses_inside refl, two.end, refl, refl)))),
      ),
    ),
  ),
)

pub is_run : IsRun two.table two.plan two.meaning empty opening two.events two.end
is_run = is_run_from empty

pub is_complete : HasFinishedAll two.plan two.end
is_complete zero step at = (two.gen.1, refl)
is_complete (suc zero) step at = (two.uses.1, refl)
is_complete (suc (suc j)) step at = absurd cc

-- ---- what was recorded

abbrev file_node : DigestValue → Bool → NodeValue
file_node digest executable = nodes.File digest executable

gen_recorded_as : IsRecordedAs two.blobs two.results two.gen_action_digest two.gen.1
gen_recorded_as = record { result = two.gen_result; held = gen_result_held; exit_code = refl; trees = ((two.gen_tree, tree_told), tt); outputs = λ p x. (there p x, back p x) }
  where
    there : (p : List Name) (x : NodeValue) → Contains (entries_form two.gen.1.outputs) (p, x) → RecordsAt two.blobs two.gen_result p x
    there p x (zero, lt, e) =
        let path = ap (λ (z : List Name × NodeValue). z.0) e in
        let is = ap (λ (z : List Name × NodeValue). z.1) e in
        inr (inr (record { path = codes "out" ∷ []; tree = two.tree_digest }, (0, omega arith, refl), path, two.gen_tree, tree_told, sym is))
    there p x (suc k, lt, e) = absurd (omega (arith, lt))

    back : (p : List Name) (x : NodeValue) → RecordsAt two.blobs two.gen_result p x → Contains (entries_form two.gen.1.outputs) (p, x)
    back p x (inl (f, (k, lt, e), path, is)) = absurd (omega (arith, lt))
    back p x (inr (inl (l, (k, lt, e), path, is))) = absurd (omega (arith, lt))
    back p x (inr (inr (d, (suc k, lt, e), path, t, told, is))) = absurd (omega (arith, lt))
    back p x (inr (inr (d, (zero, lt, e), path, t, told, is))) =
        let paths = ap (λ (d : OutputDirectoryValue). d.path) e ∙ path in
        let tree = told_once IsTree tree_bytes tree_bytes_injective two.blobs two.tree_digest two.gen_tree t tree_told (subst (λ (d : OutputDirectoryValue). IsTold IsTree tree_bytes two.blobs d.tree t) (sym e) told) in
        let node = ap tree_node tree ∙ sym is in
        (0, omega arith, λ i. (paths i, node i))

pub use_recorded_as : (B C : Blobs) (d : DigestValue) → HoldsResult C d two.use_result → IsRecordedAs B C d two.uses.1
use_recorded_as B C d held = record { result = two.use_result; held = held; exit_code = refl; trees = tt; outputs = λ p x. (there p x, back p x) }
  where
    there : (p : List Name) (x : NodeValue) → Contains (entries_form two.uses.1.outputs) (p, x) → RecordsAt B two.use_result p x
    there p x (zero, lt, e) =
        let path = ap (λ (z : List Name × NodeValue). z.0) e in
        let is = ap (λ (z : List Name × NodeValue). z.1) e in
        inl (record { path = codes "res" ∷ []; digest = two.newline_digest; executable = false }, (0, omega arith, refl), path, sym is ∙ ap (λ d. file_node d false) newline_named)
    there p x (suc k, lt, e) = absurd (omega (arith, lt))

    back : (p : List Name) (x : NodeValue) → RecordsAt B two.use_result p x → Contains (entries_form two.uses.1.outputs) (p, x)
    back p x (inl (f, (suc k, lt, e), path, is)) = absurd (omega (arith, lt))
    back p x (inr (inl (l, (k, lt, e), path, is))) = absurd (omega (arith, lt))
    back p x (inr (inr (d, (k, lt, e), path, t, told, is))) = absurd (omega (arith, lt))
    back p x (inl (f, (zero, lt, e), path, is)) =
        let paths = ap (λ (f : OutputFileValue). f.path) e ∙ path in
        let node = ap (λ d. file_node d false) newline_named ∙ ap (λ (f : OutputFileValue). file_node f.digest f.executable) e ∙ sym is in
        (0, omega arith, λ i. (paths i, node i))

pub gen_digest : action_digest two.gen.0 ≡ two.gen_action_digest
gen_digest = ap (λ d. digest_of (action_bytes (with_input two.gen.0.frame d))) sources_named ∙ gen_action_named

pub use_digest : action_digest two.uses.0 ≡ two.use_action_digest
use_digest = ap (λ d. digest_of (action_bytes (with_input two.uses.0.frame d))) input_named ∙ use_action_named

abbrev IsPicked : DigestValue → ActionMeaning × Outcome → Type 0
IsPicked digest pair = Contains two.table pair × (action_digest pair.0 ≡ digest) × IsRecordedAs two.blobs two.results digest pair.1

pub agrees : Agrees two.blobs two.results two.table two.table two.recorded
agrees = record { each = refl; pairs = by }
  where
    by : (i : ℕ) (digest : DigestValue) (pair : ActionMeaning × Outcome) → slice_get two.recorded i ≡ Some digest → slice_get two.table i ≡ Some pair → IsPicked digest pair
    by zero digest pair d p =
        let digests : two.gen_action_digest ≡ digest = cc in
        let pairs : two.gen ≡ pair = cc in
        subst (λ d. IsPicked d pair) digests (subst (IsPicked two.gen_action_digest) pairs (gen_inside, gen_digest, gen_recorded_as))
    by (suc zero) digest pair d p =
        let digests : two.use_action_digest ≡ digest = cc in
        let pairs : two.uses ≡ pair = cc in
        subst (λ d. IsPicked d pair) digests (subst (IsPicked two.use_action_digest) pairs (uses_inside, use_digest, use_recorded_as two.blobs two.results two.use_action_digest use_result_held))
    by (suc (suc i)) digest pair d p = absurd cc
