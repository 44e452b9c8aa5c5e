-- The build of two steps meets what is said of a build: its jobs finished with what the table says, and no two different blobs concerned share a digest.
use Rattle.std.proofs.Common.{◌≡◌, ℕ, zero, suc, true, false, List, Some, refl, ap, sym, ◌∙◌, subst, arith, inl, inr}
use Rattle.std.specs.Prelude.{◌⊎◌, Contains, bytes_eq}
use Rattle.std.proofs.lemmas.Slice.Eq.{bytes_eq-Decides}
use Rattle.hex.specs.Hex.{decode_pairs}
use Rattle.blob_digest.specs.Digest.{DigestValue, NoClash}
use Rattle.messages.specs.Tree.{tree_bytes}
use Rattle.actions.specs.declared.outcome.Output.TheVariants as outputs
use Rattle.actions.specs.Outcome.{OutcomeValue, OutputValue}
use Rattle.actions.proofs.TreeLookups.{all_at}
use Rattle.tree.specs.Tree.{Name}
use Rattle.verifier.specs.Build.{ActionMeaning, action_digest, Outcome, Event, State, opening, IsRun}
use Rattle.verifier.specs.TwoSteps as two
use Rattle.verifier.proofs.FreshRuns.{found_one}
use Rattle.verifier.proofs.TwoSteps.{sources_named, fits, table_valid}
use Rattle.verifier.proofs.TwoStepsEvents.{IsOwnJob, own_end, own_opening, of_starts}
use Rattle.verifier.proofs.TwoStepsRun.{gen_digest, use_digest}
use Rattle.verifier.proofs.TwoStepsBlobs.{all_blobs, none_clash, in_tree, of_nothing}
use Rattle.runs.specs.Engine.{FinishedValue, finished_in}
use Rattle.runs.specs.Mirrors.{IsFormOf, IsConcernedIn}
use Rattle.runs.specs.TwoSteps as example
use Rattle.runs.proofs.TwoStepsEnds.{of_meaning, of_ends}
use Rattle.runs.proofs.TwoStepsServed.{in_engine, gen_form, use_form}
use Rattle.worker.specs.Calls.{Call, ran, taken}
use Rattle.worker.specs.Stored.{IsToldOrTree}
use Rattle.worker.specs.TwoSteps as worked
use Rattle.builder.specs.AsRun.{FinishedWith, IsAbout}
use Rattle.builder.specs.TwoSteps as store
use Rattle.builder.proofs.TwoStepsOpened.{kept_value, tree_value}

-- ---- the blobs of a run

concerned : (b : List ℕ) (es : List Event) (s : State) → IsRun two.table two.plan two.meaning two.tree opening es s → IsConcernedIn store.telling.blobs worked.last two.meaning two.tree es b → Contains all_blobs b
concerned b es s run (inl (inl (inl v))) = kept_value b v
concerned b es s run (inl (inl (inr h))) = tree_value b h
concerned b es s run (inl (inr (inl h))) = of_nothing b h
concerned b es s run (inl (inr (inr (inl (pair, (k, lt, e), h))))) = absurd (omega (arith, lt))
concerned b es s run (inl (inr (inr (inr h)))) = of_starts b opening es s own_opening run h
concerned b es s run (inr (inl (inl h))) = of_meaning b h
concerned b es s run (inr (inl (inr h))) = of_ends b opening es s run h
concerned b es s run (inr (inr h)) = in_tree b (in_engine b h)

-- ---- what its jobs finished with

digests_differ : bytes_eq two.gen_action_digest.hash two.use_action_digest.hash ≡ false
unfolding two.gen_action_digest two.use_action_digest decode_pairs
digests_differ = refl

unlike : two.gen_action_digest ≡ two.use_action_digest → ⊥
unlike same =
    let equal = (bytes_eq-Decides two.gen_action_digest.hash two.use_action_digest.hash).1 (ap (λ (d : DigestValue). d.hash) same) in
    let clash : true ≡ false = sym equal ∙ digests_differ in
    cc

-- a call that finishes a job takes what one of the two steps came to
abbrev IsOfTwo : Call → Type 0
IsOfTwo (ran id d v) = ⊥
IsOfTwo (taken id d v) = ((d ≡ two.gen_action_digest) × (v ≡ example.gen_outcome)) ⊎ ((d ≡ two.use_action_digest) × (v ≡ example.use_outcome))
IsOfTwo c = Unit {0}

of_two : (d : DigestValue) (v : OutcomeValue) → FinishedWith worked.calls d v → IsOfTwo (taken 0 d v)
of_two d v (inl (id, at)) = absurd (all_at IsOfTwo worked.calls (ran id d v) (tt, (inl (refl, refl), (tt, (inr (refl, refl), tt)))) at)
of_two d v (inr (id, at)) = all_at IsOfTwo worked.calls (taken id d v) (tt, (inl (refl, refl), (tt, (inr (refl, refl), tt)))) at

says : (job : ℕ × ActionMeaning) (w : ℕ) → IsOwnJob (w, job) → (v : OutcomeValue) → FinishedWith worked.calls (action_digest job.1) v → (o : Outcome) × Contains two.table (job.1, o) × IsFormOf v o
says job w (inl is) v h = subst (λ (j : ℕ × ActionMeaning). (o : Outcome) × Contains two.table (j.1, o) × IsFormOf v o) (sym is) (by (of_two _ v (subst (λ (j : ℕ × ActionMeaning). FinishedWith worked.calls (action_digest j.1) v) is h)))
  where
    by : IsOfTwo (taken 0 (action_digest two.gen.0) v) → (o : Outcome) × Contains two.table (two.gen.0, o) × IsFormOf v o
    by (inl (named, same)) = (two.gen.1, (0, omega arith, refl), subst (λ (v : OutcomeValue). IsFormOf v two.gen.1) (sym same) gen_form)
    by (inr (named, same)) = absurd (unlike (sym gen_digest ∙ named))
says job w (inr is) v h = subst (λ (j : ℕ × ActionMeaning). (o : Outcome) × Contains two.table (j.1, o) × IsFormOf v o) (sym is) (by (of_two _ v (subst (λ (j : ℕ × ActionMeaning). FinishedWith worked.calls (action_digest j.1) v) is h)))
  where
    by : IsOfTwo (taken 0 (action_digest two.uses.0) v) → (o : Outcome) × Contains two.table (two.uses.0, o) × IsFormOf v o
    by (inl (named, same)) = absurd (unlike (sym named ∙ use_digest))
    by (inr (named, same)) = (two.uses.1, (1, omega arith, refl), subst (λ (v : OutcomeValue). IsFormOf v two.uses.1) (sym same) use_form)

-- ---- the build is about this

pub is_about : IsAbout two.plan two.sources store.telling.blobs worked.calls worked.last two.tree two.meaning two.table
is_about = record {
  ordered = tt;
  root_is = sources_named;
  fits = fits;
  table = table_valid;
  says = λ es s run w job at v h. says job w (found_one IsOwnJob w s.jobs job (own_end opening es s own_opening run).jobs at) v h;
  apart = λ es s run x y c d e. none_clash x y (concerned x es s run c) (concerned y es s run d) e;
}

told_or_tree : (b : List ℕ) → IsToldOrTree store.telling.blobs worked.last b → Contains all_blobs b
told_or_tree b (inl v) = kept_value b v
told_or_tree b (inr (i, f, at, (p, t, inside, is))) = by i f at inside
  where
    by : (i : ℕ) (f : FinishedValue) → finished_in i example.engine ≡ Some f → Contains f.outcome.outputs (p, outputs.Tree t) → Contains all_blobs b
    by zero f at inside = let same : example.gen_finished ≡ f = cc in one (subst (λ (g : FinishedValue). Contains g.outcome.outputs (p, outputs.Tree t)) (sym same) inside)
      where
        one : Contains example.gen_outcome.outputs (p, outputs.Tree t) → Contains all_blobs b
        one (zero, lt, e) =
            let same : ◌≡◌ {A = OutputValue} (outputs.Tree two.gen_tree) (outputs.Tree t) = ap (λ (z : List Name × OutputValue). z.1) e in
            let tree : two.gen_tree ≡ t = cc in
            subst (Contains all_blobs) (sym (is ∙ ap tree_bytes (sym tree))) (4, omega arith, refl)
        one (suc k, lt, e) = absurd (omega (arith, lt))
    by (suc zero) f at inside = let same : example.use_finished ≡ f = cc in absurd (none (subst (λ (g : FinishedValue). Contains g.outcome.outputs (p, outputs.Tree t)) (sym same) inside))
      where
        none : Contains example.use_outcome.outputs (p, outputs.Tree t) → ⊥
        none (zero, lt, e) = let same : ◌≡◌ {A = OutputValue} (outputs.File two.newline_digest false) (outputs.Tree t) = ap (λ (z : List Name × OutputValue). z.1) e in cc
        none (suc k, lt, e) = omega (arith, lt)
    by (suc (suc i)) f at inside = absurd cc

pub apart_stored : NoClash (IsToldOrTree store.telling.blobs worked.last)
apart_stored x y c d e = none_clash x y (told_or_tree x c) (told_or_tree y d) e
