-- The build of two steps is mirrored by an engine in which both have finished, and its blobs and results serve it.
use Rattle.std.proofs.Common.{◌≡◌, ◌≢◌, ℕ, zero, suc, true, false, None, [], ◌∷◌, List, Some, refl, sym, ap, subst, ◌∙◌, inl, inr, arith}
use Rattle.std.specs.Prelude.{◌==◌, ◌⊎◌, slice_get, codes, Contains}
use Rattle.std.proofs.lemmas.Bool.Decides.{eqb_tells}
use Rattle.blob_digest.specs.Digest.{DigestValue}
use Rattle.messages.specs.declared.node.Node.TheVariants as nodes
use Rattle.messages.specs.Tree.{TreeValue}
use Rattle.actions.specs.declared.outcome.Output.TheVariants as outputs
use Rattle.action_messages.specs.Action.{with_input, action_bytes}
use Rattle.action_messages.specs.Command.{CommandValue, command_bytes}
use Rattle.action_messages.specs.Frame.{FrameValue}
use Rattle.actions.specs.Outcome.{OutputValue}
use Rattle.plan.specs.Values.{OriginValue, source, output, LineValue, StepValue}
use Rattle.tree.specs.Tree.{Name}
use Rattle.tree.specs.Form.{NodeValue, form, root}
use Rattle.tree.specs.Merge.{merge}
use Rattle.blob_source.specs.Source.{IsBlobUnder}
use Rattle.verifier.specs.Build.{ActionMeaning, action_digest, StepFits, opening, outcome_of, action_of}
use Rattle.verifier.specs.Headline.{IsConcerned, IsDirectoryInTree}
use Rattle.verifier.specs.TwoSteps as two
use Rattle.runs.proofs.VersionOne.{apart_merges}
use Rattle.verifier.proofs.TwoSteps.{plan_valid, sources_named, input_named, newline_named, gen_tree_valid, fits, table_valid, out_path, res_path}
use Rattle.verifier.proofs.TwoStepsRecorded.{tree_kept, gen_action_told, use_action_told, gen_command_told, use_command_told, gen_result_held, use_result_held, gen_recorded, use_recorded}
use Rattle.verifier.proofs.TwoStepsRun.{is_run, gen_digest, use_digest}
use Rattle.verifier.proofs.TwoStepsBlobs.{all_blobs, none_clash, in_tree, of_nothing, concerned_one}
use Rattle.runs.specs.Engine.{FinishedValue, AllStand, TakesOutcome, IsEngine, finished_in}
use Rattle.runs.specs.Mirrors.{IsFormOf, IsFinishedAs, Mirrors, IsDirectoryOfEngine, IsConcernedIn, IsMirrored}
use Rattle.runs.specs.Served.{IsLineOf, Keeps, Serves}
use Rattle.runs.specs.TwoSteps as example
use Rattle.runs.proofs.TwoStepsEnds.{of_meaning, of_ends}
use Rattle.verifier.proofs.FreshRuns.{one_answer}

-- ---- the engine keeps its rules

uncached : (i : ℕ) (f : FrameValue) → slice_get two.meaning.frames i ≡ Some f → f.do_not_cache ≡ false
uncached zero f at = let same : two.framing two.gen_command_digest ≡ f = cc in ap (λ (g : FrameValue). g.do_not_cache) (sym same)
uncached (suc zero) f at = let same : two.framing two.use_command_digest ≡ f = cc in ap (λ (g : FrameValue). g.do_not_cache) (sym same)
uncached (suc (suc i)) f at = absurd cc

stand : AllStand two.plan.steps two.meaning.frames two.meaning.commands
stand = record { frames_count = refl; commands_count = refl; each = each }
  where
    each : (i : ℕ) (s : StepValue) (f : FrameValue) (c : CommandValue) → slice_get two.plan.steps i ≡ Some s → slice_get two.meaning.frames i ≡ Some f → slice_get two.meaning.commands i ≡ Some c → StepFits s.frame f c × (f.do_not_cache ≡ false)
    each i s f c at fs cs =
        let h = fits.steps i s at in
        let frames : h.0 ≡ f = one_answer (slice_get two.meaning.frames i) h.0 f h.2 fs in
        let commands : h.1 ≡ c = one_answer (slice_get two.meaning.commands i) h.1 c h.3 cs in
        (subst (λ d. StepFits s.frame f d) commands (subst (λ g. StepFits s.frame g h.1) frames h.4), uncached i f fs)

gen_taken : TakesOutcome two.gen.0.command example.gen_outcome
gen_taken = record { valid = record { paths = (out_path, tt); ascend = (tt, tt); apart = (tt, tt) }; outputs = (gen_tree_valid, tt); exit_code = refl; listed = ((0, omega arith, refl), tt) }

use_taken : TakesOutcome two.uses.0.command example.use_outcome
use_taken = record { valid = record { paths = (res_path, tt); ascend = (tt, tt); apart = (tt, tt) }; outputs = (tt, tt); exit_code = refl; listed = ((0, omega arith, refl), tt) }

pub engine_valid : IsEngine example.engine
engine_valid = record { stand = stand; count = refl; taken = taken; few = omega arith; running = λ w j is. absurd cc }
  where
    taken : (i : ℕ) (f : FinishedValue) (c : CommandValue) → finished_in i example.engine ≡ Some f → slice_get two.meaning.commands i ≡ Some c → TakesOutcome c f.outcome
    taken zero f c at cs =
        let same : example.gen_finished ≡ f = cc in
        let command : two.gen.0.command ≡ c = cc in
        subst (λ (g : FinishedValue). TakesOutcome c g.outcome) same (subst (λ d. TakesOutcome d example.gen_outcome) command gen_taken)
    taken (suc zero) f c at cs =
        let same : example.use_finished ≡ f = cc in
        let command : two.uses.0.command ≡ c = cc in
        subst (λ (g : FinishedValue). TakesOutcome c g.outcome) same (subst (λ d. TakesOutcome d example.use_outcome) command use_taken)
    taken (suc (suc i)) f c at cs = absurd cc

-- ---- it mirrors the end of the run

abbrev file_node : DigestValue → NodeValue
file_node d = nodes.File d false

pub gen_form : IsFormOf example.gen_outcome two.gen.1
gen_form = record { exit_code = refl; outputs = λ p x. (λ h. h, λ h. h) }

pub use_form : IsFormOf example.use_outcome two.uses.1
use_form = record { exit_code = refl; outputs = λ p x. (λ h. subst (λ d. Has d p x) (sym newline_named) h, λ h. subst (λ d. Has d p x) newline_named h) }
  where
    Has : DigestValue → List Name → NodeValue → Type 0
    Has d p x = let e : List Name × NodeValue = (p, x) in Contains ((codes "res" ∷ [], file_node d) ∷ []) e

-- no other step has finished
other_done : (n : ℕ) → (1 == n) ≡ false → (0 == n) ≡ false → outcome_of n two.end ≡ None
other_done n one none = rw (one, none) refl

neither : (i j : ℕ) → i ≢ j → (i == j) ≡ false
neither i j other = by (eqb_tells i j)
  where
    by : (((i == j) ≡ true) × (i ≡ j)) ⊎ (((i == j) ≡ false) × (i ≢ j)) → (i == j) ≡ false
    by (inl h) = absurd (other h.1)
    by (inr h) = h.0

none_done : (i : ℕ) → outcome_of (suc (suc i)) two.end ≡ None
none_done i = other_done (suc (suc i)) (neither 1 (suc (suc i)) (λ e. absurd (omega (arith, e)))) (neither 0 (suc (suc i)) (λ e. absurd (omega (arith, e))))

-- the actions of both steps
gen_is : action_of two.plan two.meaning two.tree two.end 0 ≡ Some two.gen.0
unfolding merge
gen_is = refl

use_is : action_of two.plan two.meaning two.tree two.end 1 ≡ Some two.uses.0
unfolding merge
use_is = refl

mirrors : Mirrors example.engine two.tree two.meaning two.end
mirrors = record {
  sources = sources_named;
  frames = λ i step at. refl;
  commands = λ i step at. refl;
  finished = finished;
  actions = actions;
  jobs = λ w. refl;
}
  where
    finished : (i : ℕ) → IsFinishedAs (finished_in i example.engine) (outcome_of i two.end)
    finished zero = gen_form
    finished (suc zero) = use_form
    finished (suc (suc i)) = subst (IsFinishedAs None) (sym (none_done i)) tt

    actions : (i : ℕ) (f : FinishedValue) → finished_in i example.engine ≡ Some f → (a : ActionMeaning) × (action_of two.plan two.meaning two.tree two.end i ≡ Some a) × (f.action ≡ action_digest a)
    actions zero f at = let same : example.gen_finished ≡ f = cc in (two.gen.0, gen_is, ap (λ (g : FinishedValue). g.action) (sym same) ∙ sym gen_digest)
    actions (suc zero) f at = let same : example.use_finished ≡ f = cc in (two.uses.0, use_is, ap (λ (g : FinishedValue). g.action) (sym same) ∙ sym use_digest)
    actions (suc (suc i)) f at = absurd cc

-- the engine has one Tree, which its source has too
pub in_engine : (b : List ℕ) → IsDirectoryOfEngine example.engine b → IsDirectoryInTree two.blobs b
in_engine b (i, f, at, p, t, inside, m, among, is) = by i f at inside
  where
    one_tree : (p : List Name) (t : TreeValue) → Contains example.gen_outcome.outputs (p, outputs.Tree t) → two.gen_tree ≡ t
    one_tree p t (zero, lt, e) = let same : ◌≡◌ {A = OutputValue} (outputs.Tree two.gen_tree) (outputs.Tree t) = ap (λ (z : List Name × OutputValue). z.1) e in cc
    one_tree p t (suc k, lt, e) = absurd (omega (arith, lt))

    no_tree : (p : List Name) (t : TreeValue) → Contains example.use_outcome.outputs (p, outputs.Tree t) → ⊥
    no_tree p t (zero, lt, e) = let same : ◌≡◌ {A = OutputValue} (outputs.File two.newline_digest false) (outputs.Tree t) = ap (λ (z : List Name × OutputValue). z.1) e in cc
    no_tree p t (suc k, lt, e) = omega (arith, lt)

    by : (i : ℕ) (f : FinishedValue) → finished_in i example.engine ≡ Some f → Contains f.outcome.outputs (p, outputs.Tree t) → IsDirectoryInTree two.blobs b
    by zero f at inside =
        let same : example.gen_finished ≡ f = cc in
        let tree = one_tree p t (subst (λ (g : FinishedValue). Contains g.outcome.outputs (p, outputs.Tree t)) (sym same) inside) in
        (two.gen_tree, gen_tree_valid, (two.tree_digest, tree_kept), m, subst (λ (u : TreeValue). Contains (u.root ∷ u.children) m) (sym tree) among, is)
    by (suc zero) f at inside =
        let same : example.use_finished ≡ f = cc in
        absurd (no_tree p t (subst (λ (g : FinishedValue). Contains g.outcome.outputs (p, outputs.Tree t)) (sym same) inside))
    by (suc (suc i)) f at inside = absurd cc

concerned : (b : List ℕ) → IsConcernedIn two.blobs example.engine two.meaning two.tree two.events b → Contains all_blobs b
concerned b (inl h) = concerned_one two.tree of_nothing b (all_chosen h)
  where
    all_chosen : IsConcerned two.blobs two.plan two.meaning two.tree [] two.events b → IsConcerned two.blobs two.plan two.meaning two.tree two.table two.events b
    all_chosen (inl h) = inl h
    all_chosen (inr (inl h)) = inr (inl h)
    all_chosen (inr (inr (inl (pair, (k, lt, e), h)))) = absurd (omega (arith, lt))
    all_chosen (inr (inr (inr h))) = inr (inr (inr h))
concerned b (inr (inl (inl h))) = of_meaning b h
concerned b (inr (inl (inr h))) = of_ends b opening two.events two.end is_run h
concerned b (inr (inr h)) = in_tree b (in_engine b h)

pub is_mirrored : IsMirrored two.blobs example.engine example.run
is_mirrored = record {
  ordered = tt;
  fits = fits;
  table = table_valid;
  happened = is_run;
  mirrors = mirrors;
  apart = λ x y c d e. none_clash x y (concerned x c) (concerned y d) e;
}

-- ---- its blobs and results serve it

abbrev HasBlobs : ActionMeaning → Type 0
HasBlobs a = IsBlobUnder two.blobs (action_digest a) (action_bytes (with_input a.frame (root (form a.input)))) × IsBlobUnder two.blobs a.frame.command (command_bytes a.command)

-- no line reads the sources
abbrev gen_step : StepValue
gen_step = record { name = codes "gen"; frame = two.gen_frame_digest; lines = [] }

abbrev use_line : LineValue
use_line = record { target = codes "data" ∷ codes "x" ∷ []; origin = output 0 (codes "out" ∷ codes "a" ∷ []) }

abbrev use_step : StepValue
use_step = record { name = codes "use"; frame = two.use_frame_digest; lines = use_line ∷ [] }

none : (l : LineValue) → Contains [] l → ⊥
none l (k, lt, e) = omega (arith, lt)

one_line : (first l : LineValue) (j : ℕ) (q p : List Name) → first.origin ≡ output j q → Contains (first ∷ []) l → l.origin ≡ source p → ⊥
one_line first l j q p from (zero, lt, e) is = let o : ◌≡◌ {A = OriginValue} (output j q) (source p) = sym from ∙ ap (λ (m : LineValue). m.origin) e ∙ is in absurd cc
one_line first l j q p from (suc k, lt, e) is = omega (arith, lt)

from_steps : (l : LineValue) → IsLineOf two.plan l → (p : List Name) → l.origin ≡ source p → ⊥
from_steps l (inl (zero, step, at, inside)) p is = let same : gen_step ≡ step = cc in none l (subst (λ (s : StepValue). Contains s.lines l) (sym same) inside)
from_steps l (inl (suc zero, step, at, inside)) p is = let same : use_step ≡ step = cc in one_line use_line l 0 (codes "out" ∷ codes "a" ∷ []) p refl (subst (λ (s : StepValue). Contains s.lines l) (sym same) inside) is
from_steps l (inl (suc (suc i), step, at, inside)) p is = absurd cc
from_steps l (inr inside) p is = one_line (record { target = codes "result" ∷ []; origin = output 1 (codes "res" ∷ []) }) l 1 (codes "res" ∷ []) p refl inside is

pub is_served : Serves two.blobs two.results example.engine two.tree two.meaning two.end
is_served = record {
  sources = λ l of_plan p is. absurd (from_steps l of_plan p is);
  merges = apart_merges two.blobs example.engine plan_valid refl;
  actions = actions;
  results = results;
}
  where
    actions : (i : ℕ) (a : ActionMeaning) → action_of two.plan two.meaning two.tree two.end i ≡ Some a → HasBlobs a
    actions zero a at = let same : two.gen.0 ≡ a = one_answer (action_of two.plan two.meaning two.tree two.end 0) two.gen.0 a gen_is at in subst HasBlobs same (
      subst (λ d. IsBlobUnder two.blobs d (action_bytes (with_input two.gen.0.frame (root (form two.gen.0.input))))) (sym gen_digest) (subst (λ d. IsBlobUnder two.blobs two.gen_action_digest (action_bytes (with_input two.gen.0.frame d))) (sym sources_named) gen_action_told.blob),
      gen_command_told.blob,
    )
    actions (suc zero) a at = let same : two.uses.0 ≡ a = one_answer (action_of two.plan two.meaning two.tree two.end 1) two.uses.0 a use_is at in subst HasBlobs same (
      subst (λ d. IsBlobUnder two.blobs d (action_bytes (with_input two.uses.0.frame (root (form two.uses.0.input))))) (sym use_digest) (subst (λ d. IsBlobUnder two.blobs two.use_action_digest (action_bytes (with_input two.uses.0.frame d))) (sym input_named) use_action_told.blob),
      use_command_told.blob,
    )
    actions (suc (suc i)) a at = absurd cc

    results : (i : ℕ) (f : FinishedValue) → finished_in i example.engine ≡ Some f → Keeps two.blobs two.results f
    results zero f at = let same : example.gen_finished ≡ f = cc in subst (Keeps two.blobs two.results) same (two.gen_result, gen_result_held, example.gen_outcome, gen_recorded, record { exit_code = refl; outputs = refl })
    results (suc zero) f at = let same : example.use_finished ≡ f = cc in subst (Keeps two.blobs two.results) same (two.use_result, use_result_held, example.use_outcome, use_recorded, record { exit_code = refl; outputs = refl })
    results (suc (suc i)) f at = absurd cc
