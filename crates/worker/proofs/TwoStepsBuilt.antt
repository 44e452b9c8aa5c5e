-- The calls of the build of two steps lead from the engine as it is opened to one in which both have finished.
use Rattle.std.proofs.Common.{◌≡◌, ℕ, zero, suc, ◌<◌, ◌≤◌, ◌^◌, true, false, cond, List, [], ◌∷◌, ◌++◌, length, map, Option, Some, None, refl, ap, sym, subst, ◌∙◌, arith, inl, inr, lit<}
use Rattle.std.specs.Prelude.{codes, bytes_eq, slice_get}
use Rattle.std.specs.List.{AllByRecursion, list_any}
use Rattle.std.specs.Ptr.{null_ptr}
use Rattle.std.specs.declared.vec.Vec.{Vec}
use Rattle.hex.specs.Hex.{encode_with, decode_pairs}
use Rattle.sha2.specs.Sha256.{compress, digest_bytes, first_words, hash_after, rounds, schedule, sha256}
use Rattle.wire.specs.Varint.{groups, varint}
use Rattle.blob_digest.specs.Digest.{DigestValue, digest_of}
use Rattle.blob_source.specs.Source.{Blobs}
use Rattle.messages.specs.declared.node.Node.TheVariants as nodes
use Rattle.messages.specs.Directory.{directory_bytes}
use Rattle.action_messages.specs.Action.{action_bytes, with_input}
use Rattle.action_messages.specs.Command.{CommandValue}
use Rattle.action_messages.specs.Frame.{FrameValue}
use Rattle.actions.specs.declared.outcome.Output.TheVariants as outputs
use Rattle.actions.specs.Outcome.{OutcomeValue}
use Rattle.plan.specs.Values.{output, StepValue}
use Rattle.tree.specs.Tree.{Tree, empty}
use Rattle.tree.specs.Form.{NodeValue, form, root}
use Rattle.tree.specs.Folded.{visited, unseen, first_visits, IsFoldOf}
use Rattle.tree.specs.Graft.{HaveApartTargets}
use Rattle.tree.specs.Merging.{in_tree, NodeWithin, MergeLines, merged}
use Rattle.tree.specs.Stage.{◌and_then◌}
use Rattle.tree.specs.declared.folding.Folded.{Folded}
use Rattle.tree.proofs.MergeApart.{graft_passes, all_named, are_apart}
use Rattle.verifier.specs.Together.{AreThere}
use Rattle.verifier.specs.TwoSteps as two
use Rattle.verifier.proofs.TwoSteps.{sources_named, input_named, gen_action_named, use_action_named}
use Rattle.verifier.proofs.TwoStepsRecorded.{gen_result_held, use_result_held, gen_recorded, use_recorded}
use Rattle.runs.specs.Calls.{IsOther, Disagrees, with_finished, with_job}
use Rattle.runs.specs.Engine.{FinishedValue, JobValue, EngineValue, at_number}
use Rattle.runs.specs.Calls.{IsReady}
use Rattle.runs.specs.Looking.{outcomes_in, together_in}
use Rattle.runs.specs.TwoSteps as example
use Rattle.runs.proofs.TwoStepsServed.{engine_valid}
use Rattle.worker.specs.Calls.{Call, WasStarted, FinishedAsRecorded, IsStartable, IsLeastStartable, IsBuiltBy}
use Rattle.worker.specs.Outcomes.{Yields}
use Rattle.worker.specs.Stored.{HasNoneFinished}
use Rattle.worker.specs.TwoSteps as worked

-- ---- the Directories of an input, as a job has them

abbrev IsFew : {X : Type 0} → List X → Type 0
IsFew xs = length xs < 2 ^ 63

few_unseen : (seen bs : List (List ℕ)) → AllByRecursion IsFew bs → AllByRecursion IsFew (unseen seen bs) × (length (unseen seen bs) ≤ length bs)
few_unseen seen [] h = (tt, omega arith)
few_unseen seen (b ∷ bs) h =
    let old = few_unseen seen bs h.1 in
    let new = few_unseen (seen ++ b ∷ []) bs h.1 in
    elim (list_any (bytes_eq b) seen) as (λ q. let us = cond q (unseen seen bs) (b ∷ unseen (seen ++ b ∷ []) bs) in AllByRecursion IsFew us × (length us ≤ length (b ∷ bs))) [
      | true ↦ (old.0, let le = old.1 in omega (arith, le))
      | false ↦ ((h.0, new.0), let le = new.1 in omega (arith, le))
    ]

module _ {A : Type 0} (alloc : A) where
  abbrev vec_of : {X : Type 0} → (xs : List X) → IsFew xs → Vec X A
  vec_of xs few = record { ptr = null_ptr; len = length xs; cap = length xs; alloc = alloc; items = xs; ok = (refl, omega arith); small = few }

  abbrev vecs : (bs : List (List ℕ)) → AllByRecursion IsFew bs → List (Vec ℕ A)
  vecs [] few = []
  vecs (b ∷ bs) few = vec_of b few.0 ∷ vecs bs few.1

  vecs_items : (bs : List (List ℕ)) → (few : AllByRecursion IsFew bs) → map (λ (v : Vec ℕ A). v.items) (vecs bs few) ≡ bs
  vecs_items [] few = refl
  vecs_items (b ∷ bs) few = ap (λ cs. b ∷ cs) (vecs_items bs few.1)

  vecs_count : (bs : List (List ℕ)) → (few : AllByRecursion IsFew bs) → length (vecs bs few) ≡ length bs
  vecs_count [] few = refl
  vecs_count (b ∷ bs) few = ap suc (vecs_count bs few.1)

  pub fold_of : (t : Tree NodeValue) → AllByRecursion IsFew (visited t) → IsFew (visited t) → (f : Folded A) × IsFoldOf t f
  fold_of t each count =
      let once = few_unseen [] (visited t) each in
      let same = vecs_count (first_visits t) once.0 in
      let le = once.1 in
      (record { root = root t; directories = vec_of (vecs (first_visits t) once.0) (omega (arith, same, le, count)) }, record { root = refl; directories = vecs_items (first_visits t) once.0 })

abbrev data_form : Tree NodeValue
data_form = form two.data_input

pub none_few : AllByRecursion IsFew (visited empty)
unfolding groups varint directory_bytes encode_with
none_few = (lit< tt, tt)

data_few : AllByRecursion IsFew (visited data_form)
unfolding first_words schedule rounds compress hash_after digest_bytes sha256 digest_of groups varint directory_bytes encode_with decode_pairs
data_few = (lit< tt, (lit< tt, tt))

-- ---- what the lines of the steps put together

abbrev made_file : NodeWithin
made_file = record { node = nodes.File (digest_of (codes "123456789")) false; within = in_tree two.gen_tree }

abbrev data_lines : MergeLines
data_lines = (codes "data" ∷ codes "x" ∷ [], made_file) ∷ []

pub nothing_merges : (B : Blobs) → (merged B []).passes empty
unfolding merged
nothing_merges B = graft_passes B 64 [] [] (all_named [] tt) (are_apart [] tt) tt

data_merges : (merged two.blobs data_lines).passes data_form
unfolding merged
data_merges = let apart : HaveApartTargets data_lines = ((λ e. cc), tt, tt) in graft_passes two.blobs 64 [] data_lines (all_named data_lines apart) (are_apart data_lines apart) (omega arith, tt)

-- ---- the engine from call to call

abbrev gen_job : JobValue
gen_job = record { step = 0; action = two.gen_action_digest; input = two.sources }

abbrev use_job : JobValue
use_job = record { step = 1; action = two.use_action_digest; input = two.input_digest }

abbrev gen_runs : EngineValue
gen_runs = with_job 0 gen_job worked.first

abbrev gen_done : EngineValue
gen_done = with_finished 0 gen_job example.gen_outcome gen_runs

abbrev use_runs : EngineValue
use_runs = with_job 0 use_job gen_done

gen_together : (together_in two.blobs worked.first []).passes empty
unfolding ◌and_then◌
gen_together = ([], refl, nothing_merges two.blobs)

use_together : (together_in two.blobs gen_done (record { target = codes "data" ∷ codes "x" ∷ []; origin = output 0 (codes "out" ∷ codes "a" ∷ []) } ∷ [])).passes data_form
unfolding ◌and_then◌
use_together = (
  data_lines,
  (
    made_file,
    record {
      node = (example.gen_outcome, refl, inl ((codes "out" ∷ [], outputs.Tree two.gen_tree), (0, omega arith, refl), codes "a" ∷ [], refl, refl));
      within = (example.gen_outcome, refl, ((codes "out" ∷ [], outputs.Tree two.gen_tree), (0, omega arith, refl), (codes "a" ∷ [], refl), refl));
    },
    [],
    refl,
    refl,
  ),
  data_merges,
)

-- a step is started as the first job
pub started_first : {A : Type 0} (B : Blobs) (e : EngineValue) (i : ℕ) (s : StepValue) (frame : FrameValue) (command : CommandValue) (t : Tree NodeValue) → (f : Folded A) × IsFoldOf t f → (input digest : DigestValue)
    → slice_get e.plan.steps i ≡ Some s → slice_get e.frames i ≡ Some frame → slice_get e.commands i ≡ Some command → (together_in B e s.lines).passes t
    → input ≡ root t → digest ≡ digest_of (action_bytes (with_input frame input)) → at_number e.jobs 0 ≡ None → WasStarted A B i 0 e (with_job 0 (record { step = i; action = digest; input = input }) e)
started_first B e i s frame command t f input digest at is_frame is_command together is_input is_digest free = record {
  told = B;
  still = λ d b at right. at;
  job = record { id = 0; step = i; action = with_input frame input; digest = digest; command = command; input = f.0 };
  number = refl;
  is = record {
    prepared = record { planned = s; at = at; tree = t; together = together; number = refl; of_step = refl; frame = is_frame; input = is_input; command = is_command; digest = is_digest; folded = f.1 };
    least = record { free = free; lower = λ k lt. absurd (omega (arith, lt)) };
    few = omega arith;
    after = refl;
  };
}

module _ {A : Type 0} (alloc : A) where
  gen_started : WasStarted A two.blobs 0 0 worked.first gen_runs
  gen_started = started_first two.blobs worked.first 0 _ two.gen.0.frame two.gen.0.command empty (fold_of alloc empty none_few (lit< tt)) two.sources two.gen_action_digest
      refl refl refl gen_together (sym sources_named) (sym gen_action_named) refl

  use_started : WasStarted A two.blobs 1 0 gen_done use_runs
  use_started = started_first two.blobs gen_done 1 _ two.uses.0.frame two.uses.0.command data_form (fold_of alloc data_form data_few (lit< tt)) two.input_digest two.use_action_digest
      refl refl refl use_together (sym input_named) (sym use_action_named) refl

-- ---- the store's results are taken

pub unfinished : (o : Option FinishedValue) (k i : ℕ) (d : DigestValue) (v : OutcomeValue) → None ≡ o → IsOther o k i d v → ⊥
unfinished None k i d v is other = other
unfinished (Some f) k i d v is other = cc

other_actions : two.gen_action_digest ≡ two.use_action_digest → ⊥
unfolding two.gen_action_digest two.use_action_digest
other_actions e = let sizes : 138 ≡ 140 = ap (λ (d : DigestValue). d.size) e in omega (arith, sizes)

gen_agrees : Disagrees (None ∷ None ∷ []) 0 two.gen_action_digest example.gen_outcome → ⊥
gen_agrees (zero, o, at, other) = unfinished o 0 0 two.gen_action_digest example.gen_outcome (let none : ◌≡◌ {A = Option FinishedValue} None o = cc in none) other
gen_agrees (suc zero, o, at, other) = unfinished o 1 0 two.gen_action_digest example.gen_outcome (let none : ◌≡◌ {A = Option FinishedValue} None o = cc in none) other
gen_agrees (suc (suc k), o, at, other) = absurd cc

use_agrees : Disagrees (Some example.gen_finished ∷ None ∷ []) 1 two.use_action_digest example.use_outcome → ⊥
use_agrees (zero, None, at, other) = other
use_agrees (zero, Some f, at, (inl e, differs)) = absurd (omega (arith, e))
use_agrees (zero, Some f, at, (inr e, differs)) = let same : example.gen_finished ≡ f = cc in other_actions (ap (λ (g : FinishedValue). g.action) same ∙ e)
use_agrees (suc zero, o, at, other) = unfinished o 1 1 two.use_action_digest example.use_outcome (let none : ◌≡◌ {A = Option FinishedValue} None o = cc in none) other
use_agrees (suc (suc k), o, at, other) = absurd cc

gen_taken : (later : List Call) → FinishedAsRecorded two.telling later 0 two.gen_action_digest example.gen_outcome gen_runs gen_done
gen_taken later = record {
  finished = record {
    job = gen_job;
    is = refl;
    taken = λ c at. engine_valid.taken 0 example.gen_finished c refl at;
    agrees = gen_agrees;
    after = refl;
  };
  action = refl;
  bytes = gen_result_held.0;
  held = inl gen_result_held.1;
  result = two.gen_result;
  reads = gen_result_held.2;
  recorded = gen_recorded;
}

use_taken : FinishedAsRecorded two.telling [] 0 two.use_action_digest example.use_outcome use_runs worked.last
use_taken = record {
  finished = record {
    job = use_job;
    is = refl;
    taken = λ c at. engine_valid.taken 1 example.use_finished c refl at;
    agrees = use_agrees;
    after = refl;
  };
  action = refl;
  bytes = use_result_held.0;
  held = inl use_result_held.1;
  result = two.use_result;
  reads = use_result_held.2;
  recorded = use_recorded;
}

-- ---- the steps, each as it comes next

same_step : (s step : StepValue) → ◌≡◌ {A = Option StepValue} (Some s) (Some step) → s ≡ step
same_step s step is = cc

-- a step is ready whose lines' origins are there
pub ready_for : (e : EngineValue) (i : ℕ) (s : StepValue) → slice_get e.plan.steps i ≡ Some s → AreThere (outcomes_in e.finished) s.lines → IsReady e i
ready_for e i s at there = λ step is. subst (λ (x : StepValue). AreThere (outcomes_in e.finished) x.lines) {y = step} (same_step s step (sym at ∙ is)) there

gen_next : IsLeastStartable worked.first 0
gen_next = record {
  startable = record { waiting = record { unfinished = refl; idle = refl }; ready = ready_for worked.first 0 _ refl tt };
  least = λ k lt. absurd (omega (arith, lt));
}

use_next : IsLeastStartable gen_done 1
use_next = record {
  startable = record { waiting = record { unfinished = refl; idle = refl }; ready = ready_for gen_done 1 _ refl ((example.gen_outcome, refl), tt) };
  least = none;
}
  where
    none : (k : ℕ) → k < 1 → IsStartable gen_done k → ⊥
    none zero lt h = let unfinished = h.waiting.unfinished in cc
    none (suc k) lt h = omega (arith, lt)

-- ---- the build

pub none_finished : HasNoneFinished worked.first
none_finished zero = refl
none_finished (suc zero) = refl
none_finished (suc (suc i)) = refl

abbrev built : {A : Type 0} (alloc : A) (y : Yields) → IsBuiltBy A y two.telling two.telling 1 worked.first worked.last
built alloc y = record {
  led = record {
    calls = worked.calls;
    leads = (gen_runs, gen_started alloc, (omega arith, gen_next), (gen_done, gen_taken _, (omega arith, tt), (use_runs, use_started alloc, (omega arith, use_next), (worked.last, use_taken, (omega arith, tt), refl))));
  };
  puts = record { put = []; are = refl; once = refl; each = tt; others = λ d b at. inl at };
}

pub is_built : {A : Type 0} (alloc : A) (y : Yields) → (b : IsBuiltBy A y two.telling two.telling 1 worked.first worked.last) × (b.led.calls ≡ worked.calls)
is_built alloc y = (built alloc y, refl)
