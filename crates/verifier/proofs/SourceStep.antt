-- The build of one step that reads the sources meets the premises of a yes.
use Rattle.std.proofs.Common.{◌≡◌, ℕ, zero, suc, List, [], ◌∷◌, Some, refl, sym, ap, ◌∙◌, subst, arith, inl, inr}
use Rattle.std.specs.Prelude.{slice_get, Contains, codes}
use Rattle.hex.specs.Hex.{decode_pairs}
use Rattle.wire.specs.Record.{Bytes, Record, record_with}
use Rattle.blob_digest.specs.Digest.{DigestValue}
use Rattle.messages.specs.declared.node.Node.TheVariants as nodes
use Rattle.messages.specs.Directory.{directory_bytes}
use Rattle.messages.specs.DirectoryNode.{directory_node_bytes}
use Rattle.messages.specs.DirectoryRules.{IsDirectory}
use Rattle.messages.specs.Tree.{TreeValue, tree_bytes}
use Rattle.messages.proofs.Paths.{one_name}
use Rattle.action_messages.specs.Action.{with_input, action_bytes}
use Rattle.action_messages.specs.Command.{CommandValue, command_bytes}
use Rattle.action_messages.specs.Frame.{FrameValue}
use Rattle.plan.specs.Plan.{IsPlan}
use Rattle.plan.specs.Values.{source, StepValue}
use Rattle.tree.specs.Tree.{IsOrdered}
use Rattle.tree.specs.Form.{form, root, top, directory_of}
use Rattle.tree.specs.Graft.{graft}
use Rattle.tree.specs.Merge.{merge}
use Rattle.tree.specs.Merging.{in_source, NodeWithin, MergeLines, nodes_in}
use Rattle.tree.proofs.TreeDigests.{IsDigest-digest_of}
use Rattle.blob_source.specs.Told.{TellsDirectory}
use Rattle.verifier.specs.AsRecorded.{IsAsRecorded, IsPlanAsRecorded}
use Rattle.verifier.specs.Build.{ActionMeaning, action_digest, Outcome, Event, start, finish, lose, State, opening, action_of, happens, IsTable, StepFits, MeaningFits, IsRun, HasFinishedAll}
use Rattle.verifier.specs.Headline.{IsBlobOfAction, IsBlobOfOutcome, IsBlobOfStart, IsBlobOfStarts, IsConcerned, RunsFrom}
use Rattle.verifier.specs.Recorded.{Agrees, IsRecordedAs}
use Rattle.verifier.specs.TwoSteps as two
use Rattle.verifier.proofs.FreshRuns.{one_answer}
use Rattle.verifier.proofs.TwoSteps.{plan_valid, table_valid, data_name, res_path, input_named, use_frame_valid, use_command_valid, use_frame_named, use_command_named}
use Rattle.verifier.proofs.TwoStepsRecorded.{alone, sized, use_action_in, use_command_in, use_result_held, use_recorded_in, use_outcome, result_file, result_lines, result_merges, stands_result, root_named}
use Rattle.verifier.proofs.TwoStepsRun.{obeys, use_digest, use_recorded_as}
use Rattle.verifier.proofs.TwoStepsBlobs.{all_blobs, data_directory, keeping_one, none_clash, of_input, of_uses, made_by_uses, same_blob, tree_spelled, use_action_no_tree, use_command_no_tree}

-- ---- the plan is valid, and as recorded

pub reading_valid : IsPlan two.reading_plan
reading_valid =
    let step = plan_valid.steps.1.0 in
    record {
      few = omega arith;
      steps = (
        record {
          name = step.name;
          new = tt;
          frame = step.frame;
          lines = record { few = omega arith; each = (record { target = one_name (codes "data") data_name; origin = inr (one_name (codes "data") data_name) }, tt) };
        },
        tt,
      );
      root_lines = record { few = omega arith; each = (record { target = plan_valid.root_lines.each.0.target; origin = (omega arith, res_path) }, tt) };
      apart = (λ one. (tt, tt), tt);
      root_apart = λ one. (tt, tt);
    }

pub is_source : IsOrdered two.data_input × (root (form two.data_input) ≡ two.input_digest)
is_source = ((tt, (tt, tt), tt), input_named)

directory_valid : IsDirectory (directory_of (form two.data_input))
directory_valid = record {
  files = tt;
  directories = (record { name = data_name; digest = IsDigest-digest_of (top (form data_directory)) }, tt);
  symlinks = tt;
  names = record { files_ascend = tt; directories_ascend = (tt, tt); symlinks_ascend = tt; files_and_directories = tt; files_and_symlinks = tt; directories_and_symlinks = (tt, tt) };
}

action_kept : two.reading_blobs two.use_action_digest ≡ Some (action_bytes (with_input two.uses.0.frame two.input_digest))
unfolding two.use_action_digest decode_pairs
action_kept = refl

command_kept : two.reading_blobs two.use_command_digest ≡ Some (command_bytes two.uses.0.command)
unfolding two.use_action_digest two.use_command_digest decode_pairs
command_kept = refl

directory_kept : two.reading_blobs two.input_digest ≡ Some (top (form two.data_input))
unfolding two.use_action_digest two.use_command_digest two.input_digest decode_pairs
directory_kept = refl

told : TellsDirectory two.reading_blobs two.input_digest (directory_of (form two.data_input))
unfolding two.input_digest
told = record { valid = directory_valid; blob = record { held = inr (sized two.input_digest 77 refl, sym directory_kept); right = input_named } }

abbrev data_node : NodeWithin
data_node = record { node = nodes.Dir (root (form data_directory)); within = in_source }

abbrev lines : MergeLines
lines = (codes "data" ∷ [], data_node) ∷ []

step_passes : IsAsRecorded two.reading_blobs two.results two.input_digest []
    (record { name = codes "use"; frame = two.use_frame_digest; lines = record { target = codes "data" ∷ []; origin = source (codes "data" ∷ []) } ∷ [] }) two.use_action_digest use_outcome
step_passes = record {
  action = with_input two.uses.0.frame two.input_digest;
  command = two.uses.0.command;
  nodes = lines;
  tree = graft (nodes_in lines);
  result = two.use_result;
  action_told = use_action_in two.reading_blobs action_kept;
  may_be_cached = refl;
  frame = use_frame_named;
  command_told = use_command_in two.reading_blobs command_kept;
  resolved = (data_node, record { node = inl (directory_of (form two.data_input), told, refl); within = refl }, [], refl, refl);
  put_together = alone two.reading_blobs (codes "data" ∷ []) data_node (λ e. cc) (omega arith);
  input = input_named;
  held = use_result_held;
  exit_code = refl;
  recorded = use_recorded_in two.reading_blobs;
  listed = ((0, omega arith, refl), tt);
}

pub as_recorded : IsPlanAsRecorded two.reading_blobs two.results two.input_digest two.reading_plan (two.use_action_digest ∷ []) two.claim
as_recorded = record {
  outcomes = use_outcome ∷ [];
  steps = (use_outcome, step_passes, refl);
  root = record {
    nodes = result_lines;
    tree = graft (nodes_in result_lines);
    resolved = (result_file, stands_result two.reading_blobs two.input_digest (use_outcome ∷ []) 0 refl, [], refl, refl);
    put_together = result_merges two.reading_blobs;
    same = root_named;
  };
}

-- ---- the meaning, the table and the record

fits : MeaningFits two.reading_plan two.reading_run.meaning
fits = record { steps = by }
  where
    by : (i : ℕ) (step : StepValue) → slice_get two.reading_plan.steps i ≡ Some step
        → (frame : FrameValue) × (command : CommandValue) × (slice_get two.reading_run.meaning.frames i ≡ Some frame) × (slice_get two.reading_run.meaning.commands i ≡ Some command) × StepFits step.frame frame command
    by zero step at =
        let same : ◌≡◌ {A = StepValue} (record { name = codes "use"; frame = two.use_frame_digest; lines = record { target = codes "data" ∷ []; origin = source (codes "data" ∷ []) } ∷ [] }) step = cc in
        let frame = ap (λ (s : StepValue). s.frame) same in
        (two.uses.0.frame, two.uses.0.command, refl, refl, record { frame_valid = use_frame_valid; command_valid = use_command_valid; frame_digest = use_frame_named ∙ frame; command_digest = sym use_command_named })
    by (suc i) step at = absurd cc

uses_alone : Contains (two.uses ∷ []) two.uses
uses_alone = (0, omega arith, refl)

-- its table is a part of the other
in_table : (x : ActionMeaning × Outcome) → Contains (two.uses ∷ []) x → Contains two.table x
in_table x (zero, lt, e) = (1, omega arith, e)
in_table x (suc k, lt, e) = absurd (omega (arith, lt))

table : IsTable (two.uses ∷ [])
table = record { same = λ a o p c d. table_valid.same a o p (in_table (a, o) c) (in_table (a, p) d); actions = λ a o c. table_valid.actions a o (in_table (a, o) c) }

abbrev IsPicked : DigestValue → ActionMeaning × Outcome → Type 0
IsPicked digest pair = Contains (two.uses ∷ []) pair × (action_digest pair.0 ≡ digest) × IsRecordedAs two.reading_blobs two.results digest pair.1

agrees : Agrees two.reading_blobs two.results (two.uses ∷ []) (two.uses ∷ []) (two.use_action_digest ∷ [])
agrees = record { each = refl; pairs = by }
  where
    by : (i : ℕ) (digest : DigestValue) (pair : ActionMeaning × Outcome) → slice_get (two.use_action_digest ∷ []) i ≡ Some digest → slice_get (two.uses ∷ []) i ≡ Some pair → IsPicked digest pair
    by zero digest pair d p =
        let digests : two.use_action_digest ≡ digest = cc in
        let pairs : two.uses ≡ pair = cc in
        subst (λ d. IsPicked d pair) digests (subst (IsPicked two.use_action_digest) pairs (uses_alone, use_digest, use_recorded_as two.reading_blobs two.results two.use_action_digest use_result_held))
    by (suc i) digest pair d p = absurd cc

-- ---- the run

abbrev s1 : State
s1 = record { done = []; jobs = (0, (0, two.uses.0)) ∷ [] }

abbrev s2 : State
s2 = record { done = []; jobs = (1, (0, two.uses.0)) ∷ (0, (0, two.uses.0)) ∷ [] }

abbrev s3 : State
s3 = record { done = []; jobs = (1, (0, two.uses.0)) ∷ [] }

is_run : IsRun (two.uses ∷ []) two.reading_plan two.reading_run.meaning two.data_input opening two.reading_run.events two.reading_run.now
unfolding merge
is_run = (tt, s1, refl, (tt, s2, refl, (tt, s3, refl, (obeys (two.uses ∷ []) two.uses s3 1 0 uses_alone refl, two.reading_run.now, refl, refl))))

pub is_complete : HasFinishedAll two.reading_plan two.reading_run.now
is_complete zero step at = (two.uses.1, refl)
is_complete (suc j) step at = absurd cc

-- ---- its blobs

-- the top of the source tree is no Tree: its first field is another
no_tree : (t : TreeValue) → top (form two.data_input) ≡ tree_bytes t → ⊥
unfolding directory_bytes
no_tree t e =
    let node = directory_node_bytes (record { name = codes "data"; digest = root (form data_directory) }) in
    let records = tree_spelled t (record_with 2 (Bytes node) ∷ []) (tt, tt) e in
    let first : record_with 2 (Bytes node) ≡ record_with 1 (Bytes (directory_bytes t.root)) = cc in
    let numbers : 2 ≡ 1 = ap (λ (r : Record). r.number) first in
    omega (arith, numbers)

no_trees : (t : TreeValue) → Contains (action_bytes (with_input two.uses.0.frame two.input_digest) ∷ command_bytes two.uses.0.command ∷ top (form two.data_input) ∷ []) (tree_bytes t) → ⊥
no_trees t (zero, lt, e) = use_action_no_tree t e
no_trees t (suc zero, lt, e) = use_command_no_tree t e
no_trees t (suc (suc zero), lt, e) = no_tree t e
no_trees t (suc (suc (suc k)), lt, e) = omega (arith, lt)

kept_one : (b : List ℕ) → Contains (action_bytes (with_input two.uses.0.frame two.input_digest) ∷ command_bytes two.uses.0.command ∷ top (form two.data_input) ∷ []) b → Contains all_blobs b
kept_one b (zero, lt, e) = same_blob (action_bytes (with_input two.uses.0.frame two.input_digest)) b (1, omega arith, refl) (sym e)
kept_one b (suc zero, lt, e) = same_blob (command_bytes two.uses.0.command) b (3, omega arith, refl) (sym e)
kept_one b (suc (suc zero), lt, e) = same_blob (top (form two.data_input)) b (9, omega arith, refl) (sym e)
kept_one b (suc (suc (suc k)), lt, e) = absurd (omega (arith, lt))

-- where the step starts, its action is that of `use`
starts : (b : List ℕ) (s : State) (w : ℕ) → IsBlobOfStart two.reading_plan two.reading_run.meaning two.data_input s (start 0 w) b → Contains all_blobs b
unfolding merge
starts b s w (a, at, h) =
    let same = one_answer (action_of two.reading_plan two.reading_run.meaning two.data_input s 0) a two.uses.0 at refl in
    of_uses b (subst (λ a. IsBlobOfAction a b) same h)

and_then : (b : List ℕ) (s next : State) (e : Event) (es : List Event) → happens two.reading_plan two.reading_run.meaning two.data_input s e ≡ Some next
    → (IsBlobOfStart two.reading_plan two.reading_run.meaning two.data_input s e b → Contains all_blobs b) → (IsBlobOfStarts two.reading_plan two.reading_run.meaning two.data_input next es b → Contains all_blobs b)
    → IsBlobOfStarts two.reading_plan two.reading_run.meaning two.data_input s (e ∷ es) b → Contains all_blobs b
and_then b s next e es is first rest (inl h) = first h
and_then b s next e es is first rest (inr (mid, at, h)) =
    let same = one_answer (happens two.reading_plan two.reading_run.meaning two.data_input s e) mid next at is in
    rest (subst (λ s. IsBlobOfStarts two.reading_plan two.reading_run.meaning two.data_input s es b) same h)

of_run : (b : List ℕ) → IsBlobOfStarts two.reading_plan two.reading_run.meaning two.data_input opening two.reading_run.events b → Contains all_blobs b
unfolding merge
of_run b =
    and_then b opening s1 (start 0 0) (start 0 1 ∷ lose 0 ∷ finish 1 two.uses.1 ∷ []) refl (starts b opening 0)
    (and_then b s1 s2 (start 0 1) (lose 0 ∷ finish 1 two.uses.1 ∷ []) refl (starts b s1 1)
    (and_then b s2 s3 (lose 0) (finish 1 two.uses.1 ∷ []) refl (λ none. absurd none)
    (and_then b s3 two.reading_run.now (finish 1 two.uses.1) [] refl (λ none. absurd none) (λ none. absurd none))))

concerned : (b : List ℕ) → IsConcerned two.reading_blobs two.reading_plan two.reading_run.meaning two.data_input (two.uses ∷ []) two.reading_run.events b → Contains all_blobs b
concerned b (inl (inl (d, is))) = kept_one b (keeping_one two.reading_kept d b is)
concerned b (inl (inr (t, valid, (d, is), m, inside, at))) = absurd (no_trees t (keeping_one two.reading_kept d (tree_bytes t) is))
concerned b (inr (inl h)) = of_input b h
concerned b (inr (inr (inl (pair, (zero, lt, at), inl h)))) = of_uses b (subst (λ (z : ActionMeaning × Outcome). IsBlobOfAction z.0 b) (sym at) h)
concerned b (inr (inr (inl (pair, (zero, lt, at), inr h)))) = made_by_uses b (subst (λ (z : ActionMeaning × Outcome). IsBlobOfOutcome z.1 b) (sym at) h)
concerned b (inr (inr (inl (pair, (suc k, lt, at), h)))) = absurd (omega (arith, lt))
concerned b (inr (inr (inr h))) = of_run b h

pub runs : RunsFrom two.reading_blobs two.results two.input_digest two.reading_plan (two.use_action_digest ∷ []) two.reading_run
runs = record {
  ordered = is_source.0;
  from = is_source.1;
  keeps = record { fits = fits; table = table; agrees = agrees; apart = λ x y c d e. none_clash x y (concerned x c) (concerned y d) e; happened = is_run };
}
