-- The build of two steps, and once more where the second step made an executable file, are two builds of one plan.
use Rattle.std.proofs.Common.{◌≡◌, ◌≢◌, ℕ, zero, suc, true, false, List, [], ◌∷◌, Option, Some, refl, ap, sym, ◌∙◌, subst, arith, inl, inr, lit<}
use Rattle.std.specs.Prelude.{pos, codes, slice_get, Contains}
use Rattle.hex.specs.Hex.{encode_with, decode_pairs}
use Rattle.sha2.specs.Sha256.{compress, digest_bytes, first_words, hash_after, rounds, schedule, sha256}
use Rattle.wire.specs.Bytes.{AreBytes}
use Rattle.wire.specs.Varint.{groups, varint}
use Rattle.blob_digest.specs.Digest.{DigestValue, digest_of}
use Rattle.messages.specs.declared.node.Node.TheVariants as nodes
use Rattle.messages.specs.Directory.{directory_bytes}
use Rattle.messages.specs.Tree.{tree_bytes}
use Rattle.actions.specs.declared.outcome.Output.TheVariants as outputs
use Rattle.actions.specs.Outcome.{OutcomeValue}
use Rattle.action_messages.specs.Action.{ActionValue, IsAction, with_input, action_bytes}
use Rattle.action_messages.specs.ActionResult.{ActionResultValue, IsActionResult, action_result_bytes}
use Rattle.action_messages.specs.Frame.{frame_bytes}
use Rattle.action_messages.specs.OutputFile.{output_file_bytes}
use Rattle.action_messages.specs.Outputs.{file}
use Rattle.action_messages.proofs.Written.{canon_reads}
use Rattle.actions.specs.Recorded.{IsRecorded}
use Rattle.actions.proofs.EncodedOnce.{action_bytes_injective}
use Rattle.actions.proofs.TreeBytes.{tree_bytes_some}
use Rattle.blob_source.specs.Source.{IsUnder}
use Rattle.blob_source.specs.Told.{IsTold}
use Rattle.plan.specs.Values.{output, StepValue}
use Rattle.tree.specs.Form.{NodeValue, form, top, root}
use Rattle.tree.specs.Tree.{Name, empty}
use Rattle.tree.specs.Graft.{graft}
use Rattle.tree.specs.Lookup.{IsValue}
use Rattle.tree.specs.Merging.{in_source, NodeWithin, MergeLines, nodes_in}
use Rattle.verifier.specs.AsRecorded.{IsAsRecorded, IsPlanAsRecorded}
use Rattle.verifier.specs.Holding.{HoldsResult}
use Rattle.verifier.specs.StepChecks.{AreListed}
use Rattle.verifier.specs.Together.{StandsAtOrigin}
use Rattle.verifier.specs.TwoBuilds.{HasOutput, IsAlike, IsUnlike, IsDirectoryTold, IsFrameTold, AreTwoBuilds}
use Rattle.verifier.specs.TwoSteps as two
use Rattle.verifier.proofs.StepsOnce.{told_once}
use Rattle.verifier.proofs.TwoSteps.{res_path}
use Rattle.verifier.proofs.TwoStepsBlobs.{all_blobs, none_clash, kept_one, in_tree, same_blob}
use Rattle.verifier.proofs.TwoStepsRecorded.{as_recorded, bytes_fit, use_result_valid, gen_action_told, use_action_told, gen_result_kept, gen_result_held, gen_recorded, gen_outcome, use_outcome, gen_passes, use_passes, alone, use_result_held, use_recorded}

-- ---- what was recorded

gen_kept : two.rerun.results two.gen_action_digest ≡ Some (action_result_bytes two.gen_result)
unfolding two.gen_action_digest decode_pairs
gen_kept = refl

use_kept : two.rerun.results two.use_action_digest ≡ Some (action_result_bytes two.rerun_result)
unfolding two.gen_action_digest two.use_action_digest decode_pairs
use_kept = refl

result_valid : IsActionResult two.rerun_result
result_valid =
    let f = use_result_valid.files.0 in
    record {
      files = (record { path = f.path; digest = f.digest }, tt);
      directories = tt;
      symlinks = tt;
      paths = record { files_ascend = (tt, tt); directories_ascend = tt; symlinks_ascend = tt; apart = (tt, tt) };
      exit_code = use_result_valid.exit_code;
      stdout = record { digest = tt };
      stderr = record { digest = tt };
    }

result_bytes : AreBytes (action_result_bytes two.rerun_result)
unfolding action_result_bytes output_file_bytes varint groups two.newline_digest decode_pairs encode_with
result_bytes = (lit< tt, bytes_fit (action_result_bytes two.rerun_result) refl)

gen_held : HoldsResult two.rerun.results two.gen_action_digest two.gen_result
gen_held = (gen_result_held.0, gen_kept ∙ sym gen_result_kept ∙ gen_result_held.1, gen_result_held.2)

use_held : HoldsResult two.rerun.results two.use_action_digest two.rerun_result
use_held = (action_result_bytes two.rerun_result, use_kept, canon_reads (action_result_bytes two.rerun_result) two.rerun_result result_bytes result_valid refl)

abbrev rerun_outcome : OutcomeValue
rerun_outcome = record { exit_code = pos 0; outputs = (codes "res" ∷ [], outputs.File two.newline_digest true) ∷ [] }

rerun_recorded : IsRecorded two.blobs two.rerun_result rerun_outcome
rerun_recorded = record {
  valid = record { paths = (res_path, tt); ascend = (tt, tt); apart = (tt, tt) };
  exit_code = refl;
  recorded = file (record { path = codes "res" ∷ []; digest = two.newline_digest; executable = true }) ∷ [];
  ordered = record { ascend = (tt, tt); files = refl; directories = refl; symlinks = refl };
  outputs = (refl, refl, refl);
}

-- ---- the steps and the root

-- a step of which another result is held
with_result : (before : List OutcomeValue) (s : StepValue) (d : DigestValue) (v w : OutcomeValue) (h : IsAsRecorded two.blobs two.results two.sources before s d v) (r : ActionResultValue)
    → HoldsResult two.rerun.results d r → r.exit_code ≡ pos 0 → IsRecorded two.blobs r w → AreListed h.command w → IsAsRecorded two.blobs two.rerun.results two.sources before s d w
with_result before s d v w h r held code recorded listed = record {
  action = h.action;
  command = h.command;
  nodes = h.nodes;
  tree = h.tree;
  result = r;
  action_told = h.action_told;
  may_be_cached = h.may_be_cached;
  frame = h.frame;
  command_told = h.command_told;
  resolved = h.resolved;
  put_together = h.put_together;
  input = h.input;
  held = held;
  exit_code = code;
  recorded = recorded;
  listed = listed;
}

abbrev executable : NodeWithin
executable = record { node = nodes.File two.newline_digest true; within = in_source }

abbrev lines : MergeLines
lines = (codes "result" ∷ [], executable) ∷ []

stands : StandsAtOrigin two.blobs two.sources (slice_get (gen_outcome ∷ rerun_outcome ∷ [])) (output 1 (codes "res" ∷ [])) executable
stands = record {
  node = (rerun_outcome, refl, inl ((codes "res" ∷ [], outputs.File two.newline_digest true), (0, omega arith, refl), [], refl, refl));
  within = (rerun_outcome, refl, ((codes "res" ∷ [], outputs.File two.newline_digest true), (0, omega arith, refl), ([], refl), refl));
}

claim_named : root (graft (nodes_in lines)) ≡ two.rerun_claim
unfolding two.newline_digest two.rerun_claim first_words schedule rounds compress hash_after digest_bytes sha256 digest_of groups varint directory_bytes encode_with decode_pairs
claim_named = refl

rerun_as_recorded : IsPlanAsRecorded two.blobs two.rerun.results two.sources two.plan two.recorded two.rerun_claim
rerun_as_recorded =
    let gen = gen_passes two.sources in
    let use_step = use_passes two.sources in
    record {
      outcomes = gen_outcome ∷ rerun_outcome ∷ [];
      steps = (
        gen_outcome,
        with_result [] _ two.gen_action_digest gen_outcome gen_outcome gen two.gen_result gen_held refl gen_recorded gen.listed,
        (rerun_outcome, with_result (gen_outcome ∷ []) _ two.use_action_digest use_outcome rerun_outcome use_step two.rerun_result use_held refl rerun_recorded use_step.listed, refl),
      );
      root = record {
        nodes = lines;
        tree = graft (nodes_in lines);
        resolved = (executable, stands, [], refl, refl);
        put_together = alone two.blobs (codes "result" ∷ []) executable (λ e. cc) (omega arith);
        same = claim_named;
      };
    }

-- ---- the blobs that are told

directory_among : (b : List ℕ) → IsDirectoryTold two.blobs b → Contains all_blobs b
unfolding directory_bytes
directory_among b (m, is, inl (d, told)) = by told.blob.held
  where
    by : IsUnder two.blobs d (Some (directory_bytes m)) → Contains all_blobs b
    by (inl h) = let none : directory_bytes m ≡ [] = (let both : ◌≡◌ {A = Option (List ℕ)} (Some (directory_bytes m)) (Some []) = h.1 in cc) in same_blob (top (form empty)) b (7, omega arith, refl) (is ∙ none)
    by (inr h) = kept_one b (d, sym h.1 ∙ ap (λ x. Some x) (sym is))
directory_among b (m, is, inr (d, t, told, here)) = in_tree b (t, told.valid, by told.blob.held, m, here, is)
  where
    by : IsUnder two.blobs d (Some (tree_bytes t)) → IsValue two.blobs (tree_bytes t)
    by (inl h) = absurd (tree_bytes_some t (let both : ◌≡◌ {A = Option (List ℕ)} (Some (tree_bytes t)) (Some []) = h.1 in cc))
    by (inr h) = (d, sym h.1)

-- the frame of a recorded Action is one of two
frame_among : (b : List ℕ) → IsFrameTold two.blobs two.recorded b → Contains all_blobs b
frame_among b (d, (zero, lt, at), action, told, is) =
    let same = told_once IsAction action_bytes action_bytes_injective two.blobs two.gen_action_digest action (with_input two.gen.0.frame two.sources) (subst (λ d. IsTold IsAction action_bytes two.blobs d action) (sym at) told) gen_action_told in
    same_blob (frame_bytes two.gen.0.frame) b (5, omega arith, refl) (is ∙ ap (λ (a : ActionValue). frame_bytes a.frame) same)
frame_among b (d, (suc zero, lt, at), action, told, is) =
    let same = told_once IsAction action_bytes action_bytes_injective two.blobs two.use_action_digest action (with_input two.uses.0.frame two.input_digest) (subst (λ d. IsTold IsAction action_bytes two.blobs d action) (sym at) told) use_action_told in
    same_blob (frame_bytes two.uses.0.frame) b (6, omega arith, refl) (is ∙ ap (λ (a : ActionValue). frame_bytes a.frame) same)
frame_among b (d, (suc (suc k), lt, at), action, told, is) = absurd (omega (arith, lt))

-- ---- the two builds

pub are_two_builds : AreTwoBuilds two.telling two.rerun two.sources two.plan two.recorded two.recorded two.claim two.rerun_claim
are_two_builds = record {
  first = as_recorded two.sources;
  second = rerun_as_recorded;
  directories = λ x y h k is. none_clash x y (directory_among x h) (directory_among y k) is;
  frames = λ x y h k is. none_clash x y (frame_among x h) (frame_among y k) is;
}

pub claims_differ : two.claim ≢ two.rerun_claim
unfolding two.claim two.rerun_claim decode_pairs
claims_differ is = let sizes : 80 ≡ 82 = ap (λ (d : DigestValue). d.size) is in absurd (omega (arith, sizes))

pub gen_alike : IsAlike two.telling two.rerun two.recorded two.recorded 0
gen_alike = (
  record {
    digest = two.gen_action_digest;
    in_one = refl;
    in_other = refl;
    outcome = gen_outcome;
    another = gen_outcome;
    held = record { result = two.gen_result; held = gen_result_held; recorded = gen_recorded };
    other_held = record { result = two.gen_result; held = gen_held; recorded = gen_recorded };
  },
  record { exit_code = refl; outputs = refl },
)

pub use_unlike : IsUnlike two.telling two.rerun two.recorded two.recorded 1
use_unlike = (
  record {
    digest = two.use_action_digest;
    in_one = refl;
    in_other = refl;
    outcome = use_outcome;
    another = rerun_outcome;
    held = record { result = two.use_result; held = use_result_held; recorded = use_recorded };
    other_held = record { result = two.rerun_result; held = use_held; recorded = rerun_recorded };
  },
  codes "res" ∷ [],
  (nodes.File two.newline_digest false, inl ((0, omega arith, refl), not_there)),
)
  where
    not_there : HasOutput rerun_outcome (codes "res" ∷ []) (nodes.File two.newline_digest false) → ⊥
    not_there (zero, lt, is) =
        let files : ◌≡◌ {A = NodeValue} (nodes.File two.newline_digest true) (nodes.File two.newline_digest false) = ap (λ (r : List Name × NodeValue). r.1) is in
        let bits : true ≡ false = cc in
        cc
    not_there (suc k, lt, is) = omega (arith, lt)
