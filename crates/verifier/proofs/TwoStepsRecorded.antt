-- The build of two steps is as recorded.
use Rattle.std.proofs.Common.{◌≡◌, ◌≢◌, ◌≤◌, length, ℕ, zero, suc, Bool, true, ltb, ◌&&◌, List, [], ◌∷◌, ◌++◌, Some, refl, ap, sym, subst, arith, inl, inr, false, lit<}
use Rattle.std.specs.List.{list_all}
use Rattle.std.proofs.lemmas.Bool.{ltb-true}
use Rattle.wire.specs.Bytes.{IsBytes, AreBytes}
use Rattle.wire.specs.Varint.{varint, groups}
use Rattle.action_messages.specs.OutputFile.{output_file_bytes}
use Rattle.action_messages.specs.OutputDirectory.{output_directory_bytes}
use Rattle.action_messages.proofs.Written.{canon_reads}
use Rattle.verifier.specs.Holding.{HoldsResult}
use Rattle.std.specs.Prelude.{FitsSigned, pos, codes, slice_get}
use Rattle.std.specs.Int.{w32}
use Rattle.hex.specs.Hex.{encode_with, decode_pairs}
use Rattle.sha2.specs.Sha256.{compress, digest_bytes, first_words, hash_after, rounds, schedule, sha256}
use Rattle.wire.specs.Varint.{groups, varint}
use Rattle.blob_digest.specs.Digest.{DigestValue, IsDigest, digest_of}
use Rattle.messages.specs.declared.node.Node.TheVariants as nodes
use Rattle.messages.specs.Directory.{directory_bytes}
use Rattle.messages.specs.Tree.{IsTree, tree_bytes}
use Rattle.actions.specs.declared.outcome.Output.TheVariants as outputs
use Rattle.action_messages.specs.Action.{with_input, IsAction, action_bytes}
use Rattle.action_messages.specs.ActionResult.{IsActionResult, action_result_bytes}
use Rattle.actions.specs.Outcome.{OutcomeValue, tree_node}
use Rattle.action_messages.specs.Outputs.{file, directory}
use Rattle.actions.specs.Recorded.{IsRecorded}
use Rattle.action_messages.specs.Command.{IsCommand, command_bytes}
use Rattle.tree.specs.Tree.{Tree, empty, leaf, folder, single, whole}
use Rattle.tree.specs.Form.{NodeValue, form, root, top}
use Rattle.blob_source.specs.Source.{Blobs}
use Rattle.blob_source.specs.Told.{IsTold}
use Rattle.tree.proofs.TreeDigests.{IsDigest-digest_of}
use Rattle.plan.specs.Values.{output}
use Rattle.tree.specs.Graft.{graft, HaveApartTargets}
use Rattle.tree.specs.Merging.{in_source, in_tree, NodeWithin, MergeLines, nodes_in, merged}
use Rattle.tree.specs.Stage.{◌and_then◌}
use Rattle.tree.proofs.MergeApart.{graft_passes, all_named, are_apart}
use Rattle.verifier.specs.AsRecorded.{IsAsRecorded, IsPlanAsRecorded}
use Rattle.verifier.specs.Together.{StandsAtOrigin}
use Rattle.verifier.specs.TwoSteps as two
use Rattle.verifier.proofs.TwoSteps.{gen_action_named, gen_command_valid, gen_command_named, gen_frame_valid, gen_frame_named, gen_tree_valid, input_named, newline_named, out_path, res_path, sources_named, tree_named, use_action_named, use_command_valid, use_command_named, use_frame_valid, use_frame_named}

-- ---- what the source has

gen_action_kept : two.blobs two.gen_action_digest ≡ Some (action_bytes (with_input two.gen.0.frame two.sources))
unfolding two.gen_action_digest decode_pairs
gen_action_kept = refl

use_action_kept : two.blobs two.use_action_digest ≡ Some (action_bytes (with_input two.uses.0.frame two.input_digest))
unfolding two.gen_action_digest two.use_action_digest decode_pairs
use_action_kept = refl

gen_command_kept : two.blobs two.gen_command_digest ≡ Some (command_bytes two.gen.0.command)
unfolding two.gen_action_digest two.use_action_digest two.gen_command_digest decode_pairs
gen_command_kept = refl

use_command_kept : two.blobs two.use_command_digest ≡ Some (command_bytes two.uses.0.command)
unfolding two.gen_action_digest two.use_action_digest two.gen_command_digest two.use_command_digest decode_pairs
use_command_kept = refl

pub tree_kept : two.blobs two.tree_digest ≡ Some (tree_bytes two.gen_tree)
unfolding two.gen_action_digest two.use_action_digest two.gen_command_digest two.use_command_digest two.tree_digest decode_pairs encode_with
tree_kept = refl

pub gen_result_kept : two.results two.gen_action_digest ≡ Some (action_result_bytes two.gen_result)
unfolding two.gen_action_digest decode_pairs
gen_result_kept = refl

pub use_result_kept : two.results two.use_action_digest ≡ Some (action_result_bytes two.use_result)
unfolding two.gen_action_digest two.use_action_digest decode_pairs
use_result_kept = refl

-- a digest with another size than 0 is not that of no bytes
pub sized : (d : DigestValue) (n : ℕ) → d.size ≡ suc n → d ≡ digest_of [] → ⊥
unfolding digest_of
sized d n is e = let size = ap (λ (x : DigestValue). x.size) e in absurd (omega (arith, size, is))

stored : {M : Type 0} (keeps : M → Type 0) (spells : M → List ℕ) (B : Blobs) (d : DigestValue) (m : M) → keeps m → digest_of (spells m) ≡ d → (d ≡ digest_of [] → ⊥) → B d ≡ Some (spells m) → IsTold keeps spells B d m
stored keeps spells B d m valid named some kept = record { valid = valid; blob = record { held = inr (some, sym kept); right = named } }

pub gen_action_told : IsTold IsAction action_bytes two.blobs two.gen_action_digest (with_input two.gen.0.frame two.sources)
unfolding two.gen_action_digest
gen_action_told =
    stored IsAction action_bytes two.blobs two.gen_action_digest (with_input two.gen.0.frame two.sources) (record { frame = gen_frame_valid; input = subst IsDigest sources_named (IsDigest-digest_of (top (form empty))) })
    gen_action_named (sized two.gen_action_digest 137 refl) gen_action_kept

pub use_action_in : (B : Blobs) → B two.use_action_digest ≡ Some (action_bytes (with_input two.uses.0.frame two.input_digest)) → IsTold IsAction action_bytes B two.use_action_digest (with_input two.uses.0.frame two.input_digest)
unfolding two.use_action_digest
use_action_in B kept =
    stored IsAction action_bytes B two.use_action_digest (with_input two.uses.0.frame two.input_digest) (record { frame = use_frame_valid; input = subst IsDigest input_named (IsDigest-digest_of (top (form two.data_input))) })
    use_action_named (sized two.use_action_digest 139 refl) kept

pub use_action_told : IsTold IsAction action_bytes two.blobs two.use_action_digest (with_input two.uses.0.frame two.input_digest)
use_action_told = use_action_in two.blobs use_action_kept

pub gen_command_told : IsTold IsCommand command_bytes two.blobs two.gen_command_digest two.gen.0.command
unfolding two.gen_command_digest
gen_command_told = stored IsCommand command_bytes two.blobs two.gen_command_digest two.gen.0.command gen_command_valid gen_command_named (sized two.gen_command_digest 15 refl) gen_command_kept

pub use_command_in : (B : Blobs) → B two.use_command_digest ≡ Some (command_bytes two.uses.0.command) → IsTold IsCommand command_bytes B two.use_command_digest two.uses.0.command
unfolding two.use_command_digest
use_command_in B kept = stored IsCommand command_bytes B two.use_command_digest two.uses.0.command use_command_valid use_command_named (sized two.use_command_digest 15 refl) kept

pub use_command_told : IsTold IsCommand command_bytes two.blobs two.use_command_digest two.uses.0.command
use_command_told = use_command_in two.blobs use_command_kept

pub tree_told : IsTold IsTree tree_bytes two.blobs two.tree_digest two.gen_tree
unfolding two.tree_digest
tree_told = stored IsTree tree_bytes two.blobs two.tree_digest two.gen_tree gen_tree_valid tree_named (sized two.tree_digest 76 refl) tree_kept

-- ---- the results

zero_fits : FitsSigned w32 (pos 0)
zero_fits = omega arith

gen_result_valid : IsActionResult two.gen_result
gen_result_valid = record {
  files = tt;
  directories = (record { path = out_path; tree = subst IsDigest tree_named (IsDigest-digest_of (tree_bytes two.gen_tree)) }, tt);
  symlinks = tt;
  paths = record { files_ascend = tt; directories_ascend = (tt, tt); symlinks_ascend = tt; apart = (tt, tt) };
  exit_code = zero_fits;
  stdout = record { digest = tt };
  stderr = record { digest = tt };
}

pub use_result_valid : IsActionResult two.use_result
use_result_valid = record {
  files = (record { path = res_path; digest = subst IsDigest newline_named (IsDigest-digest_of (10 ∷ [])) }, tt);
  directories = tt;
  symlinks = tt;
  paths = record { files_ascend = (tt, tt); directories_ascend = tt; symlinks_ascend = tt; apart = (tt, tt) };
  exit_code = zero_fits;
  stdout = record { digest = tt };
  stderr = record { digest = tt };
}

-- ---- the results are read again

pub bytes_fit : (bytes : List ℕ) → list_all (λ b. ltb b 256) bytes ≡ true → IsBytes bytes
bytes_fit [] e i = lit< tt
bytes_fit (b ∷ bytes) e zero = ltb-true b 256 (both (ltb b 256) (list_all (λ c. ltb c 256) bytes) e).0
  where
    both : (x y : Bool) → (x && y) ≡ true → (x ≡ true) × (y ≡ true)
    both true y h = (refl, h)
    both false y h = absurd cc
bytes_fit (b ∷ bytes) e (suc i) = bytes_fit bytes (rest (ltb b 256) (list_all (λ c. ltb c 256) bytes) e) i
  where
    rest : (x y : Bool) → (x && y) ≡ true → y ≡ true
    rest true y h = h
    rest false y h = absurd cc

gen_result_bytes : AreBytes (action_result_bytes two.gen_result)
unfolding action_result_bytes output_directory_bytes varint groups two.tree_digest decode_pairs encode_with
gen_result_bytes = (lit< tt, bytes_fit (action_result_bytes two.gen_result) refl)

pub use_result_bytes : AreBytes (action_result_bytes two.use_result)
unfolding action_result_bytes output_file_bytes varint groups two.newline_digest decode_pairs encode_with
use_result_bytes = (lit< tt, bytes_fit (action_result_bytes two.use_result) refl)

pub gen_result_held : HoldsResult two.results two.gen_action_digest two.gen_result
gen_result_held = (action_result_bytes two.gen_result, gen_result_kept, canon_reads (action_result_bytes two.gen_result) two.gen_result gen_result_bytes gen_result_valid refl)

pub use_result_held : HoldsResult two.results two.use_action_digest two.use_result
use_result_held = (action_result_bytes two.use_result, use_result_kept, canon_reads (action_result_bytes two.use_result) two.use_result use_result_bytes use_result_valid refl)

-- what the results stand for
abbrev pub gen_outcome : OutcomeValue
gen_outcome = record { exit_code = pos 0; outputs = (codes "out" ∷ [], outputs.Tree two.gen_tree) ∷ [] }

abbrev pub use_outcome : OutcomeValue
use_outcome = record { exit_code = pos 0; outputs = (codes "res" ∷ [], outputs.File two.newline_digest false) ∷ [] }

pub gen_recorded : IsRecorded two.blobs two.gen_result gen_outcome
gen_recorded = record {
  valid = record { paths = (out_path, tt); ascend = (tt, tt); apart = (tt, tt) };
  exit_code = refl;
  recorded = directory (record { path = codes "out" ∷ []; tree = two.tree_digest }) ∷ [];
  ordered = record { ascend = (tt, tt); files = refl; directories = refl; symlinks = refl };
  outputs = (refl, (two.gen_tree, tree_told, refl), refl);
}

pub use_recorded_in : (B : Blobs) → IsRecorded B two.use_result use_outcome
use_recorded_in B = record {
  valid = record { paths = (res_path, tt); ascend = (tt, tt); apart = (tt, tt) };
  exit_code = refl;
  recorded = file (record { path = codes "res" ∷ []; digest = two.newline_digest; executable = false }) ∷ [];
  ordered = record { ascend = (tt, tt); files = refl; directories = refl; symlinks = refl };
  outputs = (refl, refl, refl);
}

pub use_recorded : IsRecorded two.blobs two.use_result use_outcome
use_recorded = use_recorded_in two.blobs

-- ---- the steps and the root

pub root_named : root (graft ((codes "result" ∷ [], nodes.File two.newline_digest false) ∷ [])) ≡ two.claim
unfolding two.newline_digest two.claim first_words schedule rounds compress hash_after digest_bytes sha256 digest_of groups varint directory_bytes encode_with decode_pairs
root_named = refl

-- a line alone is grafted
pub alone : (blobs : Blobs) (target : List (List ℕ)) (x : NodeWithin) → target ≢ [] → length target ≤ 64 → (merged blobs ((target, x) ∷ [])).passes (graft (nodes_in ((target, x) ∷ [])))
unfolding merged
alone blobs target x some few = let apart : HaveApartTargets ((target, x) ∷ []) = (some, tt, tt) in graft_passes blobs 64 [] ((target, x) ∷ []) (all_named ((target, x) ∷ []) apart) (are_apart ((target, x) ∷ []) apart) (few, tt)

pub nothing_merges : (B : Blobs) → (merged B []).passes empty
unfolding merged
nothing_merges B = graft_passes B 64 [] [] (all_named [] tt) (are_apart [] tt) tt

abbrev pub made_file : NodeWithin
made_file = record { node = nodes.File (digest_of (codes "123456789")) false; within = in_tree two.gen_tree }

abbrev data_lines : MergeLines
data_lines = (codes "data" ∷ codes "x" ∷ [], made_file) ∷ []

data_merges : (merged two.blobs data_lines).passes (graft (nodes_in data_lines))
data_merges = alone two.blobs (codes "data" ∷ codes "x" ∷ []) made_file (λ e. cc) (omega arith)

abbrev pub result_file : NodeWithin
result_file = record { node = nodes.File two.newline_digest false; within = in_source }

abbrev pub result_lines : MergeLines
result_lines = (codes "result" ∷ [], result_file) ∷ []

pub result_merges : (B : Blobs) → (merged B result_lines).passes (graft (nodes_in result_lines))
result_merges B = alone B (codes "result" ∷ []) result_file (λ e. cc) (omega arith)

-- the file that `use` makes
pub stands_result : (B : Blobs) (sources : DigestValue) (os : List OutcomeValue) (j : ℕ) → slice_get os j ≡ Some use_outcome → StandsAtOrigin B sources (slice_get os) (output j (codes "res" ∷ [])) result_file
stands_result B sources os j at = record {
  node = (use_outcome, at, inl ((codes "res" ∷ [], outputs.File two.newline_digest false), (0, omega arith, refl), [], refl, refl));
  within = (use_outcome, at, ((codes "res" ∷ [], outputs.File two.newline_digest false), (0, omega arith, refl), ([], refl), refl));
}

pub gen_passes : (sources : DigestValue) → IsAsRecorded two.blobs two.results sources [] (record { name = codes "gen"; frame = two.gen_frame_digest; lines = [] }) two.gen_action_digest gen_outcome
gen_passes sources = record {
  action = with_input two.gen.0.frame two.sources;
  command = two.gen.0.command;
  nodes = [];
  tree = empty;
  result = two.gen_result;
  action_told = gen_action_told;
  may_be_cached = refl;
  frame = gen_frame_named;
  command_told = gen_command_told;
  resolved = refl;
  put_together = nothing_merges two.blobs;
  input = sources_named;
  held = gen_result_held;
  exit_code = refl;
  recorded = gen_recorded;
  listed = ((0, omega arith, refl), tt);
}

-- the file that `gen` makes
pub stands_made : (sources : DigestValue) → StandsAtOrigin two.blobs sources (slice_get (gen_outcome ∷ [])) (output 0 (codes "out" ∷ codes "a" ∷ [])) made_file
stands_made sources = record {
  node = (gen_outcome, refl, inl ((codes "out" ∷ [], outputs.Tree two.gen_tree), (0, omega arith, refl), codes "a" ∷ [], refl, refl));
  within = (gen_outcome, refl, ((codes "out" ∷ [], outputs.Tree two.gen_tree), (0, omega arith, refl), (codes "a" ∷ [], refl), refl));
}

pub use_passes : (sources : DigestValue) → IsAsRecorded two.blobs two.results sources (gen_outcome ∷ []) (record { name = codes "use"; frame = two.use_frame_digest; lines = record { target = codes "data" ∷ codes "x" ∷ []; origin = output 0 (codes "out" ∷ codes "a" ∷ []) } ∷ [] }) two.use_action_digest use_outcome
use_passes sources = record {
  action = with_input two.uses.0.frame two.input_digest;
  command = two.uses.0.command;
  nodes = data_lines;
  tree = graft (nodes_in data_lines);
  result = two.use_result;
  action_told = use_action_told;
  may_be_cached = refl;
  frame = use_frame_named;
  command_told = use_command_told;
  resolved = (made_file, stands_made sources, [], refl, refl);
  put_together = data_merges;
  input = input_named;
  held = use_result_held;
  exit_code = refl;
  recorded = use_recorded;
  listed = ((0, omega arith, refl), tt);
}

-- no line reads the sources
pub as_recorded : (sources : DigestValue) → IsPlanAsRecorded two.blobs two.results sources two.plan two.recorded two.claim
as_recorded sources = record {
  outcomes = gen_outcome ∷ use_outcome ∷ [];
  steps = (gen_outcome, gen_passes sources, (use_outcome, use_passes sources, refl));
  root = record {
    nodes = result_lines;
    tree = graft (nodes_in result_lines);
    resolved = (result_file, stands_result two.blobs sources (gen_outcome ∷ use_outcome ∷ []) 1 refl, [], refl, refl);
    put_together = result_merges two.blobs;
    same = root_named;
  };
}

-- ---- so it is in the plan whose lines meet

abbrev made_directory : NodeWithin
made_directory = record { node = tree_node two.gen_tree; within = in_tree two.gen_tree }

abbrev meeting_lines : MergeLines
meeting_lines = (codes "all" ∷ [], made_directory) ∷ (codes "all" ∷ codes "b" ∷ [], result_file) ∷ []

-- the lines below `all`, once the directory is read
abbrev children : MergeLines
children = (codes "a" ∷ [], made_file) ∷ []

abbrev behind : MergeLines
behind = (codes "b" ∷ [], result_file) ∷ []

abbrev with_result : Tree NodeValue
with_result = leaf (codes "a") made_file.node (leaf (codes "b") result_file.node empty)

meeting_merges : (merged two.blobs meeting_lines).passes (folder (codes "all") with_result empty)
unfolding merged ◌and_then◌
meeting_merges = (
  whole with_result,
  (
    tt,
    (tt, (tt, tt)),
    (
      children ++ behind,
      (children, (two.gen_tree.root, record { before = []; behind = []; stands = refl; right = refl; first = tt }, refl), (behind, (behind, refl, ([], refl, refl)), refl)),
      (with_result, (single made_file.node, refl, (leaf (codes "b") result_file.node empty, (single result_file.node, refl, (empty, refl, refl)), refl)), refl),
    ),
  ),
  (empty, refl, refl),
)

meeting_named : root (folder (codes "all") with_result empty) ≡ two.meeting_claim
unfolding two.newline_digest two.meeting_claim first_words schedule rounds compress hash_after digest_bytes sha256 digest_of groups varint directory_bytes encode_with decode_pairs
meeting_named = refl

pub meeting_recorded : IsPlanAsRecorded two.blobs two.results two.sources two.meeting_plan two.recorded two.meeting_claim
meeting_recorded = record {
  outcomes = gen_outcome ∷ use_outcome ∷ [];
  steps = (gen_outcome, gen_passes two.sources, (use_outcome, use_passes two.sources, refl));
  root = record {
    nodes = meeting_lines;
    tree = folder (codes "all") with_result empty;
    resolved = (
      made_directory,
      record {
        node = (gen_outcome, refl, inl ((codes "out" ∷ [], outputs.Tree two.gen_tree), (0, omega arith, refl), [], refl, refl));
        within = (gen_outcome, refl, ((codes "out" ∷ [], outputs.Tree two.gen_tree), (0, omega arith, refl), ([], refl), refl));
      },
      (codes "all" ∷ codes "b" ∷ [], result_file) ∷ [],
      (result_file, stands_result two.blobs two.sources (gen_outcome ∷ use_outcome ∷ []) 1 refl, [], refl, refl),
      refl,
    );
    put_together = meeting_merges;
    same = meeting_named;
  };
}
