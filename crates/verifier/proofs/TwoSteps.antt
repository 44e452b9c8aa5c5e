-- The build of two steps is valid.
use Rattle.std.proofs.Common.{true, ◌≡◌, ℕ, zero, suc, [], ◌∷◌, Some, refl, ap, sym, ◌∙◌, subst, arith, false}
use Rattle.std.specs.Prelude.{◌≢◌, slice_get, Contains, codes}
use Rattle.std.proofs.lemmas.List.Sums.{AllPass-from_list_all}
use Rattle.std.proofs.lemmas.Slice.Eq.{bytes_eq-Decides}
use Rattle.std.specs.Str.{is_utf8, chars}
use Rattle.hex.specs.Hex.{encode_with, decode_pairs}
use Rattle.sha2.specs.Sha256.{compress, digest_bytes, first_words, hash_after, rounds, schedule, sha256}
use Rattle.wire.specs.Varint.{groups, varint}
use Rattle.blob_digest.specs.Digest.{IsDigest, digest_of}
use Rattle.messages.specs.Directory.{directory_bytes}
use Rattle.messages.specs.Name.{IsName}
use Rattle.messages.specs.Path.{IsPath}
use Rattle.messages.specs.Tree.{IsTree, tree_bytes}
use Rattle.messages.proofs.Names.{IsName-from}
use Rattle.messages.proofs.Paths.{one_name}
use Rattle.action_messages.specs.Action.{with_input, action_bytes}
use Rattle.action_messages.specs.Command.{CommandValue, IsCommand, command_bytes, texts_checked, lists_checked}
use Rattle.action_messages.specs.Frame.{FrameValue, IsFrame, frame_bytes}
use Rattle.action_messages.proofs.Commands.{command_made}
use Rattle.tree.specs.Tree.{empty}
use Rattle.tree.specs.Form.{form, root}
use Rattle.tree.proofs.TreeDigests.{IsDigest-digest_of}
use Rattle.plan.specs.Line.{is_step_name_byte}
use Rattle.plan.specs.Plan.{IsPlan}
use Rattle.plan.specs.Values.{output, StepValue}
use Rattle.verifier.specs.Build.{ActionMeaning, Outcome, IsActionMeaning, IsTreeOutcome, StepFits, MeaningFits, IsTable}
use Rattle.verifier.specs.TwoSteps as two

-- ---- digests

pub gen_command_named : digest_of (command_bytes two.gen.0.command) ≡ two.gen_command_digest
unfolding two.gen_command_digest first_words schedule rounds compress hash_after digest_bytes sha256 digest_of groups varint command_bytes encode_with decode_pairs
gen_command_named = refl

pub use_command_named : digest_of (command_bytes two.uses.0.command) ≡ two.use_command_digest
unfolding two.use_command_digest first_words schedule rounds compress hash_after digest_bytes sha256 digest_of groups varint command_bytes encode_with decode_pairs
use_command_named = refl

pub gen_frame_named : digest_of (frame_bytes two.gen.0.frame) ≡ two.gen_frame_digest
unfolding two.gen_command_digest two.gen_frame_digest first_words schedule rounds compress hash_after digest_bytes sha256 digest_of groups varint frame_bytes encode_with decode_pairs
gen_frame_named = refl

pub use_frame_named : digest_of (frame_bytes two.uses.0.frame) ≡ two.use_frame_digest
unfolding two.use_command_digest two.use_frame_digest first_words schedule rounds compress hash_after digest_bytes sha256 digest_of groups varint frame_bytes encode_with decode_pairs
use_frame_named = refl

pub sources_named : root (form empty) ≡ two.sources
unfolding two.sources first_words schedule rounds compress hash_after digest_bytes sha256 digest_of groups varint directory_bytes encode_with decode_pairs
sources_named = refl

pub input_named : root (form two.data_input) ≡ two.input_digest
unfolding two.input_digest first_words schedule rounds compress hash_after digest_bytes sha256 digest_of groups varint directory_bytes encode_with decode_pairs
input_named = refl

pub gen_action_named : digest_of (action_bytes (with_input two.gen.0.frame two.sources)) ≡ two.gen_action_digest
unfolding two.gen_command_digest two.sources two.gen_action_digest first_words schedule rounds compress hash_after digest_bytes sha256 digest_of groups varint action_bytes encode_with decode_pairs
gen_action_named = refl

pub use_action_named : digest_of (action_bytes (with_input two.uses.0.frame two.input_digest)) ≡ two.use_action_digest
unfolding two.use_command_digest two.input_digest two.use_action_digest first_words schedule rounds compress hash_after digest_bytes sha256 digest_of groups varint action_bytes encode_with decode_pairs
use_action_named = refl

pub tree_named : digest_of (tree_bytes two.gen_tree) ≡ two.tree_digest
unfolding two.tree_digest first_words schedule rounds compress hash_after digest_bytes sha256 digest_of groups varint tree_bytes directory_bytes encode_with decode_pairs
tree_named = refl

pub newline_named : digest_of (10 ∷ []) ≡ two.newline_digest
unfolding two.newline_digest first_words schedule rounds compress hash_after digest_bytes sha256 digest_of decode_pairs
newline_named = refl

-- ---- the rules

out_name : IsName (codes "out")
unfolding is_utf8 chars lib.Utf8.encode
out_name = IsName-from (codes "out") refl

res_name : IsName (codes "res")
unfolding is_utf8 chars lib.Utf8.encode
res_name = IsName-from (codes "res") refl

pub out_path : IsPath (codes "out" ∷ [])
out_path = one_name (codes "out") out_name

pub res_path : IsPath (codes "res" ∷ [])
res_path = one_name (codes "res") res_name

pub gen_command_valid : IsCommand two.gen.0.command
unfolding is_utf8 chars lib.Utf8.encode texts_checked lists_checked
gen_command_valid = command_made two.gen.0.command (refl, tt) tt tt (out_path, tt) refl refl

pub use_command_valid : IsCommand two.uses.0.command
unfolding is_utf8 chars lib.Utf8.encode texts_checked lists_checked
use_command_valid = command_made two.uses.0.command (refl, tt) tt tt (res_path, tt) refl refl

pub gen_frame_valid : IsFrame two.gen.0.frame
gen_frame_valid = record { command = subst IsDigest gen_command_named (IsDigest-digest_of (command_bytes two.gen.0.command)); platform = record { properties = tt; ascend = tt } }

pub use_frame_valid : IsFrame two.uses.0.frame
use_frame_valid = record { command = subst IsDigest use_command_named (IsDigest-digest_of (command_bytes two.uses.0.command)); platform = record { properties = tt; ascend = tt } }

a_name : IsName (codes "a")
unfolding is_utf8 chars lib.Utf8.encode
a_name = IsName-from (codes "a") refl

pub gen_tree_valid : IsTree two.gen_tree
gen_tree_valid = record {
  root = record {
    files = (record { name = a_name; digest = IsDigest-digest_of (codes "123456789") }, tt);
    directories = tt;
    symlinks = tt;
    names = record { files_ascend = (tt, tt); directories_ascend = tt; symlinks_ascend = tt; files_and_directories = (tt, tt); files_and_symlinks = (tt, tt); directories_and_symlinks = tt };
  };
  children = tt;
  held = tt;
  named = tt;
}

-- ---- the meaning and the table

pub fits : MeaningFits two.plan two.meaning
fits = record { steps = by }
  where
    by : (i : ℕ) (step : StepValue) → slice_get two.plan.steps i ≡ Some step
        → (frame : FrameValue) × (command : CommandValue) × (slice_get two.meaning.frames i ≡ Some frame) × (slice_get two.meaning.commands i ≡ Some command) × StepFits step.frame frame command
    by zero step at =
        let same : ◌≡◌ {A = StepValue} (record { name = codes "gen"; frame = two.gen_frame_digest; lines = [] }) step = cc in
        let frame = ap (λ (s : StepValue). s.frame) same in
        (two.gen.0.frame, two.gen.0.command, refl, refl, record { frame_valid = gen_frame_valid; command_valid = gen_command_valid; frame_digest = gen_frame_named ∙ frame; command_digest = sym gen_command_named })
    by (suc zero) step at =
        let same : ◌≡◌ {A = StepValue} (record { name = codes "use"; frame = two.use_frame_digest; lines = record { target = codes "data" ∷ codes "x" ∷ []; origin = output 0 (codes "out" ∷ codes "a" ∷ []) } ∷ [] }) step = cc in
        let frame = ap (λ (s : StepValue). s.frame) same in
        (two.uses.0.frame, two.uses.0.command, refl, refl, record { frame_valid = use_frame_valid; command_valid = use_command_valid; frame_digest = use_frame_named ∙ frame; command_digest = sym use_command_named })
    by (suc (suc i)) step at = absurd cc

pub gen_valid : IsActionMeaning two.gen.0 × IsTreeOutcome two.gen.1
gen_valid = (
  record { frame = gen_frame_valid; command = gen_command_valid; named = sym gen_command_named; input = tt },
  record { apart = ((λ e. absurd cc), tt, tt); outputs = ((tt, tt), tt) },
)

pub use_valid : IsActionMeaning two.uses.0 × IsTreeOutcome two.uses.1
use_valid = (
  record { frame = use_frame_valid; command = use_command_valid; named = sym use_command_named; input = (tt, (tt, tt), tt) },
  record { apart = ((λ e. absurd cc), tt, tt); outputs = (tt, tt) },
)

-- the two actions have different inputs
apart_actions : two.gen.0 ≡ two.uses.0 → ⊥
apart_actions e = let inputs = ap (λ (a : ActionMeaning). a.input) e in absurd cc

pub table_valid : IsTable two.table
table_valid = record { same = same; actions = each }
  where
    same : (a : ActionMeaning) (o p : Outcome) → Contains two.table (a, o) → Contains two.table (a, p) → o ≡ p
    same a o p (zero, lt, e) (zero, mt, f) = sym (ap (λ (z : ActionMeaning × Outcome). z.1) e) ∙ ap (λ (z : ActionMeaning × Outcome). z.1) f
    same a o p (zero, lt, e) (suc zero, mt, f) = absurd (apart_actions (ap (λ (z : ActionMeaning × Outcome). z.0) e ∙ sym (ap (λ (z : ActionMeaning × Outcome). z.0) f)))
    same a o p (zero, lt, e) (suc (suc k), mt, f) = absurd (omega (arith, mt))
    same a o p (suc zero, lt, e) (zero, mt, f) = absurd (apart_actions (ap (λ (z : ActionMeaning × Outcome). z.0) f ∙ sym (ap (λ (z : ActionMeaning × Outcome). z.0) e)))
    same a o p (suc zero, lt, e) (suc zero, mt, f) = sym (ap (λ (z : ActionMeaning × Outcome). z.1) e) ∙ ap (λ (z : ActionMeaning × Outcome). z.1) f
    same a o p (suc zero, lt, e) (suc (suc k), mt, f) = absurd (omega (arith, mt))
    same a o p (suc (suc j), lt, e) c = absurd (omega (arith, lt))

    each : (a : ActionMeaning) (o : Outcome) → Contains two.table (a, o) → IsActionMeaning a × IsTreeOutcome o
    each a o (zero, lt, e) = subst (λ (z : ActionMeaning × Outcome). IsActionMeaning z.0 × IsTreeOutcome z.1) e gen_valid
    each a o (suc zero, lt, e) = subst (λ (z : ActionMeaning × Outcome). IsActionMeaning z.0 × IsTreeOutcome z.1) e use_valid
    each a o (suc (suc k), lt, e) = absurd (omega (arith, lt))

-- ---- the plan is valid

pub data_name : IsName (codes "data")
unfolding is_utf8 chars lib.Utf8.encode
data_name = IsName-from (codes "data") refl

x_name : IsName (codes "x")
unfolding is_utf8 chars lib.Utf8.encode
x_name = IsName-from (codes "x") refl

result_name : IsName (codes "result")
unfolding is_utf8 chars lib.Utf8.encode
result_name = IsName-from (codes "result") refl

other_name : codes "gen" ≢ codes "use"
other_name e = let same : false ≡ true = (bytes_eq-Decides (codes "gen") (codes "use")).1 e in cc

pub plan_valid : IsPlan two.plan
plan_valid = record {
  few = omega arith;
  steps = (
    record {
      name = record { some = omega arith; short = omega arith; bytes = AllPass-from_list_all is_step_name_byte (codes "gen") refl };
      new = tt;
      frame = subst IsDigest gen_frame_named (IsDigest-digest_of (frame_bytes two.gen.0.frame));
      lines = record { few = omega arith; each = tt };
    },
    (
      record {
        name = record { some = omega arith; short = omega arith; bytes = AllPass-from_list_all is_step_name_byte (codes "use") refl };
        new = (other_name, tt);
        frame = subst IsDigest use_frame_named (IsDigest-digest_of (frame_bytes two.uses.0.frame));
        lines = record {
          few = omega arith;
          each = (
            record {
              target = record { some = omega arith; few = omega arith; each = (data_name, (x_name, tt)) };
              origin = (omega arith, record { some = omega arith; few = omega arith; each = (out_name, (a_name, tt)) });
            },
            tt,
          );
        };
      },
      tt,
    ),
  );
  root_lines = record { few = omega arith; each = (record { target = one_name (codes "result") result_name; origin = (omega arith, res_path) }, tt) };
  apart = (λ one. tt, (λ one. (tt, tt), tt));
  root_apart = λ one. (tt, tt);
}

-- ---- so is the plan whose lines meet

pub all_name : IsName (codes "all")
unfolding is_utf8 chars lib.Utf8.encode
all_name = IsName-from (codes "all") refl

b_name : IsName (codes "b")
unfolding is_utf8 chars lib.Utf8.encode
b_name = IsName-from (codes "b") refl

pub meeting_valid : IsPlan two.meeting_plan
meeting_valid = record {
  few = plan_valid.few;
  steps = plan_valid.steps;
  root_lines = record {
    few = omega arith;
    each = (
      record { target = one_name (codes "all") all_name; origin = (omega arith, out_path) },
      (record { target = record { some = omega arith; few = omega arith; each = (all_name, (b_name, tt)) }; origin = (omega arith, res_path) }, tt),
    );
  };
  apart = (λ one. tt, (λ one. (tt, tt), tt));
  root_apart = λ one. absurd cc;
}
