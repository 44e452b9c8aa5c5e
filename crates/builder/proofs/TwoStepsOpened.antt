-- The engine of the build of two steps is opened over a store that has the steps' frames too, and the calls lead on over it.
use Rattle.std.proofs.Common.{◌≡◌, ℕ, zero, suc, Bool, true, false, cond, is_eq, List, [], ◌∷◌, ◌++◌, append-nil, Some, refl, ap, sym, subst, arith, inl, inr}
use Rattle.std.specs.Prelude.{◌⊎◌, Contains, codes, map, slice_get}
use Rattle.hex.specs.Hex.{encode_lower, encode_with, decode_pairs}
use Rattle.wire.specs.Record.{Value, Varint, Eight, Bytes, Four, Record, record_with}
use Rattle.wire.specs.Spelling.{spelling, HasFixedSize}
use Rattle.std.specs.List.{AllByRecursion}
use Rattle.canonical.specs.Fields.{element_fields}
use Rattle.blob_digest.specs.Digest.{DigestValue, digest_cmp, digest_of}
use Rattle.messages.specs.Directory.{directory_bytes}
use Rattle.messages.specs.DirectoryNode.{directory_node_bytes}
use Rattle.messages.specs.DirectoryRules.{DirectoryValue}
use Rattle.messages.specs.FileNode.{file_node_bytes}
use Rattle.messages.specs.SymlinkNode.{symlink_node_bytes}
use Rattle.messages.specs.Tree.{TreeValue, tree_bytes}
use Rattle.action_messages.specs.Command.{CommandValue}
use Rattle.action_messages.specs.Frame.{FrameValue, IsFrame, frame_bytes}
use Rattle.blob_source.specs.Source.{Grows}
use Rattle.blob_source.specs.Told.{IsTold}
use Rattle.plan.specs.Values.{output, StepValue}
use Rattle.tree.specs.Lookup.{IsValue}
use Rattle.tree.proofs.Descent.{told_still}
use Rattle.tree.proofs.Listings.{all_join}
use Rattle.tree.proofs.WireRecords.{AreFixed, spelling_injective}
use Rattle.verifier.specs.Headline.{IsDirectoryInTree}
use Rattle.verifier.specs.TwoSteps as two
use Rattle.verifier.proofs.TwoSteps.{gen_frame_valid, gen_frame_named, use_frame_valid, use_frame_named}
use Rattle.verifier.proofs.TwoStepsBlobs.{all_blobs, in_tree, keeping_one, kept_one, tree_spelled}
use Rattle.verifier.proofs.TwoStepsRecorded.{gen_command_told, use_command_told, sized}
use Rattle.runs.specs.Calls.{AreTold, IsOpened, TellsStep}
use Rattle.runs.specs.Engine.{IsEngine}
use Rattle.runs.proofs.Opened.{opened_engine}
use Rattle.worker.specs.Calls.{IsLed, Leads}
use Rattle.worker.specs.Outcomes.{Yields}
use Rattle.worker.specs.TwoSteps as worked
use Rattle.worker.proofs.Goes.{leads_moved, moves_kept}
use Rattle.worker.proofs.TwoStepsBuilt.{is_built}
use Rattle.builder.specs.TwoSteps as store

-- ---- what the store has

keeping_more : (es more : List (DigestValue × List ℕ)) (d : DigestValue) (b : List ℕ) → two.keeping es d ≡ Some b → two.keeping (es ++ more) d ≡ Some b
keeping_more [] more d b is = absurd cc
keeping_more (e ∷ es) more d b is = by (is_eq (digest_cmp d e.0)) is (keeping_more es more d b)
  where
    by : (q : Bool) → cond q (Some e.1) (two.keeping es d) ≡ Some b → (two.keeping es d ≡ Some b → two.keeping (es ++ more) d ≡ Some b) → cond q (Some e.1) (two.keeping (es ++ more) d) ≡ Some b
    by true is rest = is
    by false is rest = rest is

keeping_either : (es more : List (DigestValue × List ℕ)) (d : DigestValue) (b : List ℕ) → two.keeping (es ++ more) d ≡ Some b → (two.keeping es d ≡ Some b) ⊎ (two.keeping more d ≡ Some b)
keeping_either [] more d b is = inr is
keeping_either (e ∷ es) more d b is = by (is_eq (digest_cmp d e.0)) is (keeping_either es more d b)
  where
    by : (q : Bool) → cond q (Some e.1) (two.keeping (es ++ more) d) ≡ Some b → (two.keeping (es ++ more) d ≡ Some b → (two.keeping es d ≡ Some b) ⊎ (two.keeping more d ≡ Some b)) → (cond q (Some e.1) (two.keeping es d) ≡ Some b) ⊎ (two.keeping more d ≡ Some b)
    by true is rest = inl is
    by false is rest = rest is

abbrev frames : List (List ℕ)
frames = frame_bytes two.gen.0.frame ∷ frame_bytes two.uses.0.frame ∷ []

value_is : (b : List ℕ) → IsValue store.telling.blobs b → IsValue two.blobs b ⊎ Contains frames b
value_is b (d, at) = by (keeping_either two.kept_blobs store.kept_frames d b at)
  where
    by : (two.blobs d ≡ Some b) ⊎ (two.keeping store.kept_frames d ≡ Some b) → IsValue two.blobs b ⊎ Contains frames b
    by (inl is) = inl (d, is)
    by (inr is) = inr (keeping_one store.kept_frames d b is)

pub kept_value : (b : List ℕ) → IsValue store.telling.blobs b → Contains all_blobs b
kept_value b v = by (value_is b v)
  where
    by : IsValue two.blobs b ⊎ Contains frames b → Contains all_blobs b
    by (inl kept) = kept_one b kept
    by (inr (zero, lt, e)) = (5, omega arith, e)
    by (inr (suc zero, lt, e)) = (6, omega arith, e)
    by (inr (suc (suc k), lt, e)) = absurd (omega (arith, lt))

pub blobs_grow : Grows two.blobs store.telling.blobs
blobs_grow d b at = keeping_more two.kept_blobs store.kept_frames d b at

-- ---- no frame is a Tree

abbrev HoldsText : Value → Type 0
HoldsText (Bytes text) = Unit {0}
HoldsText v = ⊥

abbrev AllHoldText : List Record → Type 0
AllHoldText rs = AllByRecursion (λ (r : Record). HoldsText r.value) rs

elements_hold : (f : ℕ) (xs : List (List ℕ)) → AllHoldText (element_fields f xs)
elements_hold f [] = tt
elements_hold f (x ∷ xs) = (tt, elements_hold f xs)

text_fixed : (v : Value) → HoldsText v → HasFixedSize v
text_fixed (Bytes text) h = tt
text_fixed (Varint n) h = absurd h
text_fixed (Eight bytes) h = absurd h
text_fixed (Four bytes) h = absurd h

all_fixed : (rs : List Record) → AllHoldText rs → AreFixed rs
all_fixed [] h = tt
all_fixed (r ∷ rs) h = (text_fixed r.value h.0, all_fixed rs h.1)

-- a Digest has a number, and a Directory has none
no_directory : (m : DirectoryValue) (text : List ℕ) (n : ℕ) → spelling (record_with 1 (Bytes text) ∷ record_with 2 (Varint n) ∷ []) ≡ directory_bytes m → ⊥
unfolding directory_bytes
no_directory m text n e =
    let files = element_fields 1 (map file_node_bytes m.files) in
    let directories = element_fields 2 (map directory_node_bytes m.directories) in
    let links = element_fields 3 (map symlink_node_bytes m.symlinks) in
    let Holds : Record → Type 0 = λ r. HoldsText r.value in
    let hold : AllHoldText (files ++ directories ++ links) = all_join Holds (files ++ directories) links (all_join Holds files directories (elements_hold 1 _) (elements_hold 2 _)) (elements_hold 3 _) in
    let same = spelling_injective (record_with 1 (Bytes text) ∷ record_with 2 (Varint n) ∷ []) (files ++ directories ++ links) (tt, (tt, tt)) (all_fixed (files ++ directories ++ links) hold) e in
    (subst AllHoldText (sym same) hold).1.0

-- an Action without an input isn't a Tree, whose root is a Directory
no_tree : (text : List ℕ) (n : ℕ) (t : TreeValue) → spelling (record_with 1 (Bytes (spelling (record_with 1 (Bytes text) ∷ record_with 2 (Varint n) ∷ []))) ∷ []) ≡ tree_bytes t → ⊥
no_tree text n t e =
    let command = spelling (record_with 1 (Bytes text) ∷ record_with 2 (Varint n) ∷ []) in
    let records = tree_spelled t (record_with 1 (Bytes command) ∷ []) (tt, tt) e in
    let first : record_with 1 (Bytes command) ≡ record_with 1 (Bytes (directory_bytes t.root)) = cc in
    let values = ap (λ (r : Record). r.value) first in
    let texts : command ≡ directory_bytes t.root = cc in
    no_directory t.root text n texts

gen_frame_no_tree : (t : TreeValue) → frame_bytes two.gen.0.frame ≡ tree_bytes t → ⊥
unfolding frame_bytes two.gen_command_digest decode_pairs encode_with
gen_frame_no_tree t e = no_tree (encode_lower two.gen_command_digest.hash) 16 t e

use_frame_no_tree : (t : TreeValue) → frame_bytes two.uses.0.frame ≡ tree_bytes t → ⊥
unfolding frame_bytes two.use_command_digest decode_pairs encode_with
use_frame_no_tree t e = no_tree (encode_lower two.use_command_digest.hash) 16 t e

pub tree_value : (b : List ℕ) → IsDirectoryInTree store.telling.blobs b → Contains all_blobs b
tree_value b (t, valid, v, m, inside, is) = by (value_is (tree_bytes t) v)
  where
    by : IsValue two.blobs (tree_bytes t) ⊎ Contains frames (tree_bytes t) → Contains all_blobs b
    by (inl kept) = in_tree b (t, valid, kept, m, inside, is)
    by (inr (zero, lt, e)) = absurd (gen_frame_no_tree t e)
    by (inr (suc zero, lt, e)) = absurd (use_frame_no_tree t e)
    by (inr (suc (suc k), lt, e)) = absurd (omega (arith, lt))

-- ---- the engine is opened

gen_frame_kept : store.telling.blobs two.gen_frame_digest ≡ Some (frame_bytes two.gen.0.frame)
unfolding two.gen_action_digest two.use_action_digest two.gen_command_digest two.use_command_digest two.tree_digest two.gen_frame_digest decode_pairs
gen_frame_kept = refl

use_frame_kept : store.telling.blobs two.use_frame_digest ≡ Some (frame_bytes two.uses.0.frame)
unfolding two.gen_action_digest two.use_action_digest two.gen_command_digest two.use_command_digest two.tree_digest two.gen_frame_digest two.use_frame_digest decode_pairs
use_frame_kept = refl

frame_told : (d : DigestValue) (f : FrameValue) → IsFrame f → digest_of (frame_bytes f) ≡ d → (d ≡ digest_of [] → ⊥) → store.telling.blobs d ≡ Some (frame_bytes f) → IsTold IsFrame frame_bytes store.telling.blobs d f
frame_told d f valid named some kept = record { valid = valid; blob = record { held = inr (some, sym kept); right = named } }

gen_frame_told : IsTold IsFrame frame_bytes store.telling.blobs two.gen_frame_digest two.gen.0.frame
unfolding two.gen_frame_digest
gen_frame_told = frame_told two.gen_frame_digest two.gen.0.frame gen_frame_valid gen_frame_named (sized two.gen_frame_digest 69 refl) gen_frame_kept

use_frame_told : IsTold IsFrame frame_bytes store.telling.blobs two.use_frame_digest two.uses.0.frame
unfolding two.use_frame_digest
use_frame_told = frame_told two.use_frame_digest two.uses.0.frame use_frame_valid use_frame_named (sized two.use_frame_digest 69 refl) use_frame_kept

abbrev gen_step : StepValue
gen_step = record { name = codes "gen"; frame = two.gen_frame_digest; lines = [] }

abbrev use_step : StepValue
use_step = record { name = codes "use"; frame = two.use_frame_digest; lines = record { target = codes "data" ∷ codes "x" ∷ []; origin = output 0 (codes "out" ∷ codes "a" ∷ []) } ∷ [] }

-- what is told of a step
abbrev Means : StepValue → FrameValue → CommandValue → Type 0
Means s f c = TellsStep store.telling.blobs s f c × (f.do_not_cache ≡ false)

means : (s step : StepValue) (f frame : FrameValue) (c command : CommandValue) → step ≡ s → frame ≡ f → command ≡ c → Means step frame command → Means s f c
means s step f frame c command is is_frame is_command h =
    subst (λ (x : StepValue). Means x f c) is (subst (λ (x : FrameValue). Means step x c) is_frame (subst (λ (x : CommandValue). Means step frame x) is_command h))

steps_told : AreTold store.telling.blobs two.plan.steps two.meaning.frames two.meaning.commands
steps_told = record { frames_count = refl; commands_count = refl; each = each }
  where
    each : (i : ℕ) (s : StepValue) (f : FrameValue) (c : CommandValue) → slice_get two.plan.steps i ≡ Some s → slice_get two.meaning.frames i ≡ Some f → slice_get two.meaning.commands i ≡ Some c → Means s f c
    each zero s f c at fs cs =
        let step : gen_step ≡ s = cc in
        let frame : two.gen.0.frame ≡ f = cc in
        let command : two.gen.0.command ≡ c = cc in
        means s gen_step f two.gen.0.frame c two.gen.0.command step frame command (record { frame = gen_frame_told; command = told_still blobs_grow gen_command_told }, refl)
    each (suc zero) s f c at fs cs =
        let step : use_step ≡ s = cc in
        let frame : two.uses.0.frame ≡ f = cc in
        let command : two.uses.0.command ≡ c = cc in
        means s use_step f two.uses.0.frame c two.uses.0.command step frame command (record { frame = use_frame_told; command = told_still blobs_grow use_command_told }, refl)
    each (suc (suc i)) s f c at fs cs = absurd cc

pub is_opened : IsOpened store.telling.blobs two.plan two.sources worked.first
is_opened = record { plan = refl; sources = refl; told = steps_told; none_finished = (refl, (refl, tt)); none_runs = refl }

pub first_valid : IsEngine worked.first
first_valid = opened_engine store.telling.blobs worked.first steps_told (refl, (refl, tt)) refl refl

-- ---- the calls lead on

pub is_led : {A : Type 0} (alloc : A) (y : Yields) → (led : IsLed A y store.telling 1 worked.first worked.last) × (led.calls ≡ worked.calls)
is_led {A} alloc y =
    let built = is_built alloc y in
    let led = built.0.led in
    let moves = moves_kept two.telling store.telling [] (record { blobs = λ d b at right. blobs_grow d b at; results = λ d b at. at; puts = refl }) in
    let leads = leads_moved A y two.telling store.telling [] moves 1 led.calls worked.first worked.last worked.last led.leads refl in
    (record { calls = led.calls; leads = subst (λ cs. Leads A y store.telling 1 cs worked.first worked.last) (append-nil led.calls) leads }, built.1)
