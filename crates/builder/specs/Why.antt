-- Why a build was refused, in words: the place, and the blob, the path or the exit code that was
-- refused there. A path is spelled as plans spell it, so the text is one line.
use Rattle.std.specs.Prelude.{ℕ, List, ◌∷◌, ◌++◌, codes}
use Rattle.std.specs.Fmt.{signed_decimal}
use Rattle.blob_digest.specs.Digest.{DigestValue}
use Rattle.blob_digest.specs.Text.{digest_text}
use Rattle.plan.specs.Escape.{escaped_path}
use Rattle.plan.specs.Values.{StepValue}
use Rattle.runs.specs.declared.error.OpenError.{OpenError}
use Rattle.runs.specs.declared.error.OpenError.TheVariants as opening
use Rattle.runs.specs.declared.error.RunsError.{RunsError}
use Rattle.runs.specs.declared.error.RunsError.TheVariants as runs
use Rattle.tree.specs.declared.error.TreeError.{TreeError}
use Rattle.tree.specs.declared.error.TreeError.TheVariants as tree
use Rattle.worker.specs.declared.error.StepRefusal.{StepRefusal}
use Rattle.worker.specs.declared.error.StepRefusal.TheVariants as refusals
use Rattle.worker.specs.declared.laid.LayoutError.{LayoutError}
use Rattle.worker.specs.declared.laid.LayoutError.TheVariants as layouts
use Rattle.worker.specs.declared.runner.RunError.{RunError}
use Rattle.worker.specs.declared.runner.RunError.TheVariants as children
use Rattle.builder.specs.declared.error.BuildPlanError.{BuildPlanError}
use Rattle.builder.specs.declared.error.BuildPlanError.TheVariants as errors
use Rattle.builder.specs.declared.fault.Place.{Place}
use Rattle.builder.specs.Lines.{place_text}

-- what is wrong with a blob
abbrev pub about_blob : DigestValue → List ℕ → List ℕ
about_blob digest fault = codes "blob " ++ (digest_text digest ++ 32 ∷ fault)

-- what is wrong with what stands at a path, after the word for its kind
abbrev pub about_path : List ℕ → List (List ℕ) → List ℕ → List ℕ
about_path kind path fault = kind ++ 32 ∷ (escaped_path path ++ 32 ∷ fault)

abbrev pub tree_words : {A : Type 0} → TreeError A → List ℕ
tree_words (tree.Absent path) = about_path (codes "path") path (codes "is missing")
tree_words (tree.BlobMissing digest) = about_blob digest (codes "is missing")
tree_words (tree.BlobWrong digest) = about_blob digest (codes "has other bytes")
tree_words (tree.BlobMalformed digest) = about_blob digest (codes "is malformed")
tree_words (tree.TooDeep path) = about_path (codes "directory") path (codes "is too deep")
tree_words (tree.Conflict path) = about_path (codes "path") path (codes "has conflicting lines")
tree_words tree.Fetch = codes "the store failed"
tree_words tree.Memory = codes "out of memory"

abbrev pub opening_words : {A : Type 0} → OpenError A → List ℕ
opening_words (opening.Source i error) = tree_words error
opening_words (opening.DoNotCache i) = codes "the result isn't to be kept"
opening_words opening.Memory = codes "out of memory"

abbrev pub runs_words : {A : Type 0} → RunsError A → List ℕ
runs_words runs.NotReady = codes "a step that is read hasn't finished"
runs_words runs.NoSuchJob = codes "no such job runs"
runs_words (runs.ExitCode code) = codes "exit code " ++ signed_decimal code
runs_words runs.Disagrees = codes "the step, or one with the same action, has another outcome"
runs_words (runs.Unlisted path) = about_path (codes "output") path (codes "is unlisted")
runs_words (runs.Origin path) = about_path (codes "origin") path (codes "is missing")
runs_words (runs.Source error) = tree_words error
runs_words (runs.Conflict path) = about_path (codes "path") path (codes "has conflicting lines")
runs_words runs.Full = codes "4096 jobs run"
runs_words runs.Memory = codes "out of memory"

abbrev pub layout_words : {A : Type 0} → LayoutError A → List ℕ
layout_words (layouts.Source error) = tree_words error
layout_words (layouts.LinkInput path) = about_path (codes "input") path (codes "is a symbolic link")
layout_words layouts.Memory = codes "out of memory"

abbrev pub child_words : {A : Type 0} → RunError A → List ℕ
child_words children.NotAbsolute = codes "the program has no absolute path"
child_words (children.Device program cause) = codes "the process failed"
child_words (children.BadOutput path) = about_path (codes "path") path (codes "is no output")
child_words children.Memory = codes "out of memory"

abbrev pub refusal_words : {A : Type 0} → StepRefusal A → List ℕ
refusal_words (refusals.Engine error) = runs_words error
refusal_words (refusals.Layout error) = layout_words error
refusal_words (refusals.Run error) = child_words error
refusal_words refusals.Fetch = codes "the store failed"
refusal_words refusals.Memory = codes "out of memory"

abbrev pub error_words : {A : Type 0} → BuildPlanError A → List ℕ
error_words (errors.Opening error) = opening_words error
error_words (errors.Step error) = refusal_words error.refusal
error_words (errors.Root error) = runs_words error

-- the place, a colon, and the words
abbrev pub why_text : {A : Type 0} → List StepValue → Place → BuildPlanError A → List ℕ
why_text steps place error = place_text steps place ++ (codes ": " ++ error_words error)
