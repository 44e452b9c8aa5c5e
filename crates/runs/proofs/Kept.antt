-- The result of an outcome keeps the rules of a result, and stands for the outcome.
use Rattle.std.proofs.Common.{◌≡◌, ℕ, List, [], ◌∷◌, ◌++◌, Result, Ok, suc, ◌+◌, ◌<◌, Bool, length, drop, get_or, refl, sym, ap, subst, ◌∙◌, append_assoc, arith, add-one, drop-cons}
use Rattle.std.specs.Prelude.{ℤ, Err, IfOk, map, Some, Contains}
use Rattle.std.specs.List.{AllByRecursion}
use Rattle.std.specs.declared.cmp.Ordering.TheVariants.{Less}
use Rattle.blob_digest.specs.Digest.{DigestValue, digest_of}
use Rattle.messages.specs.Order.{bytes_cmp}
use Rattle.messages.specs.Path.{IsPath, AreApart, IsApart, path_text}
use Rattle.messages.specs.Tree.{TreeValue, tree_bytes}
use Rattle.actions.specs.declared.outcome.Output.{Output}
use Rattle.actions.specs.declared.outcome.Output.TheVariants as outputs
use Rattle.action_messages.specs.ActionResult.{ActionResultValue, IsActionResult, file_paths, directory_paths, symlink_paths, AreOutputPaths, action_result_of}
use Rattle.action_messages.specs.Ascending.{IsAscendingBy}
use Rattle.actions.specs.Outcome.{OutputValue, OutcomeValue, IsOutcome, paths_of_outputs, output_value, outputs_in}
use Rattle.action_messages.specs.OutputDirectory.{OutputDirectoryValue}
use Rattle.action_messages.specs.OutputFile.{OutputFileValue}
use Rattle.action_messages.specs.OutputSymlink.{OutputSymlinkValue}
use Rattle.action_messages.specs.Overlaps.{texts_of}
use Rattle.action_messages.specs.Stream.{StreamValue}
use Rattle.action_messages.specs.Outputs.{RecordedValue, file, directory, link, recorded_path, files_among, directories_among, links_among}
use Rattle.actions.specs.Recorded.{StandForAll, IsRecorded}
use Rattle.action_messages.proofs.Results.{paths_given}
use Rattle.actions.proofs.TreeLookups.{behind}
use Rattle.actions.proofs.Rooms.{inserted_apart}
use Rattle.blob_source.specs.Source.{Blobs, IsBlobUnder}
use Rattle.verifier.proofs.FreshRuns.{one_answer}
use Rattle.runs.specs.Engine.{FinishedValue, EngineValue, IsEngine, HoldValidTrees, finished_in}
use Rattle.runs.specs.Served.{HoldsTrees, IsKeptOf}
use Rattle.runs.proofs.Places.{has_one, taken_within}
use Rattle.runs.specs.Results.{recorded_output, recorded_outputs, result_of}
use Rattle.verifier.specs.Holding.{no_stream}

-- ---- the paths of each kind

files_in : (P : List (List ℕ) → Type 0) (xs : List RecordedValue) → AllByRecursion P (map recorded_path xs) → AllByRecursion P (file_paths (files_among xs))
files_in P [] h = tt
files_in P (file x ∷ xs) h = (h.0, files_in P xs h.1)
files_in P (directory x ∷ xs) h = files_in P xs h.1
files_in P (link x ∷ xs) h = files_in P xs h.1

directories_in : (P : List (List ℕ) → Type 0) (xs : List RecordedValue) → AllByRecursion P (map recorded_path xs) → AllByRecursion P (directory_paths (directories_among xs))
directories_in P [] h = tt
directories_in P (file x ∷ xs) h = directories_in P xs h.1
directories_in P (directory x ∷ xs) h = (h.0, directories_in P xs h.1)
directories_in P (link x ∷ xs) h = directories_in P xs h.1

links_in : (P : List (List ℕ) → Type 0) (xs : List RecordedValue) → AllByRecursion P (map recorded_path xs) → AllByRecursion P (symlink_paths (links_among xs))
links_in P [] h = tt
links_in P (file x ∷ xs) h = links_in P xs h.1
links_in P (directory x ∷ xs) h = links_in P xs h.1
links_in P (link x ∷ xs) h = (h.0, links_in P xs h.1)

-- what holds of the texts of paths, said of the paths
of_texts : (P : List ℕ → Type 0) (ps : List (List (List ℕ))) → AllByRecursion P (texts_of ps) → AllByRecursion (λ p. P (path_text p)) ps
of_texts P [] h = tt
of_texts P (p ∷ ps) h = (h.0, of_texts P ps h.1)

to_texts : (P : List ℕ → Type 0) (ps : List (List (List ℕ))) → AllByRecursion (λ p. P (path_text p)) ps → AllByRecursion P (texts_of ps)
to_texts P [] h = tt
to_texts P (p ∷ ps) h = (h.0, to_texts P ps h.1)

-- a path before all others comes before those of one kind
abbrev After : List (List ℕ) → List (List ℕ) → Type 0
After p q = bytes_cmp (path_text p) (path_text q) ≡ Less

after_texts : (p : List (List ℕ)) (ps : List (List (List ℕ))) → AllByRecursion (λ t. bytes_cmp (path_text p) t ≡ Less) (texts_of ps) → AllByRecursion (After p) ps
after_texts p ps h = of_texts (λ t. bytes_cmp (path_text p) t ≡ Less) ps h

texts_after : (p : List (List ℕ)) (ps : List (List (List ℕ))) → AllByRecursion (After p) ps → AllByRecursion (λ t. bytes_cmp (path_text p) t ≡ Less) (texts_of ps)
texts_after p ps h = to_texts (λ t. bytes_cmp (path_text p) t ≡ Less) ps h

files_ascend : (xs : List RecordedValue) → IsAscendingBy bytes_cmp (texts_of (map recorded_path xs)) → IsAscendingBy bytes_cmp (texts_of (file_paths (files_among xs)))
files_ascend [] h = tt
files_ascend (file x ∷ xs) h = (texts_after x.path (file_paths (files_among xs)) (files_in (After x.path) xs (after_texts x.path (map recorded_path xs) h.0)), files_ascend xs h.1)
files_ascend (directory x ∷ xs) h = files_ascend xs h.1
files_ascend (link x ∷ xs) h = files_ascend xs h.1

directories_ascend : (xs : List RecordedValue) → IsAscendingBy bytes_cmp (texts_of (map recorded_path xs)) → IsAscendingBy bytes_cmp (texts_of (directory_paths (directories_among xs)))
directories_ascend [] h = tt
directories_ascend (file x ∷ xs) h = directories_ascend xs h.1
directories_ascend (directory x ∷ xs) h = (texts_after x.path (directory_paths (directories_among xs)) (directories_in (After x.path) xs (after_texts x.path (map recorded_path xs) h.0)), directories_ascend xs h.1)
directories_ascend (link x ∷ xs) h = directories_ascend xs h.1

links_ascend : (xs : List RecordedValue) → IsAscendingBy bytes_cmp (texts_of (map recorded_path xs)) → IsAscendingBy bytes_cmp (texts_of (symlink_paths (links_among xs)))
links_ascend [] h = tt
links_ascend (file x ∷ xs) h = links_ascend xs h.1
links_ascend (directory x ∷ xs) h = links_ascend xs h.1
links_ascend (link x ∷ xs) h = (texts_after x.path (symlink_paths (links_among xs)) (links_in (After x.path) xs (after_texts x.path (map recorded_path xs) h.0)), links_ascend xs h.1)

-- all kinds, one after another
abbrev paths_by_kind : List RecordedValue → List (List (List ℕ))
paths_by_kind xs = file_paths (files_among xs) ++ directory_paths (directories_among xs) ++ symlink_paths (links_among xs)

all_join : (P : List (List ℕ) → Type 0) (ps qs : List (List (List ℕ))) → AllByRecursion P ps → AllByRecursion P qs → AllByRecursion P (ps ++ qs)
all_join P [] qs h k = k
all_join P (p ∷ ps) qs h k = (h.0, all_join P ps qs h.1 k)

by_kind : (P : List (List ℕ) → Type 0) (xs : List RecordedValue) → AllByRecursion P (map recorded_path xs) → AllByRecursion P (paths_by_kind xs)
by_kind P xs h =
    all_join P (file_paths (files_among xs) ++ directory_paths (directories_among xs)) (symlink_paths (links_among xs))
    (all_join P (file_paths (files_among xs)) (directory_paths (directories_among xs)) (files_in P xs h) (directories_in P xs h)) (links_in P xs h)

kinds_apart : (xs : List RecordedValue) → AreApart (map recorded_path xs) → AreApart (paths_by_kind xs)
kinds_apart [] h = tt
kinds_apart (file x ∷ xs) h = (by_kind (IsApart x.path) xs h.0, kinds_apart xs h.1)
kinds_apart (directory x ∷ xs) h =
    let f = file_paths (files_among xs) in
    let d = directory_paths (directories_among xs) in
    let l = symlink_paths (links_among xs) in
    let back = append_assoc f d l in
    subst AreApart (sym (append_assoc f (x.path ∷ d) l))
    (inserted_apart x.path f (d ++ l) (subst AreApart back (kinds_apart xs h.1)) (subst (AllByRecursion (IsApart x.path)) back (by_kind (IsApart x.path) xs h.0)))
kinds_apart (link x ∷ xs) h = inserted_apart x.path (file_paths (files_among xs) ++ directory_paths (directories_among xs)) (symlink_paths (links_among xs)) (kinds_apart xs h.1) (by_kind (IsApart x.path) xs h.0)

-- ---- the result of an outcome

path_kept : (p : List (List ℕ)) (o : OutputValue) → recorded_path (recorded_output p o) ≡ p
path_kept p (outputs.File d executable) = refl
path_kept p (outputs.Link target) = refl
path_kept p (outputs.Tree t) = refl

pub paths_kept : (es : List (List (List ℕ) × OutputValue)) → map recorded_path (recorded_outputs es) ≡ paths_of_outputs es
paths_kept [] = refl
paths_kept (e ∷ es) = λ i. path_kept e.0 e.1 i ∷ paths_kept es i

pub kept_paths : (o : OutcomeValue) → IsOutcome o → AreOutputPaths (file_paths (result_of o).files) (directory_paths (result_of o).directories) (symlink_paths (result_of o).symlinks)
kept_paths o is =
    let xs = recorded_outputs o.outputs in
    let same = sym (paths_kept o.outputs) in
    let up = subst (λ ps. IsAscendingBy bytes_cmp (texts_of ps)) same is.ascend in
    record {
      files_ascend = files_ascend xs up;
      directories_ascend = directories_ascend xs up;
      symlinks_ascend = links_ascend xs up;
      apart = kinds_apart xs (subst AreApart same is.apart);
    }

-- the paths of each kind are valid
pub kept_valid : (o : OutcomeValue) → IsOutcome o → AllByRecursion IsPath (file_paths (result_of o).files) × AllByRecursion IsPath (directory_paths (result_of o).directories) × AllByRecursion IsPath (symlink_paths (result_of o).symlinks)
kept_valid o is =
    let xs = recorded_outputs o.outputs in
    let all = subst (AllByRecursion IsPath) (sym (paths_kept o.outputs)) is.paths in
    (files_in IsPath xs all, directories_in IsPath xs all, links_in IsPath xs all)

-- ---- what it serves

pub result_checked : (o : OutcomeValue) → IsOutcome o → (r : ActionResultValue) → r ≡ result_of o → action_result_of r ≡ Ok r
unfolding action_result_of
result_checked o is r same =
    let k = kept_valid o is in
    let given = paths_given (file_paths (result_of o).files) (directory_paths (result_of o).directories) (symlink_paths (result_of o).symlinks) k.0 k.1 k.2 (kept_paths o is) in
    subst (λ q. action_result_of q ≡ Ok q) (sym same) (rw given refl)

stand_for : (B : Blobs) (es : List (List (List ℕ) × OutputValue)) → HoldValidTrees es
    → ((p : List (List ℕ)) (t : TreeValue) → Contains es (p, outputs.Tree t) → IsBlobUnder B (digest_of (tree_bytes t)) (tree_bytes t))
    → StandForAll B (recorded_outputs es) es
stand_for B [] valid held = refl
stand_for B ((p, outputs.File d executable) ∷ es) valid held = (refl, refl, stand_for B es valid.1 (λ q t at. held q t (behind (p, outputs.File d executable) es (q, outputs.Tree t) at)))
stand_for B ((p, outputs.Link target) ∷ es) valid held = (refl, refl, stand_for B es valid.1 (λ q t at. held q t (behind (p, outputs.Link target) es (q, outputs.Tree t) at)))
stand_for B ((p, outputs.Tree u) ∷ es) valid held =
    (refl, (u, record { valid = valid.0; blob = held p u (0, omega arith, refl) }, refl), stand_for B es valid.1 (λ q t at. held q t (behind (p, outputs.Tree u) es (q, outputs.Tree t) at)))

pub recorded_again : (B : Blobs) (o : OutcomeValue) → IsOutcome o → HoldValidTrees o.outputs → HoldsTrees B o → IsRecorded B (result_of o) o
recorded_again B o is valid held = record {
  valid = is;
  exit_code = refl;
  recorded = recorded_outputs o.outputs;
  ordered = record {
    ascend = subst (λ ps. IsAscendingBy bytes_cmp (texts_of ps)) (sym (paths_kept o.outputs)) is.ascend;
    files = refl;
    directories = refl;
    symlinks = refl;
  };
  outputs = stand_for B o.outputs valid held;
}

-- ---- the outputs of one kind, one after another

pub files_cons : (r : RecordedValue) (rs : List RecordedValue) → files_among (r ∷ rs) ≡ files_among (r ∷ []) ++ files_among rs
files_cons (file x) rs = refl
files_cons (directory x) rs = refl
files_cons (link x) rs = refl

pub directories_cons : (r : RecordedValue) (rs : List RecordedValue) → directories_among (r ∷ rs) ≡ directories_among (r ∷ []) ++ directories_among rs
directories_cons (file x) rs = refl
directories_cons (directory x) rs = refl
directories_cons (link x) rs = refl

pub links_cons : (r : RecordedValue) (rs : List RecordedValue) → links_among (r ∷ rs) ≡ links_among (r ∷ []) ++ links_among rs
links_cons (file x) rs = refl
links_cons (directory x) rs = refl
links_cons (link x) rs = refl

pub kind_next : {A Y : Type 0} (K : List RecordedValue → List Y) → ((r : RecordedValue) (rs : List RecordedValue) → K (r ∷ rs) ≡ K (r ∷ []) ++ K rs)
    → (xs : List (List (List ℕ) × Output A)) (i : ℕ) (x : List (List ℕ) × Output A) → i < length xs → x ≡ get_or xs i x → (acc out : List Y)
    → acc ++ K (recorded_outputs (outputs_in (drop i xs))) ≡ K (recorded_outputs (outputs_in xs)) → out ≡ acc ++ K (recorded_output x.0 (output_value x.1) ∷ [])
    → out ++ K (recorded_outputs (outputs_in (drop (i + 1) xs))) ≡ K (recorded_outputs (outputs_in xs))
kind_next {A} {Y} K cons xs i x lt is acc out so more =
    let split : drop i xs ≡ x ∷ drop (i + 1) xs = rw (add-one, drop-cons xs i x lt) (ap (λ k. k ∷ drop (suc i) xs) (sym is)) in
    let r = recorded_output x.0 (output_value x.1) in
    let rest = recorded_outputs (outputs_in (drop (i + 1) xs)) in
    let here : K (recorded_outputs (outputs_in (drop i xs))) ≡ K (r ∷ []) ++ K rest = ap (λ ys. K (recorded_outputs (outputs_in ys))) split ∙ cons r rest in
    ap (λ o. o ++ K rest) more ∙ append_assoc acc (K (r ∷ [])) (K rest) ∙ ap (λ ys. acc ++ ys) (sym here) ∙ so

pub as_it_was : {Y : Type 0} (acc ys : List Y) → ys ≡ [] → acc ≡ acc ++ ys
as_it_was [] ys none = sym none
as_it_was (x ∷ acc) ys none = ap (λ l. x ∷ l) (as_it_was acc ys none)

-- what isn't of the kind
pub no_file : {A : Type 0} (p : List (List ℕ)) (o : Output A) → ((d : DigestValue) (executable : Bool) → o ≡ outputs.File d executable → ⊥) → files_among (recorded_output p (output_value o) ∷ []) ≡ []
no_file p (outputs.File d executable) not = absurd (not d executable refl)
no_file p (outputs.Link target) not = refl
no_file p (outputs.Tree t) not = refl

pub no_directory : {A : Type 0} (p : List (List ℕ)) (o : Output A) → ((t : TreeValue) → o ≡ outputs.Tree t → ⊥) → directories_among (recorded_output p (output_value o) ∷ []) ≡ []
no_directory p (outputs.File d executable) not = refl
no_directory p (outputs.Link target) not = refl
no_directory p (outputs.Tree t) not = absurd (not t refl)

pub no_link : {A : Type 0} (p : List (List ℕ)) (o : Output A) → ((target : List ℕ) → o ≡ outputs.Link target → ⊥) → links_among (recorded_output p (output_value o) ∷ []) ≡ []
no_link p (outputs.File d executable) not = refl
no_link p (outputs.Link target) not = absurd (not target refl)
no_link p (outputs.Tree t) not = refl

-- ---- what is kept of a step

pub step_kept : (e : EngineValue) (i : ℕ) (f : FinishedValue) → IsEngine e → finished_in i e ≡ Some f → (r : ActionResultValue) → r ≡ result_of f.outcome → IsActionResult r → IsKeptOf e i r
step_kept e i f engine at r is valid = record {
  held = λ B C g there held trees.
      let same : f ≡ g = one_answer (finished_in i e) f g at there in
      let o = g.outcome in
      let taken = taken_of g there in
      let of_g : r ≡ result_of g.outcome = is ∙ ap (λ (h : FinishedValue). result_of h.outcome) same in
      (r, held, o, subst (λ q. IsRecorded B q o) (sym of_g) (recorded_again B o taken.0 taken.1 trees), record { exit_code = refl; outputs = refl });
}
  where
    taken_of : (g : FinishedValue) → finished_in i e ≡ Some g → IsOutcome g.outcome × HoldValidTrees g.outcome.outputs
    taken_of g there =
        let within : i < length e.finished = taken_within e.finished i g there in
        let c = has_one e.commands i (subst (λ n. i < n) (engine.count ∙ sym engine.stand.commands_count) within) in
        let t = engine.taken i g c.0 there c.1 in
        (t.valid, t.outputs)

-- what was collected of an outcome's outputs are the fields of its result
pub collected : (o : OutcomeValue) (es : List (List (List ℕ) × OutputValue)) (fs : List OutputFileValue) (ds : List OutputDirectoryValue) (ls : List OutputSymlinkValue) (code : ℤ) (out err : StreamValue) → es ≡ o.outputs
    → fs ≡ files_among (recorded_outputs es) → ds ≡ directories_among (recorded_outputs es) → ls ≡ links_among (recorded_outputs es) → code ≡ o.exit_code → out ≡ no_stream → err ≡ no_stream
    → ◌≡◌ {A = ActionResultValue} (record { files = fs; directories = ds; symlinks = ls; exit_code = code; stdout = out; stderr = err }) (result_of o)
collected o es fs ds ls code out err same files directories links ended stdout stderr = λ i. record {
  files = (files ∙ ap (λ xs. files_among (recorded_outputs xs)) same) i;
  directories = (directories ∙ ap (λ xs. directories_among (recorded_outputs xs)) same) i;
  symlinks = (links ∙ ap (λ xs. links_among (recorded_outputs xs)) same) i;
  exit_code = ended i;
  stdout = stdout i;
  stderr = stderr i;
}

pub kept_answer : {E : Type 0} (r : Result ActionResultValue E) (e : EngineValue) (i : ℕ) (f : FinishedValue) → IsEngine e → finished_in i e ≡ Some f → IfOk r (λ made. made ≡ result_of f.outcome) → IfOk r IsActionResult → IfOk r (IsKeptOf e i)
kept_answer (Ok made) e i f engine at is valid = step_kept e i f engine at made is valid
kept_answer (Err why) e i f engine at is valid = tt
