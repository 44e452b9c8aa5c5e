-- What a result stands for keeps the rules of an outcome.
use Rattle.std.proofs.Common.{◌≡◌, ℕ, List, [], ◌∷◌, ◌++◌, map, refl, sym, ap, subst, ◌∙◌, inl, inr}
use Rattle.std.specs.Prelude.{ℤ}
use Rattle.std.specs.List.{AllByRecursion}
use Rattle.messages.specs.Path.{IsPath, AreApart, IsApart}
use Rattle.blob_source.specs.Source.{Blobs}
use Rattle.action_messages.specs.Overlaps.{texts_of}
use Rattle.messages.specs.Order.{bytes_cmp}
use Rattle.action_messages.specs.Ascending.{IsAscendingBy}
use Rattle.action_messages.specs.OutputFile.{IsOutputFile}
use Rattle.action_messages.specs.OutputDirectory.{IsOutputDirectory}
use Rattle.action_messages.specs.OutputSymlink.{IsOutputSymlink}
use Rattle.action_messages.specs.ActionResult.{ActionResultValue, IsActionResult, file_paths, directory_paths, symlink_paths}
use Rattle.actions.specs.Outcome.{OutputValue, OutcomeValue, IsOutcome, paths_of_outputs}
use Rattle.action_messages.specs.Outputs.{RecordedValue, file, directory, link, recorded_path, files_among, directories_among, links_among, AreOutputs}
use Rattle.actions.specs.Recorded.{StandForAll, IsRecorded}
use Rattle.action_messages.proofs.Apart.{AreApartFrom, firsts, rests, weaker, apart_parts, from_parts}

pub apart_back : (p q : List (List ℕ)) → IsApart p q → IsApart q p
apart_back p q h (inl e) = h (inl (sym e))
apart_back p q h (inr (inl u)) = h (inr (inr u))
apart_back p q h (inr (inr u)) = h (inr (inl u))

valid_paths : (xs : List RecordedValue) → AllByRecursion IsOutputFile (files_among xs) → AllByRecursion IsOutputDirectory (directories_among xs) → AllByRecursion IsOutputSymlink (links_among xs) → AllByRecursion IsPath (map recorded_path xs)
valid_paths [] f d l = tt
valid_paths (file x ∷ xs) f d l = (f.0.path, valid_paths xs f.1 d l)
valid_paths (directory x ∷ xs) f d l = (d.0.path, valid_paths xs f d.1 l)
valid_paths (link x ∷ xs) f d l = (l.0.path, valid_paths xs f d l.1)

-- a path apart from those of each kind
row : (p : List (List ℕ)) (xs : List RecordedValue) → AllByRecursion (IsApart p) (file_paths (files_among xs)) → AllByRecursion (IsApart p) (directory_paths (directories_among xs)) → AllByRecursion (IsApart p) (symlink_paths (links_among xs)) → AllByRecursion (IsApart p) (map recorded_path xs)
row p [] f d l = tt
row p (file x ∷ xs) f d l = (f.0, row p xs f.1 d l)
row p (directory x ∷ xs) f d l = (d.0, row p xs f d.1 l)
row p (link x ∷ xs) f d l = (l.0, row p xs f d l.1)

column : (p : List (List ℕ)) (ps others : List (List (List ℕ))) → AreApartFrom others (p ∷ ps) → AllByRecursion (IsApart p) others
column p ps others h = weaker (λ q. IsApart q p) (IsApart p) (λ q a. apart_back q p a) others (firsts IsApart p ps others h)

all_apart : (xs : List RecordedValue) → AreApart (file_paths (files_among xs)) → AreApart (directory_paths (directories_among xs)) → AreApart (symlink_paths (links_among xs))
    → AreApartFrom (file_paths (files_among xs)) (directory_paths (directories_among xs)) → AreApartFrom (file_paths (files_among xs)) (symlink_paths (links_among xs)) → AreApartFrom (directory_paths (directories_among xs)) (symlink_paths (links_among xs)) → AreApart (map recorded_path xs)
all_apart [] f d l fd fl dl = tt
all_apart (file x ∷ xs) f d l fd fl dl = (row x.path xs f.0 fd.0 fl.0, all_apart xs f.1 d l fd.1 fl.1 dl)
all_apart (directory x ∷ xs) f d l fd fl dl =
    let F = file_paths (files_among xs) in
    let D = directory_paths (directories_among xs) in
    (row x.path xs (column x.path D F fd) d.0 dl.0, all_apart xs f d.1 l (rests IsApart x.path D F fd) fl dl.1)
all_apart (link x ∷ xs) f d l fd fl dl =
    let F = file_paths (files_among xs) in
    let D = directory_paths (directories_among xs) in
    let L = symlink_paths (links_among xs) in
    (row x.path xs (column x.path L F fl) (column x.path L D dl) l.0, all_apart xs f d l.1 fd (rests IsApart x.path L F fl) (rests IsApart x.path L D dl))

-- the paths are those of the result
same_paths : (B : Blobs) (xs : List RecordedValue) (es : List (List (List ℕ) × OutputValue)) → StandForAll B xs es → paths_of_outputs es ≡ map recorded_path xs
same_paths B [] es h = ap paths_of_outputs h
same_paths B (x ∷ xs) [] h = elim h [ ]
same_paths B (x ∷ xs) (e ∷ es) h = λ i. h.0 i ∷ same_paths B xs es h.2 i

-- whatever the exit code, the outputs of a valid result stand for outputs that keep the rules of an outcome
pub valid_outcome : (B : Blobs) (r : ActionResultValue) (xs : List RecordedValue) (es : List (List (List ℕ) × OutputValue)) (code : ℤ) → IsActionResult r → AreOutputs r xs → StandForAll B xs es → IsOutcome (record { exit_code = code; outputs = es })
valid_outcome B r xs es code k all stand =
    let same = same_paths B xs es stand in
    let f = file_paths r.files in
    let d = directory_paths r.directories in
    let l = symlink_paths r.symlinks in
    let whole = apart_parts (f ++ d) l k.paths.apart in
    let both = apart_parts f d whole.0 in
    let crossed = from_parts f d l whole.2 in
    record {
      paths = subst (AllByRecursion IsPath) (sym same) (valid_paths xs (subst (AllByRecursion IsOutputFile) (sym all.files) k.files) (subst (AllByRecursion IsOutputDirectory) (sym all.directories) k.directories) (subst (AllByRecursion IsOutputSymlink) (sym all.symlinks) k.symlinks));
      ascend = subst (λ ps. IsAscendingBy bytes_cmp (texts_of ps)) (sym same) all.ascend;
      apart = subst AreApart (sym same) (all_apart xs
          (subst (λ ys. AreApart (file_paths ys)) (sym all.files) both.0)
          (subst (λ ys. AreApart (directory_paths ys)) (sym all.directories) both.1)
          (subst (λ ys. AreApart (symlink_paths ys)) (sym all.symlinks) whole.1)
          (rw (all.files, all.directories) both.2) (rw (all.files, all.symlinks) crossed.0) (rw (all.directories, all.symlinks) crossed.1));
    }

-- with the exit code of the result it is the outcome that the result stands for
pub recorded_from : (B : Blobs) (r : ActionResultValue) (xs : List RecordedValue) (es : List (List (List ℕ) × OutputValue)) → IsActionResult r → AreOutputs r xs → StandForAll B xs es → IsRecorded B r (record { exit_code = r.exit_code; outputs = es })
recorded_from B r xs es k all stand = record { valid = valid_outcome B r xs es r.exit_code k all stand; exit_code = refl; recorded = xs; ordered = all; outputs = stand }

pub recorded_outcome : (B : Blobs) (r : ActionResultValue) (xs : List RecordedValue) (es : List (List (List ℕ) × OutputValue)) (code : ℤ) (o : OutcomeValue) → IsActionResult r → AreOutputs r xs → StandForAll B xs es → code ≡ r.exit_code → o ≡ record { exit_code = code; outputs = es } → IsRecorded B r o
recorded_outcome B r xs es code o k all stand same is =
    subst (IsRecorded B r) (sym (is ∙ ap (λ c. record { exit_code = c; outputs = es }) same)) (recorded_from B r xs es k all stand)
