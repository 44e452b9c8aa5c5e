-- A result's paths that were checked keep the rules, and paths that keep them are taken.
use Rattle.std.proofs.Common.{◌≡◌, ℕ, false, not, ◌||◌, List, [], ◌∷◌, ◌++◌, None, Result, Ok, Err, refl, sym, subst, ◌∙◌}
use Rattle.std.specs.Prelude.{◌↔◌, IsOk, IfOk}
use Rattle.std.specs.List.{AllByRecursion}
use Rattle.wire.specs.Steps.{Gives}
use Rattle.wire.proofs.Steps.{bind_ok, ok_is}
use Rattle.messages.specs.declared.error.MessageError.{MessageError}
use Rattle.messages.specs.declared.error.MessageError.TheVariants.{SameName}
use Rattle.messages.specs.Order.{bytes_cmp}
use Rattle.messages.proofs.Choices.{or_false, or_neither, not_true}
use Rattle.action_messages.specs.Ascending.{ascending_behind}
use Rattle.action_messages.specs.Overlaps.{some_under, some_cross, texts_of}
use Rattle.action_messages.specs.Fields.{refused_unless}
use Rattle.action_messages.specs.OutputFile.{OutputFileValue, IsOutputFile}
use Rattle.action_messages.specs.OutputDirectory.{OutputDirectoryValue, IsOutputDirectory}
use Rattle.action_messages.specs.OutputSymlink.{OutputSymlinkValue, IsOutputSymlink}
use Rattle.action_messages.specs.ActionResult.{ActionResultValue, file_paths, directory_paths, symlink_paths, AreOutputPaths, IsActionResult, some_overlap, paths_checked, action_result_of}
use Rattle.action_messages.proofs.Sorted.{ascending, ascending_behind-from}
use Rattle.action_messages.proofs.Searches.{bytes_trans}
use Rattle.action_messages.proofs.Apart.{ArePaths, none_under, under_none, apart_within, within_apart, apart_from, from_apart, apart_join, apart_parts, from_join, from_parts}
use Rattle.action_messages.proofs.Commands.{unless_ok}

pub file_paths_valid : (files : List OutputFileValue) → AllByRecursion IsOutputFile files → ArePaths (file_paths files)
file_paths_valid [] h = tt
file_paths_valid (f ∷ files) h = (h.0.path, file_paths_valid files h.1)

pub directory_paths_valid : (directories : List OutputDirectoryValue) → AllByRecursion IsOutputDirectory directories → ArePaths (directory_paths directories)
directory_paths_valid [] h = tt
directory_paths_valid (d ∷ directories) h = (h.0.path, directory_paths_valid directories h.1)

pub symlink_paths_valid : (symlinks : List OutputSymlinkValue) → AllByRecursion IsOutputSymlink symlinks → ArePaths (symlink_paths symlinks)
symlink_paths_valid [] h = tt
symlink_paths_valid (l ∷ symlinks) h = (h.0.path, symlink_paths_valid symlinks h.1)

pub paths_found : (f d l : List (List (List ℕ))) → ArePaths f → ArePaths d → ArePaths l → paths_checked f d l ≡ Ok tt → AreOutputPaths f d l
unfolding paths_checked
paths_found f d l fs ds ls e =
    let t = texts_of f in
    let u = texts_of d in
    let v = texts_of l in
    let a = bind_ok (ascending_behind bytes_cmp None t) _ tt e in
    let b = bind_ok (ascending_behind bytes_cmp None u) _ tt a.2 in
    let c = bind_ok (ascending_behind bytes_cmp None v) (λ _. refused_unless (not (some_overlap t u v)) SameName) tt b.2 in
    let none : some_overlap t u v ≡ false = not_true (some_overlap t u v) (unless_ok (not (some_overlap t u v)) SameName c.2) in
    let o5 = or_false (some_under t t || some_under u u || some_under v v || some_cross t u || some_cross t v) (some_cross u v) none in
    let o4 = or_false (some_under t t || some_under u u || some_under v v || some_cross t u) (some_cross t v) o5.0 in
    let o3 = or_false (some_under t t || some_under u u || some_under v v) (some_cross t u) o4.0 in
    let o2 = or_false (some_under t t || some_under u u) (some_under v v) o3.0 in
    let o1 = or_false (some_under t t) (some_under u u) o2.0 in
    let up_f = ascending bytes_cmp bytes_trans t a.1 in
    let up_d = ascending bytes_cmp bytes_trans u b.1 in
    let up_l = ascending bytes_cmp bytes_trans v c.1 in
    let files = apart_within f up_f (none_under f f fs o1.0) in
    let directories = apart_within d up_d (none_under d d ds o1.1) in
    let symlinks = apart_within l up_l (none_under l l ls o2.1) in
    let both = apart_join f d files directories (apart_from f d fs ds o3.1) in
    record {
      files_ascend = up_f;
      directories_ascend = up_d;
      symlinks_ascend = up_l;
      apart = apart_join (f ++ d) l both symlinks (from_join f d l (apart_from f l fs ls o4.1) (apart_from d l ds ls o5.1));
    }

pub paths_given : (f d l : List (List (List ℕ))) → ArePaths f → ArePaths d → ArePaths l → AreOutputPaths f d l → paths_checked f d l ≡ Ok tt
unfolding paths_checked
paths_given f d l fs ds ls h =
    let t = texts_of f in
    let u = texts_of d in
    let v = texts_of l in
    let a = ascending_behind-from bytes_cmp t h.files_ascend in
    let b = ascending_behind-from bytes_cmp u h.directories_ascend in
    let c = ascending_behind-from bytes_cmp v h.symlinks_ascend in
    let whole = apart_parts (f ++ d) l h.apart in
    let both = apart_parts f d whole.0 in
    let crossed = from_parts f d l whole.2 in
    let files = under_none f f fs fs (within_apart f both.0) in
    let directories = under_none d d ds ds (within_apart d both.1) in
    let symlinks = under_none l l ls ls (within_apart l whole.1) in
    let first = from_apart f d fs ds both.2 in
    let second = from_apart f l fs ls crossed.0 in
    let third = from_apart d l ds ls crossed.1 in
    let none : some_overlap t u v ≡ false =
    or_neither (some_under t t || some_under u u || some_under v v || some_cross t u || some_cross t v) (some_cross u v)
    (or_neither (some_under t t || some_under u u || some_under v v || some_cross t u) (some_cross t v)
    (or_neither (some_under t t || some_under u u || some_under v v) (some_cross t u)
    (or_neither (some_under t t || some_under u u) (some_under v v) (or_neither (some_under t t) (some_under u u) files directories) symlinks)
    first)
    second)
    third
    in
    rw (a, b, c, none) refl

-- ---- the rules of a result

pub result_checked : (r : ActionResultValue) → IsActionResult r → paths_checked (file_paths r.files) (directory_paths r.directories) (symlink_paths r.symlinks) ≡ Ok tt
result_checked r k = paths_given (file_paths r.files) (directory_paths r.directories) (symlink_paths r.symlinks) (file_paths_valid r.files k.files) (directory_paths_valid r.directories k.directories) (symlink_paths_valid r.symlinks k.symlinks) k.paths

pub result_found : (r x : ActionResultValue) → action_result_of r ≡ Ok x → (paths_checked (file_paths r.files) (directory_paths r.directories) (symlink_paths r.symlinks) ≡ Ok tt) × (r ≡ x)
unfolding action_result_of
result_found r x e =
    let a = bind_ok (paths_checked (file_paths r.files) (directory_paths r.directories) (symlink_paths r.symlinks)) (λ _. Ok r) x e in
    (a.1, ok_is {E = MessageError} r x a.2)

pub result_given : (r : ActionResultValue) → IsActionResult r → action_result_of r ≡ Ok r
unfolding action_result_of
result_given r k = let h = result_checked r k in rw h refl

-- what `new` answers
pub result_answer : (r : ActionResultValue) (answer : Result ActionResultValue MessageError) → Gives (λ x. x) answer (action_result_of r) → IfOk answer IsActionResult → IsOk answer ↔ IsActionResult r
result_answer r (Ok x) given valid = (λ _. subst IsActionResult (sym ((result_found r x given).1)) valid, λ _. refl)
result_answer r (Err e) given valid = (λ h. absurd (cc h), λ k. let o = result_given r k in absurd (cc (sym o ∙ given)))
