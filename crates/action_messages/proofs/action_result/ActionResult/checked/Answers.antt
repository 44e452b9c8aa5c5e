use Rattle.std.proofs.Common.{◌≡◌, Ok, sym, subst}
use Rattle.std.specs.Prelude.{FitsSigned}
use Rattle.std.specs.Int.{w32}
use Rattle.std.proofs.lemmas.Int.{to_z-of_z}
use Rattle.action_messages.specs.ActionResult.{file_paths, directory_paths, symlink_paths, paths_checked}
use Rattle.action_messages.proofs.Results.{paths_found, file_paths_valid, directory_paths_valid, symlink_paths_valid}
use Rattle.action_messages.proofs.action_result.ActionResult.checked.Goals as goal

pub invariant_of-made : goal.invariant_of-made
invariant_of-made g c =
    let f = c.args.files.items in
    let d = c.args.directories.items in
    let l = c.args.symlinks.items in
    let same = to_z-of_z w32 c.args.exit_code c.ranges.exit_code in
    let given : paths_checked (file_paths f) (directory_paths d) (symlink_paths l) ≡ Ok tt = rw (c.deref.ensures.value, c.deref-2.ensures.value, c.deref-3.ensures.value) at c.in_ok-check_outputs.ensures.exact in
    let files = rw c.deref.ensures.value at c.in_ok-check_outputs.ensures.files in
    let directories = rw c.deref-2.ensures.value at c.in_ok-check_outputs.ensures.directories in
    let symlinks = rw c.deref-3.ensures.value at c.in_ok-check_outputs.ensures.symlinks in
    record {
      files = files;
      directories = directories;
      symlinks = symlinks;
      exit_code = subst (FitsSigned w32) (sym same) c.ranges.exit_code;
      stdout = c.digest.ensures.valid;
      stderr = c.digest-2.ensures.valid;
      paths = paths_found (file_paths f) (directory_paths d) (symlink_paths l) (file_paths_valid f files) (directory_paths_valid d directories) (symlink_paths_valid l symlinks) given;
    }
