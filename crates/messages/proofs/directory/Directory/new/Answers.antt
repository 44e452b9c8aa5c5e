use Rattle.std.proofs.Common.{◌≡◌, Ok, Err, refl}
use Rattle.messages.specs.DirectoryRules.{file_names, directory_names, symlink_names, names_ordered}
use Rattle.messages.proofs.DirectoryCodec.{names_of_ordered, names_refused, err_not_ok}
use Rattle.messages.proofs.directory.Directory.new.Goals as goal

pub returns-in_err-check_names-clause-some : goal.returns-in_err-check_names-clause-some
returns-in_err-check_names-clause-some g c =
    let given : names_ordered (file_names c.args.files.items) (directory_names c.args.directories.items) (symlink_names c.args.symlinks.items) ≡ Err c.in_err-check_names.field-0.0 = rw (c.deref.ensures.value, c.deref-2.ensures.value, c.deref-3.ensures.value) at c.in_err-check_names.ensures.exact in
    (λ ok. absurd (err_not_ok c.from_residual.result c.from_residual.ensures.0 ok), λ names. absurd (names_refused (file_names c.args.files.items) (directory_names c.args.directories.items) (symlink_names c.args.symlinks.items) c.in_err-check_names.field-0.0 given names))

pub invariant_of-result : goal.invariant_of-result
invariant_of-result g c =
    let given : names_ordered (file_names c.args.files.items) (directory_names c.args.directories.items) (symlink_names c.args.symlinks.items) ≡ Ok tt = rw (c.deref.ensures.value, c.deref-2.ensures.value, c.deref-3.ensures.value) at c.in_ok-check_names.ensures.exact in
    record {
      files = rw c.deref.ensures.value at c.in_ok-check_names.ensures.files;
      directories = rw c.deref-2.ensures.value at c.in_ok-check_names.ensures.directories;
      symlinks = rw c.deref-3.ensures.value at c.in_ok-check_names.ensures.symlinks;
      names = names_of_ordered (file_names c.args.files.items) (directory_names c.args.directories.items) (symlink_names c.args.symlinks.items) given;
    }

pub returns-clause-some : goal.returns-clause-some
returns-clause-some g c =
    let given : names_ordered (file_names c.args.files.items) (directory_names c.args.directories.items) (symlink_names c.args.symlinks.items) ≡ Ok tt = rw (c.deref.ensures.value, c.deref-2.ensures.value, c.deref-3.ensures.value) at c.in_ok-check_names.ensures.exact in
    (λ _. names_of_ordered (file_names c.args.files.items) (directory_names c.args.directories.items) (symlink_names c.args.symlinks.items) given, λ _. refl)
