-- A Directory that was checked is the one that was given.
use Rattle.std.proofs.Common.{◌≡◌, Result, Ok, Err}
use Rattle.messages.specs.DirectoryRules.{DirectoryValue, directory_checked, directory_names, file_names, names_ordered, symlink_names}
use Rattle.messages.specs.declared.error.MessageError.{MessageError}
use Rattle.wire.specs.Steps.{◌>>=◌}

passed : (r : Result (Unit {0}) MessageError) (e x : DirectoryValue) → ◌≡◌ {A = Result DirectoryValue MessageError} (r >>= λ _. Ok e) (Ok x) → e ≡ x
passed (Ok u) e x is = cc
passed (Err f) e x is = absurd cc

pub checked_same : (e x : DirectoryValue) → directory_checked e ≡ Ok x → e ≡ x
unfolding directory_checked
checked_same e x is = passed (names_ordered (file_names e.files) (directory_names e.directories) (symlink_names e.symlinks)) e x is
