-- Reading a result by the tolerant rules, its outputs in the order of the bytes.
use Rattle.std.specs.Prelude.{◌≡◌, ℕ, ◌+◌, List, [], ◌∷◌, ◌++◌, IsPermutation, Result, Ok}
use Rattle.std.specs.List.{AllByRecursion}
use Rattle.wire.specs.Record.{Record}
use Rattle.wire.specs.Steps.{◌>>=◌}
use Rattle.canonical.specs.Fields.{bytes_at, bool_at, int32_at, elements_at}
use Rattle.canonical.specs.Told.{each}
use Rattle.messages.specs.declared.error.MessageError.{MessageError}
use Rattle.messages.specs.Path.{path_of}
use Rattle.messages.specs.Target.{target_of}
use Rattle.messages.specs.Tolerant.{known_checked, in_occurrences, alone, any_digest}
use Rattle.messages.specs.Told.{required}
use Rattle.action_messages.specs.Stream.{StreamValue}
use Rattle.action_messages.specs.OutputFile.{OutputFileValue, IsOutputFile, output_file_shape}
use Rattle.action_messages.specs.OutputDirectory.{OutputDirectoryValue, IsOutputDirectory}
use Rattle.action_messages.specs.OutputDirectory.{output_directory_shape}
use Rattle.action_messages.specs.OutputSymlink.{OutputSymlinkValue, IsOutputSymlink}
use Rattle.action_messages.specs.OutputSymlink.{output_symlink_shape}
use Rattle.action_messages.specs.ActionResult.{ActionResultValue, file_paths, directory_paths}
use Rattle.action_messages.specs.ActionResult.{symlink_paths, action_result_shape}

abbrev pub any_output_file_in : List Record → Result OutputFileValue MessageError
any_output_file_in rs =
    in_occurrences any_digest (elements_at 2 rs) >>= λ found.
    required 2 found >>= λ digest.
    path_of (bytes_at 1 rs) >>= λ path.
    Ok (record { path = path; digest = digest; executable = bool_at 4 rs })

unfoldable pub any_output_file : List (List ℕ) → Result OutputFileValue MessageError
any_output_file texts = known_checked output_file_shape [] texts >>= any_output_file_in

abbrev pub any_output_directory_in : List Record → Result OutputDirectoryValue MessageError
any_output_directory_in rs =
    in_occurrences any_digest (elements_at 3 rs) >>= λ found.
    required 3 found >>= λ tree.
    path_of (bytes_at 1 rs) >>= λ path.
    Ok (record { path = path; tree = tree })

unfoldable pub any_output_directory : List (List ℕ) → Result OutputDirectoryValue MessageError
any_output_directory texts =
    known_checked output_directory_shape (4 ∷ []) texts >>= any_output_directory_in

abbrev pub any_output_symlink_in : List Record → Result OutputSymlinkValue MessageError
any_output_symlink_in rs =
    path_of (bytes_at 1 rs) >>= λ path.
    target_of (bytes_at 2 rs) >>= λ target.
    Ok (record { path = path; target = target })

unfoldable pub any_output_symlink : List (List ℕ) → Result OutputSymlinkValue MessageError
any_output_symlink texts = known_checked output_symlink_shape [] texts >>= any_output_symlink_in

unfoldable pub any_stream_at : ℕ → List Record → Result StreamValue MessageError
any_stream_at number rs =
    in_occurrences any_digest (elements_at (number + 1) rs) >>= λ digest.
    Ok (record { raw = bytes_at number rs; digest = digest })

-- ---- the result

unfoldable pub unordered_in : List Record → Result ActionResultValue MessageError
unordered_in rs =
    each (alone any_output_file) (elements_at 2 rs) >>= λ files.
    each (alone any_output_directory) (elements_at 3 rs) >>= λ directories.
    any_stream_at 5 rs >>= λ stdout.
    any_stream_at 7 rs >>= λ stderr.
    each (alone any_output_symlink) (elements_at 12 rs) >>= λ symlinks.
    Ok (record {
      files = files;
      directories = directories;
      symlinks = symlinks;
      exit_code = int32_at 4 rs;
      stdout = stdout;
      stderr = stderr;
    })

-- the records of a result's bytes
abbrev pub known_fields : List ℕ → Result (List Record) MessageError
known_fields bytes = known_checked action_result_shape (9 ∷ []) (bytes ∷ [])

-- what the bytes say, before its outputs are put in the order of their paths
unfoldable pub unordered : List ℕ → Result ActionResultValue MessageError
unordered bytes = known_fields bytes >>= unordered_in

-- the paths of all outputs
abbrev pub output_paths : ActionResultValue → List (List (List ℕ))
output_paths u = file_paths u.files ++ directory_paths u.directories ++ symlink_paths u.symlinks

-- ---- what putting the outputs in order keeps

pub record IsOrderingOf (u r : ActionResultValue) : Type 0 where
  pub files : IsPermutation u.files r.files
  pub directories : IsPermutation u.directories r.directories
  pub symlinks : IsPermutation u.symlinks r.symlinks
  pub exit_code : u.exit_code ≡ r.exit_code
  pub stdout : u.stdout ≡ r.stdout
  pub stderr : u.stderr ≡ r.stderr

-- each output keeps its rules
pub record AreOutputsValid (u : ActionResultValue) : Type 0 where
  pub files : AllByRecursion IsOutputFile u.files
  pub directories : AllByRecursion IsOutputDirectory u.directories
  pub symlinks : AllByRecursion IsOutputSymlink u.symlinks
