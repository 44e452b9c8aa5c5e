-- The message ActionResult of remote_execution.proto: what an action made, and how it ended. Each
-- list of outputs is sorted by the texts of the paths, and no two outputs of any kind overlap.
use Rattle.std.specs.Prelude.{ℕ, ℤ, FitsSigned, Bool, ◌||◌, not, List, [], ◌∷◌, ◌++◌, map, None}
use Rattle.std.specs.Prelude.{option_map, Result, Ok}
use Rattle.std.specs.Int.{w32}
use Rattle.std.specs.List.{AllByRecursion}
use Rattle.wire.specs.Record.{Record}
use Rattle.wire.specs.Spelling.{spelling}
use Rattle.wire.specs.Steps.{◌>>=◌}
use Rattle.canonical.specs.declared.shape.Kind.TheVariants as kinds
use Rattle.canonical.specs.declared.shape.Entry.{Entry}
use Rattle.canonical.specs.Fields.{element_fields, int_field, bytes_field, message_field}
use Rattle.messages.specs.declared.error.MessageError.{MessageError}
use Rattle.messages.specs.declared.error.MessageError.TheVariants.{SameName}
use Rattle.messages.specs.Order.{bytes_cmp, IsAscending}
use Rattle.messages.specs.Shapes.{single, repeated}
use Rattle.messages.specs.DigestMessage.{digest_bytes}
use Rattle.messages.specs.Path.{AreApart}
use Rattle.action_messages.specs.Ascending.{ascending_behind}
use Rattle.action_messages.specs.Overlaps.{some_under, some_cross, texts_of}
use Rattle.action_messages.specs.Fields.{refused_unless}
use Rattle.action_messages.specs.Stream.{StreamValue, IsStream}
use Rattle.action_messages.specs.OutputFile.{OutputFileValue, IsOutputFile, output_file_bytes}
use Rattle.action_messages.specs.OutputDirectory.{OutputDirectoryValue, IsOutputDirectory}
use Rattle.action_messages.specs.OutputDirectory.{output_directory_bytes}
use Rattle.action_messages.specs.OutputSymlink.{OutputSymlinkValue, IsOutputSymlink}
use Rattle.action_messages.specs.OutputSymlink.{output_symlink_bytes}

-- the outputs of three kinds, the exit code, and the two streams
pub record ActionResultValue : Type 0 where
  pub files : List OutputFileValue
  pub directories : List OutputDirectoryValue
  pub symlinks : List OutputSymlinkValue
  pub exit_code : ℤ
  pub stdout : StreamValue
  pub stderr : StreamValue

abbrev pub file_paths : List OutputFileValue → List (List (List ℕ))
file_paths files = map (λ f. f.path) files

abbrev pub directory_paths : List OutputDirectoryValue → List (List (List ℕ))
directory_paths directories = map (λ d. d.path) directories

abbrev pub symlink_paths : List OutputSymlinkValue → List (List (List ℕ))
symlink_paths symlinks = map (λ l. l.path) symlinks

-- the paths of the three lists
pub record AreOutputPaths (files directories symlinks : List (List (List ℕ))) : Type 0 where
  pub files_ascend : IsAscending (texts_of files)
  pub directories_ascend : IsAscending (texts_of directories)
  pub symlinks_ascend : IsAscending (texts_of symlinks)
  pub apart : AreApart (files ++ directories ++ symlinks)

pub record IsActionResult (r : ActionResultValue) : Type 0 where
  pub files : AllByRecursion IsOutputFile r.files
  pub directories : AllByRecursion IsOutputDirectory r.directories
  pub symlinks : AllByRecursion IsOutputSymlink r.symlinks
  pub exit_code : FitsSigned w32 r.exit_code
  pub stdout : IsStream r.stdout
  pub stderr : IsStream r.stderr
  pub paths : AreOutputPaths (file_paths r.files) (directory_paths r.directories)
      (symlink_paths r.symlinks)

abbrev pub action_result_shape : List Entry
action_result_shape =
    repeated 2 kinds.Message ∷
    repeated 3 kinds.Message ∷
    single 4 kinds.Int32 ∷
    single 5 kinds.Bytes ∷
    single 6 kinds.Message ∷
    single 7 kinds.Bytes ∷
    single 8 kinds.Message ∷
    repeated 12 kinds.Message ∷
    []

-- the records that a result is spelled by
abbrev pub result_records : ActionResultValue → List Record
result_records r =
    element_fields 2 (map output_file_bytes r.files) ++
    element_fields 3 (map output_directory_bytes r.directories) ++
    int_field 4 r.exit_code ++
    bytes_field 5 r.stdout.raw ++
    message_field 6 (option_map digest_bytes r.stdout.digest) ++
    bytes_field 7 r.stderr.raw ++
    message_field 8 (option_map digest_bytes r.stderr.digest) ++
    element_fields 12 (map output_symlink_bytes r.symlinks)

-- the one encoding of a result
unfoldable pub action_result_bytes : ActionResultValue → List ℕ
action_result_bytes r = spelling (result_records r)

-- ---- the result of fields, or the first refusal: the order of each list, overlaps

abbrev pub some_overlap : List (List ℕ) → List (List ℕ) → List (List ℕ) → Bool
some_overlap files directories symlinks =
    some_under files files || some_under directories directories || some_under symlinks symlinks ||
    some_cross files directories || some_cross files symlinks || some_cross directories symlinks

unfoldable pub paths_checked : List (List (List ℕ)) → List (List (List ℕ)) → List (List (List ℕ))
    → Result (Unit {0}) MessageError
paths_checked files directories symlinks =
    ascending_behind bytes_cmp None (texts_of files) >>= λ _.
    ascending_behind bytes_cmp None (texts_of directories) >>= λ _.
    ascending_behind bytes_cmp None (texts_of symlinks) >>= λ _.
    refused_unless
    (not (some_overlap (texts_of files) (texts_of directories) (texts_of symlinks))) SameName

-- the result of these fields, or the first refusal
unfoldable pub action_result_of : ActionResultValue → Result ActionResultValue MessageError
action_result_of r =
    paths_checked (file_paths r.files) (directory_paths r.directories)
    (symlink_paths r.symlinks) >>= λ _.
    Ok r
