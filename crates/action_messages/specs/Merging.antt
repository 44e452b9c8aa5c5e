-- What the private functions that walk over three lists of outputs answer.
use Rattle.std.specs.Prelude.{List, slice_get, Option, Some, None, option_map, if◌then◌else◌}
use Rattle.std.specs.Ordering.{is_gt}
use Rattle.messages.specs.Path.{text_cmp}
use Rattle.action_messages.specs.OutputFile.{OutputFileValue}
use Rattle.action_messages.specs.OutputDirectory.{OutputDirectoryValue}
use Rattle.action_messages.specs.OutputSymlink.{OutputSymlinkValue}
use Rattle.action_messages.specs.Outputs.{RecordedValue, file, directory, link, recorded_path}

-- of two outputs the one whose path's text comes first
abbrev pub earlier : Option RecordedValue → Option RecordedValue → Option RecordedValue
earlier None other = other
earlier (Some one) None = Some one
earlier (Some one) (Some other) =
    if is_gt (text_cmp (recorded_path one) (recorded_path other)) then Some other else Some one

abbrev pub first_of : List OutputFileValue → List OutputDirectoryValue → List OutputSymlinkValue
    → Option RecordedValue
first_of files directories symlinks =
    earlier (earlier (option_map file (slice_get files 0))
    (option_map directory (slice_get directories 0))) (option_map link (slice_get symlinks 0))
