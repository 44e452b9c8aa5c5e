-- The message Directory of remote_execution.proto: what stands in a directory.
-- Fields: 1 `files` (repeated FileNode); 2 `directories` (repeated DirectoryNode); 3 `symlinks`
-- (repeated SymlinkNode).
use Rattle.std.specs.Prelude.{ℕ, List, [], ◌∷◌, ◌++◌, map, Result}
use Rattle.wire.specs.Record.{Record}
use Rattle.wire.specs.Spelling.{spelling}
use Rattle.wire.specs.Steps.{◌>>=◌}
use Rattle.canonical.specs.declared.shape.Kind.TheVariants as kinds
use Rattle.canonical.specs.declared.shape.Entry.{Entry}
use Rattle.canonical.specs.Fields.{element_fields, elements_at}
use Rattle.canonical.specs.Told.{each}
use Rattle.messages.specs.declared.error.MessageError.{MessageError}
use Rattle.messages.specs.Shapes.{repeated}
use Rattle.messages.specs.Told.{shape_checked}
use Rattle.messages.specs.FileNode.{file_node_bytes, decoded_file_node}
use Rattle.messages.specs.DirectoryNode.{directory_node_bytes, decoded_directory_node}
use Rattle.messages.specs.SymlinkNode.{symlink_node_bytes, decoded_symlink_node}
use Rattle.messages.specs.DirectoryRules.{DirectoryValue, directory_checked}

abbrev pub directory_shape : List Entry
directory_shape =
    repeated 1 kinds.Message ∷ repeated 2 kinds.Message ∷ repeated 3 kinds.Message ∷ []

-- the one encoding of a directory
unfoldable pub directory_bytes : DirectoryValue → List ℕ
directory_bytes d =
    spelling (element_fields 1 (map file_node_bytes d.files)
    ++ element_fields 2 (map directory_node_bytes d.directories)
    ++ element_fields 3 (map symlink_node_bytes d.symlinks))

-- ---- what bytes say, or the first refusal: the shape, the nodes in the order of the bytes, which
-- is that of the numbers, and then the rules of names

abbrev pub directory_in : List Record → Result DirectoryValue MessageError
directory_in rs =
    each decoded_file_node (elements_at 1 rs) >>= λ files.
    each decoded_directory_node (elements_at 2 rs) >>= λ directories.
    each decoded_symlink_node (elements_at 3 rs) >>= λ symlinks.
    directory_checked (record { files = files; directories = directories; symlinks = symlinks })

unfoldable pub decoded_directory : List ℕ → Result DirectoryValue MessageError
decoded_directory bytes = shape_checked directory_shape bytes >>= directory_in
