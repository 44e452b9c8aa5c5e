-- The message OutputSymlink of remote_execution.proto: a symbolic link that an action made. Its
-- `path` and its `target` have to be there.
use Rattle.std.specs.Prelude.{ℕ, List, [], ◌∷◌, ◌++◌}
use Rattle.wire.specs.Spelling.{spelling}
use Rattle.canonical.specs.declared.shape.Kind.TheVariants as kinds
use Rattle.canonical.specs.declared.shape.Entry.{Entry}
use Rattle.canonical.specs.Fields.{bytes_field}
use Rattle.messages.specs.Path.{IsPath, path_text}
use Rattle.messages.specs.Target.{IsTarget}
use Rattle.messages.specs.Shapes.{single}

pub record OutputSymlinkValue : Type 0 where
  pub path : List (List ℕ)
  pub target : List ℕ

pub record IsOutputSymlink (l : OutputSymlinkValue) : Type 0 where
  pub path : IsPath l.path
  pub target : IsTarget l.target

abbrev pub output_symlink_shape : List Entry
output_symlink_shape = single 1 kinds.String ∷ single 2 kinds.String ∷ []

-- the one encoding of an output symlink
unfoldable pub output_symlink_bytes : OutputSymlinkValue → List ℕ
output_symlink_bytes l = spelling (bytes_field 1 (path_text l.path) ++ bytes_field 2 l.target)
