-- The message SymlinkNode of remote_execution.proto: a symbolic link in a directory. Its `name` and
-- its `target` have to be there. Fields: 1 `name` (string); 2 `target` (string).
use Rattle.std.specs.Prelude.{ℕ, List, [], ◌∷◌, ◌++◌, Result, Ok}
use Rattle.wire.specs.Record.{Record}
use Rattle.wire.specs.Spelling.{spelling}
use Rattle.wire.specs.Steps.{◌>>=◌}
use Rattle.canonical.specs.declared.shape.Kind.TheVariants as kinds
use Rattle.canonical.specs.declared.shape.Entry.{Entry}
use Rattle.canonical.specs.Fields.{bytes_field, bytes_at}
use Rattle.messages.specs.declared.error.MessageError.{MessageError}
use Rattle.messages.specs.Name.{IsName, name_of}
use Rattle.messages.specs.Target.{IsTarget, target_of}
use Rattle.messages.specs.Shapes.{single}
use Rattle.messages.specs.Told.{shape_checked}

pub record SymlinkNodeValue : Type 0 where
  pub name : List ℕ
  pub target : List ℕ

pub record IsSymlinkNode (l : SymlinkNodeValue) : Type 0 where
  pub name : IsName l.name
  pub target : IsTarget l.target

abbrev pub symlink_node_shape : List Entry
symlink_node_shape = single 1 kinds.String ∷ single 2 kinds.String ∷ []

-- the one encoding of a symbolic link
abbrev pub symlink_node_bytes : SymlinkNodeValue → List ℕ
symlink_node_bytes l = spelling (bytes_field 1 l.name ++ bytes_field 2 l.target)

-- ---- what bytes say, or the first refusal: the shape, the name, the target

abbrev pub symlink_node_in : List Record → Result SymlinkNodeValue MessageError
symlink_node_in rs =
    name_of (bytes_at 1 rs) >>= λ name.
    target_of (bytes_at 2 rs) >>= λ target.
    Ok (record { name = name; target = target })

unfoldable pub decoded_symlink_node : List ℕ → Result SymlinkNodeValue MessageError
decoded_symlink_node bytes = shape_checked symlink_node_shape bytes >>= symlink_node_in
