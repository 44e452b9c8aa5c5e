-- The message DirectoryNode of remote_execution.proto: a directory in a directory. Its `name` and
-- its `digest` have to be there. Fields: 1 `name` (string); 2 `digest` (Digest), that of the
-- encoding of its Directory.
use Rattle.std.specs.Prelude.{ℕ, List, [], ◌∷◌, ◌++◌, Some, Result, Ok}
use Rattle.wire.specs.Record.{Record}
use Rattle.wire.specs.Spelling.{spelling}
use Rattle.wire.specs.Steps.{◌>>=◌}
use Rattle.canonical.specs.declared.shape.Kind.TheVariants as kinds
use Rattle.canonical.specs.declared.shape.Entry.{Entry}
use Rattle.canonical.specs.Fields.{bytes_field, message_field, bytes_at, message_at}
use Rattle.blob_digest.specs.DigestValue.{DigestValue, IsDigest}
use Rattle.messages.specs.declared.error.MessageError.{MessageError}
use Rattle.messages.specs.Name.{IsName, name_of}
use Rattle.messages.specs.Shapes.{single}
use Rattle.messages.specs.Told.{shape_checked}
use Rattle.messages.specs.DigestMessage.{digest_bytes}
use Rattle.messages.specs.FileNode.{required_digest}

pub record DirectoryNodeValue : Type 0 where
  pub name : List ℕ
  pub digest : DigestValue

pub record IsDirectoryNode (d : DirectoryNodeValue) : Type 0 where
  pub name : IsName d.name
  pub digest : IsDigest d.digest

abbrev pub directory_node_shape : List Entry
directory_node_shape = single 1 kinds.String ∷ single 2 kinds.Message ∷ []

-- the one encoding of a directory in a directory
abbrev pub directory_node_bytes : DirectoryNodeValue → List ℕ
directory_node_bytes d =
    spelling (bytes_field 1 d.name ++ message_field 2 (Some (digest_bytes d.digest)))

-- ---- what bytes say, or the first refusal: the shape, the digest, whether it is there, the name

abbrev pub directory_node_in : List Record → Result DirectoryNodeValue MessageError
directory_node_in rs =
    required_digest (message_at 2 rs) >>= λ digest.
    name_of (bytes_at 1 rs) >>= λ name.
    Ok (record { name = name; digest = digest })

unfoldable pub decoded_directory_node : List ℕ → Result DirectoryNodeValue MessageError
decoded_directory_node bytes = shape_checked directory_node_shape bytes >>= directory_node_in
