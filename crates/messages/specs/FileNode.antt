-- The message FileNode of remote_execution.proto: a file in a directory. Its `name` and its
-- `digest` have to be there. Fields: 1 `name` (string); 2 `digest` (Digest), that of the content; 4
-- `is_executable` (bool).
use Rattle.std.specs.Prelude.{ℕ, Bool, List, [], ◌∷◌, ◌++◌, Option, Some, None, Result, Ok, Err}
use Rattle.wire.specs.Record.{Record}
use Rattle.wire.specs.Spelling.{spelling}
use Rattle.wire.specs.Steps.{◌>>=◌}
use Rattle.canonical.specs.declared.shape.Kind.TheVariants as kinds
use Rattle.canonical.specs.declared.shape.Entry.{Entry}
use Rattle.canonical.specs.Fields.{bytes_field, message_field, bool_field, bytes_at, message_at}
use Rattle.canonical.specs.Fields.{bool_at}
use Rattle.blob_digest.specs.DigestValue.{DigestValue, IsDigest}
use Rattle.messages.specs.declared.error.MessageError.{MessageError}
use Rattle.messages.specs.declared.error.MessageError.TheVariants.{MissingField}
use Rattle.messages.specs.Name.{IsName, name_of}
use Rattle.messages.specs.Shapes.{single}
use Rattle.messages.specs.Told.{shape_checked}
use Rattle.messages.specs.DigestMessage.{digest_bytes, decoded_digest}

pub record FileNodeValue : Type 0 where
  pub name : List ℕ
  pub digest : DigestValue
  pub executable : Bool

pub record IsFileNode (f : FileNodeValue) : Type 0 where
  pub name : IsName f.name
  pub digest : IsDigest f.digest

abbrev pub file_node_shape : List Entry
file_node_shape = single 1 kinds.String ∷ single 2 kinds.Message ∷ single 4 kinds.Bool ∷ []

-- the one encoding of a file
abbrev pub file_node_bytes : FileNodeValue → List ℕ
file_node_bytes f =
    spelling (bytes_field 1 f.name ++ message_field 2 (Some (digest_bytes f.digest))
    ++ bool_field 4 f.executable)

-- ---- what bytes say, or the first refusal: the shape, the digest, whether it is there, the name

-- the digest of field 2, which has to be there
unfoldable pub required_digest : Option (List ℕ) → Result DigestValue MessageError
required_digest None = Err (MissingField 2)
required_digest (Some bytes) = decoded_digest bytes

abbrev pub file_node_in : List Record → Result FileNodeValue MessageError
file_node_in rs =
    required_digest (message_at 2 rs) >>= λ digest.
    name_of (bytes_at 1 rs) >>= λ name.
    Ok (record { name = name; digest = digest; executable = bool_at 4 rs })

unfoldable pub decoded_file_node : List ℕ → Result FileNodeValue MessageError
decoded_file_node bytes = shape_checked file_node_shape bytes >>= file_node_in
