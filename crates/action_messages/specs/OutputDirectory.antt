-- The message OutputDirectory of remote_execution.proto: a directory that an action made, by the
-- digest of its Tree. Its `path` and its `tree_digest` have to be there.
use Rattle.std.specs.Prelude.{ℕ, List, [], ◌∷◌, ◌++◌, Some}
use Rattle.wire.specs.Spelling.{spelling}
use Rattle.canonical.specs.declared.shape.Kind.TheVariants as kinds
use Rattle.canonical.specs.declared.shape.Entry.{Entry}
use Rattle.canonical.specs.Fields.{bytes_field, message_field}
use Rattle.blob_digest.specs.DigestValue.{DigestValue, IsDigest}
use Rattle.messages.specs.Path.{IsPath, path_text}
use Rattle.messages.specs.Shapes.{single}
use Rattle.messages.specs.DigestMessage.{digest_bytes}

pub record OutputDirectoryValue : Type 0 where
  pub path : List (List ℕ)
  pub tree : DigestValue

pub record IsOutputDirectory (d : OutputDirectoryValue) : Type 0 where
  pub path : IsPath d.path
  pub tree : IsDigest d.tree

abbrev pub output_directory_shape : List Entry
output_directory_shape = single 1 kinds.String ∷ single 3 kinds.Message ∷ []

-- the one encoding of an output directory
unfoldable pub output_directory_bytes : OutputDirectoryValue → List ℕ
output_directory_bytes d =
    spelling (bytes_field 1 (path_text d.path) ++ message_field 3 (Some (digest_bytes d.tree)))
