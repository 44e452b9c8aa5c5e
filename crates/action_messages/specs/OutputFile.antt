-- The message OutputFile of remote_execution.proto: a file that an action made. Its `path` and its
-- `digest` have to be there.
use Rattle.std.specs.Prelude.{ℕ, Bool, List, [], ◌∷◌, ◌++◌, Some}
use Rattle.wire.specs.Spelling.{spelling}
use Rattle.canonical.specs.declared.shape.Kind.TheVariants as kinds
use Rattle.canonical.specs.declared.shape.Entry.{Entry}
use Rattle.canonical.specs.Fields.{bytes_field, message_field, bool_field}
use Rattle.blob_digest.specs.DigestValue.{DigestValue, IsDigest}
use Rattle.messages.specs.Path.{IsPath, path_text}
use Rattle.messages.specs.Shapes.{single}
use Rattle.messages.specs.DigestMessage.{digest_bytes}

pub record OutputFileValue : Type 0 where
  pub path : List (List ℕ)
  pub digest : DigestValue
  pub executable : Bool

pub record IsOutputFile (f : OutputFileValue) : Type 0 where
  pub path : IsPath f.path
  pub digest : IsDigest f.digest

abbrev pub output_file_shape : List Entry
output_file_shape = single 1 kinds.String ∷ single 2 kinds.Message ∷ single 4 kinds.Bool ∷ []

-- the one encoding of an output file
unfoldable pub output_file_bytes : OutputFileValue → List ℕ
output_file_bytes f = spelling (
    bytes_field 1 (path_text f.path) ++
    message_field 2 (Some (digest_bytes f.digest)) ++
    bool_field 4 f.executable)
