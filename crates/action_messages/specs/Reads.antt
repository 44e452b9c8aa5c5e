-- An ActionResult read by the tolerant rules of Protocol Buffers (encoding guide: "Last One Wins",
-- "Field Order", "More Integer Types", "Default Values"). Of a single number, bool, string or bytes
-- the last record counts; a single message is read from the records of all its occurrences; a
-- repeated field has an element for each record. A few fields are skipped, and no others may be
-- there.
use Rattle.std.specs.Prelude.{◌≡◌, ℕ, ◌+◌, pos, List, [], ◌∷◌, Some}
use Rattle.wire.specs.Record.{Record}
use Rattle.canonical.specs.Columns.{column}
use Rattle.canonical.specs.Fields.{bytes_at, bool_at, int32_at, int64_at, elements_at}
use Rattle.hex.specs.Hex.{encode_lower}
use Rattle.blob_digest.specs.DigestValue.{DigestValue, IsDigest}
use Rattle.messages.specs.Path.{path_text}
use Rattle.messages.specs.DigestMessage.{digest_shape}
use Rattle.action_messages.specs.Stream.{StreamValue}
use Rattle.action_messages.specs.OutputFile.{OutputFileValue, IsOutputFile, output_file_shape}
use Rattle.action_messages.specs.OutputDirectory.{OutputDirectoryValue, IsOutputDirectory}
use Rattle.action_messages.specs.OutputDirectory.{output_directory_shape}
use Rattle.action_messages.specs.OutputSymlink.{OutputSymlinkValue, IsOutputSymlink}
use Rattle.action_messages.specs.OutputSymlink.{output_symlink_shape}
use Rattle.action_messages.specs.ActionResult.{ActionResultValue, IsActionResult}
use Rattle.action_messages.specs.ActionResult.{action_result_shape}
use Rattle.canonical.specs.Known.{AreKnown}
use Rattle.action_messages.specs.Nested.{SaysBytes, SaysOne, SaysSorted}

pub record SaysDigest (d : DigestValue) (rs : List Record) : Type 0 where
  pub known : AreKnown digest_shape [] rs
  pub hash : bytes_at 1 rs ≡ encode_lower d.hash
  pub size : int64_at 2 rs ≡ pos d.size
  pub valid : IsDigest d

pub record SaysFile (f : OutputFileValue) (rs : List Record) : Type 0 where
  pub known : AreKnown output_file_shape [] rs
  pub path : bytes_at 1 rs ≡ path_text f.path
  pub digest : SaysOne SaysDigest (Some f.digest) (elements_at 2 rs)
  pub executable : bool_at 4 rs ≡ f.executable
  pub valid : IsOutputFile f

-- field 4 is skipped
pub record SaysDirectory (d : OutputDirectoryValue) (rs : List Record) : Type 0 where
  pub known : AreKnown output_directory_shape (4 ∷ []) rs
  pub path : bytes_at 1 rs ≡ path_text d.path
  pub tree : SaysOne SaysDigest (Some d.tree) (elements_at 3 rs)
  pub valid : IsOutputDirectory d

pub record SaysSymlink (l : OutputSymlinkValue) (rs : List Record) : Type 0 where
  pub known : AreKnown output_symlink_shape [] rs
  pub path : bytes_at 1 rs ≡ path_text l.path
  pub target : bytes_at 2 rs ≡ l.target
  pub valid : IsOutputSymlink l

-- the stream whose bytes are the field of this number, and whose digest is the next
pub record SaysStream (number : ℕ) (s : StreamValue) (rs : List Record) : Type 0 where
  pub raw : bytes_at number rs ≡ s.raw
  pub digest : SaysOne SaysDigest s.digest (elements_at (number + 1) rs)

-- Field 9 is skipped. Each list of outputs is put in the order that the rules of a result ask for.
pub record SaysResult (m : ActionResultValue) (rs : List Record) : Type 0 where
  pub known : AreKnown action_result_shape (9 ∷ []) rs
  pub files : SaysSorted SaysFile m.files (elements_at 2 rs)
  pub directories : SaysSorted SaysDirectory m.directories (elements_at 3 rs)
  pub exit_code : int32_at 4 rs ≡ m.exit_code
  pub stdout : SaysStream 5 m.stdout rs
  pub stderr : SaysStream 7 m.stderr rs
  pub symlinks : SaysSorted SaysSymlink m.symlinks (elements_at 12 rs)
  pub valid : IsActionResult m

-- the bytes are read as the result
abbrev pub Reads : ActionResultValue → List ℕ → Type 0
Reads m bytes = SaysBytes SaysResult m bytes

-- Two lists have the same records of each field, in the same order; records of different fields may
-- change places.
abbrev pub HaveSameFields : List Record → List Record → Type 0
HaveSameFields rs ss = (n : ℕ) → column n rs ≡ column n ss
