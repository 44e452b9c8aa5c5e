-- How a file is read: what of it is answered, and why it isn't read.
use Rattle.std.specs.Prelude.{◌≡◌, ◌≢◌, ◌⊎◌, ℕ, ◌<◌, List, length, Option, IfSome, string_bytes}
use Rattle.std.specs.Fs.{IsFile, file_type, metadata_len}
use Rattle.std.specs.IoError.{error_kind}
use Rattle.std.specs.declared.fs.Metadata.{Metadata}
use Rattle.std.specs.declared.io.Error.{Error}
use Rattle.std.specs.declared.io.ErrorKind.TheVariants.{NotFound, OutOfMemory}
use Rattle.blob_digest.specs.Body.{greatest_blob}
use Rattle.remote.specs.Folder.{IsReadable}
use Rattle.remote.specs.declared.files.FileError.{FileError}
use Rattle.remote.specs.declared.files.FileError.TheVariants.{Io, NotAFile, TooLarge, Memory}

-- The file was opened where a file stood that may be read.
pub record Opens {F : Type 0} (looked : Metadata → Type 0) (opened : F → Type 0) (file : F)
    : Type 0 where
  pub metadata : Metadata
  pub stood : looked metadata
  pub readable : IsReadable metadata
  pub is : opened file

-- The bytes are all of the file that was opened, by what is known of its rest.
pub record IsWholeFile {F : Type 0} (rest : F → Option (List ℕ)) (looked : Metadata → Type 0)
    (opened : F → Type 0) (bytes : List ℕ) : Type 0 where
  pub file : F
  pub opens : Opens looked opened file
  pub whole : IfSome (rest file) (λ all. bytes ≡ all)

-- A file that was opened has more bytes than one that is read, by what is known of its rest.
pub record IsTooLarge {F : Type 0} (rest : F → Option (List ℕ)) (looked : Metadata → Type 0)
    (opened : F → Type 0) : Type 0 where
  pub file : F
  pub opens : Opens looked opened file
  pub large : IfSome (rest file) (λ all. greatest_blob < length all)

-- Why a file isn't read: it couldn't be found or opened, or no more of it came; or it is no file,
-- or a larger one, when it was found or as it was read. Lack of memory is no fault of the file.
abbrev pub IsUnread : {F A : Type 0} → (F → Option (List ℕ)) → (Metadata → Type 0)
    → (F → Type 0) → (Error → Type 0) → List ℕ → FileError A → Type 0
IsUnread {F} rest looked opened failed path (Io p fault) = (string_bytes p ≡ path)
    × (((error_kind fault ≢ OutOfMemory) × failed fault)
    ⊎ (((file : F) × Opens looked opened file) × (error_kind fault ≢ NotFound)))
IsUnread rest looked opened failed path (NotAFile p) = (string_bytes p ≡ path)
    × ((m : Metadata) × looked m × (IsFile (file_type m) → ⊥))
IsUnread rest looked opened failed path (TooLarge p) = (string_bytes p ≡ path)
    × (((m : Metadata) × looked m × (greatest_blob < metadata_len m))
    ⊎ IsTooLarge rest looked opened)
IsUnread rest looked opened failed path Memory = Unit {0}
