-- A store in a folder: what it tells, and what a look-up in it does.
use Rattle.std.specs.Prelude.{◌≡◌, ◌≢◌, ◌⊎◌, ℕ, ◌<◌, ◌≤◌, List, [], ◌∷◌, ◌++◌, take}
use Rattle.std.specs.Prelude.{Option, Some, None}
use Rattle.std.specs.Prelude.{Result, Ok, Err, IfOk, IsErrOf, IsSomeAnd, OnErr, string_bytes}
use Rattle.std.specs.Fs.{IsFile, file_type, metadata_len}
use Rattle.std.specs.IoError.{error_kind}
use Rattle.std.specs.declared.fs.Metadata.{Metadata}
use Rattle.std.specs.declared.io.Error.{Error}
use Rattle.std.specs.declared.io.ErrorKind.TheVariants.{NotFound, OutOfMemory}
use Rattle.std.specs.declared.vec.Vec.{Vec}
use Rattle.blob_digest.specs.Body.{greatest_blob}
use Rattle.blob_digest.specs.Digest.{DigestValue}
use Rattle.blob_digest.specs.Text.{digest_text}
use Rattle.blob_source.specs.Source.{Telling, bytes_of}
use Rattle.blob_source.specs.declared.source.FetchError.{FetchError}
use Rattle.blob_source.specs.declared.source.FetchError.TheVariants.{Failed}
use Rattle.remote.specs.declared.files.FileError.{FileError}
use Rattle.remote.specs.declared.files.FileError.TheVariants.{Io, NotAFile, TooLarge, Memory}
use Rattle.remote.specs.declared.folder.FolderSource.{FolderSource}
use Rattle.remote.specs.declared.table.Table.{Table}
use Rattle.remote.specs.Table.{HasAnswer, IsSameBut, KeepsAnswers, told_by}

-- the error tells of the file at this path
abbrev pub IsFaultAt : {A : Type 0} → List ℕ → FileError A → Type 0
IsFaultAt path (Io p fault) = string_bytes p ≡ path
IsFaultAt path (NotAFile p) = string_bytes p ≡ path
IsFaultAt path (TooLarge p) = string_bytes p ≡ path
IsFaultAt path Memory = ⊥

-- the error tells of the file at this path, or of lack of memory
abbrev pub IsErrorOf : {A : Type 0} → List ℕ → FileError A → Type 0
IsErrorOf path Memory = Unit {0}
IsErrorOf path e = IsFaultAt path e

-- The error tells of this fault of the file at this path. Lack of memory is no fault of the file.
abbrev pub TellsFault : {A : Type 0} → List ℕ → Error → FileError A → Type 0
TellsFault path fault (Io p f) = (error_kind fault ≢ OutOfMemory) × (f ≡ fault)
    × (string_bytes p ≡ path)
TellsFault path fault (NotAFile p) = ⊥
TellsFault path fault (TooLarge p) = ⊥
TellsFault path fault Memory = error_kind fault ≡ OutOfMemory

-- The error tells of this fault of an open file at this path, or of lack of memory. That nothing is
-- there is no fault of an open file, and another stands for it.
abbrev pub TellsOpenFault : {A : Type 0} → List ℕ → FileError A → Error → Type 0
TellsOpenFault path (Io p f) fault =
    (string_bytes p ≡ path) × (error_kind fault ≢ NotFound → f ≡ fault)
TellsOpenFault path (NotAFile p) fault = ⊥
TellsOpenFault path (TooLarge p) fault = ⊥
TellsOpenFault path Memory fault = Unit {0}

-- the error is of the system, or of lack of memory
abbrev pub ComesOfSystem : {A : Type 0} → FileError A → Type 0
ComesOfSystem (Io p fault) = Unit {0}
ComesOfSystem (NotAFile p) = ⊥
ComesOfSystem (TooLarge p) = ⊥
ComesOfSystem Memory = Unit {0}

-- a file that is read: one of at most so many bytes as a blob has
abbrev pub IsReadable : Metadata → Type 0
IsReadable m = IsFile (file_type m) × (metadata_len m ≤ greatest_blob)

-- the error tells why what stands at this path isn't read, by its metadata
abbrev pub TellsUnreadable : {A : Type 0} → List ℕ → Metadata → FileError A → Type 0
TellsUnreadable path m (Io p fault) = ⊥
TellsUnreadable path m (NotAFile p) = (IsFile (file_type m) → ⊥) × (string_bytes p ≡ path)
TellsUnreadable path m (TooLarge p) = IsFile (file_type m) × (greatest_blob < metadata_len m)
    × (string_bytes p ≡ path)
TellsUnreadable path m Memory = Unit {0}

-- the file isn't there
abbrev pub IsNotThere : {A : Type 0} → FileError A → Type 0
IsNotThere (Io p fault) = error_kind fault ≡ NotFound
IsNotThere (NotAFile p) = ⊥
IsNotThere (TooLarge p) = ⊥
IsNotThere Memory = ⊥

-- what a read of a file answers: its bytes, none where it isn't there, or why it can't be read
abbrev pub IsReadAs : {A : Type 0} → Result (Vec ℕ A) (FileError A)
    → Result (Option (Vec ℕ A)) (FileError A) → Type 0
IsReadAs (Ok bytes) answer = answer ≡ Ok (Some bytes)
IsReadAs (Err e) answer = (IsNotThere e × (answer ≡ Ok None))
    ⊎ ((IsNotThere e → ⊥) × (answer ≡ Err e))

-- the file for a digest in a part of the store: FOLDER/PART/HASH, with the 64 hex digits that the
-- digest's text begins with
abbrev pub entry_path : List ℕ → List ℕ → DigestValue → List ℕ
entry_path folder part digest = folder ++ 47 ∷ (part ++ 47 ∷ take 64 (digest_text digest))

-- what was read is kept in tables, and stays told; each fault of the file system is a failure
abbrev pub telling_of : {R A : Type 0} → FolderSource R A → Telling
telling_of s = record {
  blobs = told_by s.blobs;
  results = told_by s.results;
  failures = s.folder.failures;
  calls = s.calls;
  puts = [];
}

-- by what the files are read
abbrev pub files_of : {R A : Type 0} → FolderSource R A → R
files_of s = s.folder.files.now

-- the folder, and the error of the last failure
abbrev pub place_of : {R A : Type 0} → FolderSource R A → List ℕ
place_of s = string_bytes s.folder.place

abbrev pub error_of : {R A : Type 0} → FolderSource R A → Option (FileError A)
error_of s = s.folder.error

-- the blobs and the results that it keeps
abbrev pub blobs_of : {R A : Type 0} → FolderSource R A → Table A
blobs_of s = s.blobs

abbrev pub results_of : {R A : Type 0} → FolderSource R A → Table A
results_of s = s.results

-- nothing was read so far
pub record IsFreshFolder {R A : Type 0} (place : List ℕ) (s : FolderSource R A) : Type 0 where
  pub is : place_of s ≡ place
  pub blobs : (d : DigestValue) → HasAnswer (blobs_of s) d → ⊥
  pub results : (d : DigestValue) → HasAnswer (results_of s) d → ⊥
  pub failures : (telling_of s).failures ≡ 0
  pub calls : (telling_of s).calls ≡ 0
  pub unfailed : error_of s ≡ None

-- nothing stands at a path: it couldn't be read, for that
abbrev pub IsNothingAt : {A : Type 0} → (List ℕ → FileError A → Type 0) → List ℕ → Type 0
IsNothingAt {A} fails path = (e : FileError A) × fails path e × IsNotThere e

-- what was read of the file at a path: its bytes, or none where nothing stands there
abbrev pub IsReadAt : {A : Type 0} → (List ℕ → List ℕ → Type 0)
    → (List ℕ → FileError A → Type 0) → List ℕ → Option (List ℕ) → Type 0
IsReadAt reads fails path None = IsNothingAt fails path
IsReadAt reads fails path (Some bytes) = reads path bytes

-- A call that asked for the file at a path, of this digest. What is kept is told without the file,
-- so that no fault of it is a failure, and else it is told what was read. That no file is there is
-- no failure.
pub record LooksInFolder {A : Type 0}
    (reads : List ℕ → List ℕ → Type 0) (fails : List ℕ → FileError A → Type 0) (path : List ℕ)
    (d : DigestValue) (old new : Option (FileError A)) (before after : Table A)
    (result : Result (Option (Vec ℕ A)) FetchError) : Type 0 where
  pub kept : HasAnswer before d → IsErrOf result Failed → ⊥
  pub absent : HasAnswer before d → told_by before d ≡ None → result ≡ Ok None
  pub same : HasAnswer before d → KeepsAnswers before after
  pub held : IfOk result (λ answer. HasAnswer after d)
  pub unheld : OnErr result (KeepsAnswers before after)
  pub others : IsSameBut d before after
  pub read : (HasAnswer before d → ⊥)
      → IfOk result (λ answer. IsReadAt reads fails path (bytes_of answer))
  pub failed : IsErrOf result Failed → IsSomeAnd new (IsFaultAt path)
  pub fault : IsErrOf result Failed → IsSomeAnd new (fails path)
  pub real : IsErrOf result Failed → IsSomeAnd new (λ e. IsNotThere e → ⊥)
  pub unfailed : (IsErrOf result Failed → ⊥) → new ≡ old
