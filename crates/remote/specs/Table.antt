-- Answers that were kept.
use Rattle.std.specs.Prelude.{◌≡◌, ◌≢◌, ℕ, List, Option, Some, None}
use Rattle.std.specs.declared.vec.Vec.{Vec}
use Rattle.std.specs.BTreeMap.{get}
use Rattle.blob_digest.specs.Digest.{DigestValue, digest_cmp}
use Rattle.blob_source.specs.Source.{Blobs, bytes_of}
use Rattle.remote.specs.declared.table.Table.{Table}

-- the bytes of an answer that may not be there
abbrev pub bytes_kept : {A : Type 0} → Option (Option (Vec ℕ A)) → Option (List ℕ)
bytes_kept None = None
bytes_kept (Some answer) = bytes_of answer

-- what is kept under each digest: no answer, or one that has bytes or none
abbrev pub answers : {A : Type 0} → Table A → DigestValue → Option (Option (Vec ℕ A))
answers t d = get digest_cmp t.answers d

-- the bytes that are kept under each digest
abbrev pub told_by : {A : Type 0} → Table A → Blobs
told_by t d = bytes_kept (answers t d)

-- an answer is kept under the digest, be it that nothing is there
abbrev pub HasAnswer : {A : Type 0} → Table A → DigestValue → Type 0
HasAnswer t d = answers t d ≢ None

-- the answer that nothing is there is kept
abbrev pub KeepsNone : {A : Type 0} → Table A → DigestValue → Type 0
KeepsNone t d = answers t d ≡ Some None

-- under the other digests is kept what was
abbrev pub IsSameBut : {A : Type 0} → DigestValue → Table A → Table A → Type 0
IsSameBut d old new = (e : DigestValue) → e ≢ d → answers new e ≡ answers old e

-- under each digest is kept what was
pub record KeepsAnswers {A : Type 0} (old new : Table A) : Type 0 where
  pub same : (e : DigestValue) → answers new e ≡ answers old e
