-- What sources told, as it is kept.
use Rattle.std.specs.Prelude.{◌≡◌, ◌++◌, ℕ, Bool, false, true, List, Option, codes}
use Rattle.archive.specs.Writing.{EntryValue}
use Rattle.blob_digest.specs.Digest.{DigestValue}
use Rattle.keeping.specs.Answers.{IsSame, Keeps}
use Rattle.keeping.specs.declared.answers.Answers.{Answers}
use Rattle.keeping.specs.declared.kept.Kept.{Kept}
use Rattle.keeping.specs.Told.{told_files}

module _ {A : Type 0} where
  -- whether it keeps what is told
  abbrev pub does_keep : Kept A → Bool
  does_keep kept = kept.keeps

  abbrev pub blobs_of : Kept A → Answers A
  blobs_of kept = kept.blobs

  abbrev pub results_of : Kept A → Answers A
  results_of kept = kept.results

  -- the answer to a request for a blob was kept, where any is, and the rest stays
  pub record KeepsBlob (old new : Kept A) (d : DigestValue) (answer : Option (List ℕ))
      : Type 0 where
    pub kept : does_keep old ≡ true → Keeps (blobs_of old) (blobs_of new) d answer
    pub idle : does_keep old ≡ false → blobs_of new ≡ blobs_of old
    pub results : results_of new ≡ results_of old
    pub as_before : does_keep new ≡ does_keep old

  -- the answer to a request for a result was kept, where any is, and the rest stays
  pub record KeepsResult (old new : Kept A) (d : DigestValue) (answer : Option (List ℕ))
      : Type 0 where
    pub kept : does_keep old ≡ true → Keeps (results_of old) (results_of new) d answer
    pub idle : does_keep old ≡ false → results_of new ≡ results_of old
    pub blobs : blobs_of new ≡ blobs_of old
    pub as_before : does_keep new ≡ does_keep old

  -- under each digest is kept what was
  pub record IsSameKept (old new : Kept A) : Type 0 where
    pub blobs : IsSame (blobs_of old) (blobs_of new)
    pub results : IsSame (results_of old) (results_of new)
    pub as_before : does_keep new ≡ does_keep old

  -- files, and behind them those of what was told: of the results, and of the blobs
  abbrev pub kept_entries : List EntryValue → Kept A → List EntryValue
  kept_entries texts kept =
      texts ++ told_files (codes "ac") (results_of kept) ++ told_files (codes "cas") (blobs_of kept)
