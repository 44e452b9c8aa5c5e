-- What two sources tell: one more than the other, or the same wherever something is looked at; and
-- what a verdict says is missing.
use Rattle.std.specs.Prelude.{◌≡◌}
use Rattle.blob_digest.specs.Digest.{DigestValue}
use Rattle.blob_source.specs.Source.{Telling, Grows}
use Rattle.tree.specs.Memo.{Asked, blob, result}
use Rattle.verifier.specs.declared.verdict.Cause.TheVariants.{BlobMissing, ResultMissing}
use Rattle.verifier.specs.declared.verdict.Verdict.{Verdict}
use Rattle.verifier.specs.declared.verdict.Verdict.TheVariants.{No}

-- Each blob and each result that one source tells, another tells too: it tells more, or the one
-- forgot.
pub record TellsMore (fewer more : Telling) : Type 0 where
  pub blobs : Grows fewer.blobs more.blobs
  pub results : Grows fewer.results more.results

-- Wherever something is looked at, two sources tell the same, or nothing both.
pub record TellAlike (Looks : Asked → Type 0) (one other : Telling) : Type 0 where
  pub blobs : (d : DigestValue) → Looks (blob d) → other.blobs d ≡ one.blobs d
  pub results : (d : DigestValue) → Looks (result d) → other.results d ≡ one.results d

-- The verdict is no since a blob is missing, or the result of a recorded action.
abbrev pub IsForMissing : {A : Type 0} → Verdict A → Type 0
IsForMissing (No place (BlobMissing d)) = Unit {0}
IsForMissing (No place ResultMissing) = Unit {0}
IsForMissing verdict = ⊥
