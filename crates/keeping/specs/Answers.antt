-- Answers that are kept, by the digests that were asked for.
use Rattle.std.specs.Prelude.{◌≡◌, ◌≢◌, ℕ, List, Option, Some, None, option_map}
use Rattle.std.specs.BTreeMap.{get}
use Rattle.blob_digest.specs.Digest.{DigestValue, digest_cmp}
use Rattle.blob_source.specs.Source.{bytes_of}
use Rattle.keeping.specs.declared.answers.Answers.{Answers}

-- what is kept under a digest: no answer, or one that has bytes or none
abbrev pub answer_at : {A : Type 0} → Answers A → DigestValue → Option (Option (List ℕ))
answer_at kept d = option_map bytes_of (get digest_cmp kept.answers d)

-- an answer is kept under the digest, and under the others what was
pub record Keeps {A : Type 0} (old new : Answers A) (d : DigestValue) (answer : Option (List ℕ))
    : Type 0 where
  pub here : answer_at new d ≡ Some answer
  pub others : (e : DigestValue) → e ≢ d → answer_at new e ≡ answer_at old e

-- under each digest is kept what was
pub record IsSame {A : Type 0} (old new : Answers A) : Type 0 where
  pub same : (d : DigestValue) → answer_at new d ≡ answer_at old d

-- nothing was asked for
abbrev pub IsEmpty : {A : Type 0} → Answers A → Type 0
IsEmpty kept = (d : DigestValue) → answer_at kept d ≡ None
