-- The first difference of a graft and of a directory that a source tells, by the names in their
-- paths.
use Rattle.std.specs.Prelude.{◌≡◌, ◌≢◌, ◌⊎◌, ℕ, zero, suc, List, [], ◌∷◌, ◌++◌, Option, Some}
use Rattle.std.specs.Prelude.{None}
use Rattle.std.specs.List.{AllByRecursion}
use Rattle.std.specs.declared.cmp.Ordering.TheVariants.{Less}
use Rattle.blob_digest.specs.Digest.{DigestValue, digest_of}
use Rattle.messages.specs.declared.node.Node.TheVariants.{Dir}
use Rattle.messages.specs.DirectoryRules.{DirectoryValue, IsDirectory}
use Rattle.messages.specs.Directory.{directory_bytes}
use Rattle.messages.specs.Node.{child}
use Rattle.tree.specs.Tree.{Name, name_cmp}
use Rattle.tree.specs.Form.{NodeValue}
use Rattle.blob_source.specs.Source.{Blobs}
use Rattle.blob_source.specs.Told.{Fault, missing, wrong, malformed, TellsDirectory, FailsDirectory}
use Rattle.tree.specs.declared.difference.Difference.{Difference}
use Rattle.tree.specs.declared.difference.Difference.TheVariants.{Unexplained, Absent, Differs}
use Rattle.tree.specs.declared.error.TreeError.{TreeError}
use Rattle.tree.specs.declared.error.TreeError.TheVariants as errors
use Rattle.tree.specs.declared.folding.Folded.{Folded}
use Rattle.tree.specs.Folded.{items_of}

-- ---- where Directories are read

-- the first of the encodings that has the digest
pub record IsFirstOf (own : List (List ℕ)) (d : DigestValue) (encoding : List ℕ) : Type 0 where
  pub before : List (List ℕ)
  pub behind : List (List ℕ)
  pub stands : own ≡ before ++ encoding ∷ behind
  pub right : digest_of encoding ≡ d
  pub first : AllByRecursion (λ other. digest_of other ≢ d) before

-- no encoding has the digest
abbrev pub IsNoneOf : List (List ℕ) → DigestValue → Type 0
IsNoneOf own d = AllByRecursion (λ other. digest_of other ≢ d) own

-- A Directory is read from those that the graft made, and else from what the source tells.
abbrev pub ReadsDirectory : List (List ℕ) → Blobs → DigestValue → DirectoryValue → Type 0
ReadsDirectory own B d m =
    (IsDirectory m × IsFirstOf own d (directory_bytes m)) ⊎ (IsNoneOf own d × TellsDirectory B d m)

abbrev pub FailsToRead : List (List ℕ) → Blobs → DigestValue → Fault → Type 0
FailsToRead own B d f = IsNoneOf own d × FailsDirectory B d f

-- Under the digest of each of the encodings the same is told as before. A call that asks for one
-- may tell more, so none does.
pub record LeavesOwn (own : List (List ℕ)) (old new : Blobs) : Type 0 where
  pub same : AllByRecursion (λ b. new (digest_of b) ≡ old (digest_of b)) own

-- ---- the first difference

-- what is found: a path that only the recorded directory has, one that only the graft has, one at
-- which they differ; or a Directory that can't be read
pub data Differing : Type 0 where
  unexplained : List Name → Differing
  absent : List Name → Differing
  differs : List Name → Differing
  unread : Fault → Differing

-- the child of a name
abbrev pub child_of : Name → DirectoryValue → Option NodeValue
child_of n m = child n m

-- the least name at which two Directories differ
pub record IsFirstName (grafted recorded : DirectoryValue) (n : Name) : Type 0 where
  pub same : (k : Name) → name_cmp k n ≡ Less → child_of k grafted ≡ child_of k recorded
  pub other : child_of n grafted ≢ child_of n recorded

-- what is found at a name that differs, below which paths may have `deeper` more names: two
-- directories there are compared in turn, unless their path has 64 names
abbrev pub FindsAt : ℕ → List Name → Option NodeValue → Option NodeValue
    → (DigestValue → DigestValue → Type 0) → Differing → Type 0
FindsAt deeper path None None Next found = ⊥
FindsAt deeper path None (Some y) Next found = found ≡ unexplained path
FindsAt deeper path (Some x) None Next found = found ≡ absent path
FindsAt (suc deeper) path (Some (Dir g)) (Some (Dir r)) Next found = Next g r
FindsAt deeper path (Some x) (Some y) Next found = found ≡ differs path

-- What is found between a graft's directory g and a recorded one r at a path, below which paths may
-- have `deeper` more names. The recorded Directory is read first.
abbrev pub Finds : List (List ℕ) → Blobs → ℕ → List Name → DigestValue → DigestValue → Differing
    → Type 0
Finds own B zero path g r found = ⊥
Finds own B (suc deeper) path g r found =
    ((f : Fault) × FailsToRead own B r f × (found ≡ unread f))
    ⊎ ((m : DirectoryValue) × ReadsDirectory own B r m
    × (((f : Fault) × FailsToRead own B g f × (found ≡ unread f))
    ⊎ ((k : DirectoryValue) × ReadsDirectory own B g k × (n : Name) × IsFirstName k m n
    × FindsAt deeper (path ++ n ∷ []) (child_of n k) (child_of n m)
    (λ x y. Finds own B deeper (path ++ n ∷ []) x y found) found)))

-- between the roots
abbrev pub FindsFirst : List (List ℕ) → Blobs → DigestValue → DigestValue → Differing → Type 0
FindsFirst own B g r found = Finds own B 64 [] g r found

-- ---- what the code keeps

-- the encodings that a graft made
abbrev pub made_by : {A : Type 0} → Folded A → List (List ℕ)
made_by grafted = items_of grafted.directories.items

abbrev pub differing : {A : Type 0} → Difference A → Differing
differing (Unexplained path) = unexplained path
differing (Absent path) = absent path
differing (Differs path) = differs path

-- Why no difference was answered: a Directory can't be read, unless the source failed or memory ran
-- out.
abbrev pub ExplainsDifference : {A : Type 0} → (Differing → Type 0) → TreeError A → Type 0
ExplainsDifference Found (errors.Absent path) = ⊥
ExplainsDifference Found (errors.BlobMissing e) = Found (unread (missing e))
ExplainsDifference Found (errors.BlobWrong e) = Found (unread (wrong e))
ExplainsDifference Found (errors.BlobMalformed e) = Found (unread (malformed e))
ExplainsDifference Found (errors.TooDeep path) = ⊥
ExplainsDifference Found (errors.Conflict path) = ⊥
ExplainsDifference Found errors.Fetch = Unit {0}
ExplainsDifference Found errors.Memory = Unit {0}
