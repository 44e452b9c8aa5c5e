-- Why a tree isn't written.
use Rattle.std.specs.Prelude.{◌≡◌, ◌≢◌, ◌⊎◌, ℕ, Bool, List, [], ◌∷◌, ◌++◌, string_bytes}
use Rattle.std.specs.IoError.{error_kind}
use Rattle.std.specs.declared.io.Error.{Error}
use Rattle.std.specs.declared.io.ErrorKind.TheVariants.{OutOfMemory}
use Rattle.blob_digest.specs.Digest.{DigestValue}
use Rattle.messages.specs.Path.{path_text}
use Rattle.messages.specs.declared.node.Node.TheVariants.{File}
use Rattle.blob_source.specs.Source.{Blobs, IsMissing, IsWrong}
use Rattle.blob_source.specs.Told.{missing, wrong, malformed}
use Rattle.tree.specs.declared.error.TreeError.{TreeError}
use Rattle.tree.specs.declared.error.TreeError.TheVariants as trees
use Rattle.tree.specs.Tree.{Name, Standing, a_leaf}
use Rattle.tree.specs.Form.{NodeValue}
use Rattle.tree.specs.FlatTree.{FlatValue}
use Rattle.tree.specs.Unfolded.{IsUnfolded, IsDeep, IsFaultBelow}
use Rattle.checkout.specs.Folder.{FolderValue, Tried, Written}
use Rattle.checkout.specs.Written.{AreWritten, Reach, place_below, places_of}
use Rattle.checkout.specs.Written.Reach.{of_tree, of_entries}
use Rattle.checkout.specs.declared.error.CheckoutError.{CheckoutError}
use Rattle.checkout.specs.declared.error.CheckoutError.TheVariants.{Missing, Wrong, Malformed}
use Rattle.checkout.specs.declared.error.CheckoutError.TheVariants.{TooDeep, Fetch, Place, Memory}

-- what the system refused at a path, with its error
abbrev pub Refuses : Type 1
Refuses = List ℕ → Error → Type 0

-- why a content isn't had: nothing or other bytes are told under its digest, unless the source
-- failed or memory ran out
abbrev pub FailsContent : {A : Type 0} → Blobs → DigestValue → CheckoutError A → Type 0
FailsContent B d (Missing e) = (e ≡ d) × IsMissing B d
FailsContent B d (Wrong e) = (e ≡ d) × IsWrong B d
FailsContent B d Fetch = Unit {0}
FailsContent B d Memory = Unit {0}
FailsContent B d e = ⊥

-- why a tree isn't had, the first reason in the order of paths: a Directory of it isn't told, or it
-- is too deep, unless the source failed or memory ran out
abbrev pub FailsTree : {A : Type 0} → Blobs → DigestValue → CheckoutError A → Type 0
FailsTree B d (Missing e) = IsFaultBelow B d [] e (missing e)
FailsTree B d (Wrong e) = IsFaultBelow B d [] e (wrong e)
FailsTree B d (Malformed e) = IsFaultBelow B d [] e (malformed e)
FailsTree B d (TooDeep path) = IsDeep B d [] path
FailsTree B d Fetch = Unit {0}
FailsTree B d Memory = Unit {0}
FailsTree B d (Place p fault) = ⊥

-- the errors that unfolding a tree may come to
abbrev pub StopsUnfold : {A : Type 0} → TreeError A → Type 0
StopsUnfold (trees.Absent path) = ⊥
StopsUnfold (trees.Conflict path) = ⊥
StopsUnfold e = Unit {0}

-- Why the system made nothing at a path, which it refused. Lack of memory is told as that, and no
-- other error is.
abbrev pub FailsPlace : {A : Type 0} → Refuses → List ℕ → CheckoutError A → Type 0
FailsPlace refuses place (Place p fault) = (error_kind fault ≢ OutOfMemory)
    × (string_bytes p ≡ place) × refuses place fault
FailsPlace refuses place Memory = (fault : Error) × (error_kind fault ≡ OutOfMemory)
    × refuses place fault
FailsPlace refuses place e = ⊥

-- Why no call is made for an entry: memory ran out, or it is a file whose content isn't had.
abbrev pub FailsUntried : {A : Type 0} → Blobs → Standing NodeValue → CheckoutError A → Type 0
FailsUntried B s e = (e ≡ Memory)
    ⊎ ((d : DigestValue) × (x : Bool) × (s ≡ a_leaf (File d x)) × FailsContent B d e)

-- Why an entry isn't written: no call is made for it, or the one that is made makes nothing.
pub data FailsOneEntry {A : Type 0} (refuses : Refuses) (tries : Tried) (B : Blobs)
    (place : List ℕ) (s : Standing NodeValue) (e : CheckoutError A) : Type 0 where
  untried : tries [] → FailsUntried B s e → FailsOneEntry refuses tries B place s e
  refused : tries (place ∷ []) → FailsPlace refuses place e
      → FailsOneEntry refuses tries B place s e

-- Why entries aren't written: one isn't, and those before it are, by a call each. `has` says what a
-- folder has after these, and `asks` that no content was asked for but theirs and that one's.
pub record FailsEntries {A : Type 0} (has : List (List ℕ × Written) → Type 0) (refuses : Refuses)
    (tries : Tried) (asks : FlatValue → Type 0) (B : Blobs) (folder : List ℕ)
    (entries : FlatValue) (e : CheckoutError A) : Type 0 where
  pub done : FlatValue
  pub path : List Name
  pub standing : Standing NodeValue
  pub left : FlatValue
  pub whole : entries ≡ done ++ (path, standing) ∷ left
  pub written : List (List ℕ × Written)
  pub of_done : AreWritten B folder done written
  pub before : has written
  pub asked : asks (done ++ (path, standing) ∷ [])
  pub fails : FailsOneEntry refuses (λ more. tries (places_of folder done ++ more)) B
      (place_below folder (path_text path)) standing e

-- Why the tree under a digest isn't written, the first reason, and what was tried and asked for
-- until then: it isn't had, and nothing was tried; or the folder isn't taken, that alone was tried
-- and no content asked for; or one of the tree's entries isn't written, while the folder has those
-- before it.
pub data FailsCheckout {A : Type 0} (has : FolderValue → Type 0) (refuses : Refuses)
    (tries : Tried) (asks : Reach → Type 0) (B : Blobs) (d : DigestValue) (folder : List ℕ)
    (e : CheckoutError A) : Type 0 where
  in_tree : tries [] → asks of_tree → FailsTree B d e
      → FailsCheckout has refuses tries asks B d folder e
  in_folder : (entries : FlatValue) → IsUnfolded B d entries → tries (folder ∷ [])
      → asks (of_entries entries []) → FailsPlace refuses folder e
      → FailsCheckout has refuses tries asks B d folder e
  in_entries : (entries : FlatValue) → IsUnfolded B d entries
      → FailsEntries (λ written. has (record { path = folder; written = written })) refuses
      (λ more. tries (folder ∷ more)) (λ some. asks (of_entries entries some)) B folder entries e
      → FailsCheckout has refuses tries asks B d folder e
