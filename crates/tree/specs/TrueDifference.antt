-- What a first difference says, by look-ups in both directories.
use Rattle.std.specs.Prelude.{◌≡◌, ◌≢◌, ◌⊎◌, ℕ, List, Some}
use Rattle.std.specs.declared.cmp.Ordering.TheVariants.{Less}
use Rattle.blob_digest.specs.Digest.{DigestValue}
use Rattle.messages.specs.declared.node.Node.TheVariants.{Dir}
use Rattle.messages.specs.DirectoryRules.{DirectoryValue}
use Rattle.tree.specs.Difference.{ReadsDirectory, FailsToRead, Differing, unexplained, absent}
use Rattle.tree.specs.Difference.{differs, unread}
use Rattle.tree.specs.Form.{NodeValue}
use Rattle.tree.specs.Lookup.{Looked, nothing, found, LooksFrom}
use Rattle.blob_source.specs.Source.{Blobs}
use Rattle.blob_source.specs.Told.{Fault}
use Rattle.tree.specs.Tree.{Name, path_cmp}

-- a look-up, where Directories are read from those that a graft made, and else from the source
abbrev pub LooksBeside : List (List ℕ) → Blobs → DigestValue → List Name → Looked → Type 0
LooksBeside own B d p r = LooksFrom (ReadsDirectory own B) (FailsToRead own B) p (Some (Dir d)) r

-- two look-ups come to one answer, or to a directory each
abbrev pub AreAlike : Looked → Looked → Type 0
AreAlike x y = (x ≡ y) ⊎ ((d e : DigestValue) × (x ≡ found (Dir d)) × (y ≡ found (Dir e)))

-- At a path a look-up comes to x in the graft and to y in the recorded directory, and at each path
-- before it, in the order of paths, both come to the same, or to directories.
pub record StandFirst (own : List (List ℕ)) (B : Blobs) (g r : DigestValue) (path : List Name)
    (x y : Looked) : Type 0 where
  pub grafted : LooksBeside own B g path x
  pub recorded : LooksBeside own B r path y
  pub before : (q : List Name) (v w : Looked) → path_cmp q path ≡ Less
      → LooksBeside own B g q v → LooksBeside own B r q w → AreAlike v w

-- At a path look-ups in the graft and in the recorded directory come to directories, of which one
-- can't be read: the recorded one, or the graft's where the recorded one can be.
pub record StandUnread (own : List (List ℕ)) (B : Blobs) (g r : DigestValue) (f : Fault)
    : Type 0 where
  pub path : List Name
  pub grafted : DigestValue
  pub recorded : DigestValue
  pub first : StandFirst own B g r path (found (Dir grafted)) (found (Dir recorded))
  pub fails : FailsToRead own B recorded f
      ⊎ ((m : DirectoryValue) × ReadsDirectory own B recorded m × FailsToRead own B grafted f)

-- what is found is a difference, and the first
abbrev pub IsTrueDifference : List (List ℕ) → Blobs → DigestValue → DigestValue → Differing → Type 0
IsTrueDifference own B g r (unexplained path) =
    (y : NodeValue) × StandFirst own B g r path nothing (found y)
IsTrueDifference own B g r (absent path) =
    (x : NodeValue) × StandFirst own B g r path (found x) nothing
IsTrueDifference own B g r (differs path) =
    (x y : NodeValue) × (x ≢ y) × StandFirst own B g r path (found x) (found y)
IsTrueDifference own B g r (unread f) = StandUnread own B g r f
