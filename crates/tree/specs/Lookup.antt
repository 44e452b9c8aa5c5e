-- Looking up a path by digests, Directory by Directory.
use Rattle.std.specs.Prelude.{◌≡◌, ◌⊎◌, ℕ, List, [], ◌∷◌, Option, Some, None}
use Rattle.blob_digest.specs.Digest.{DigestValue}
use Rattle.messages.specs.declared.node.Node.{Node}
use Rattle.messages.specs.declared.node.Node.TheVariants.{File, Link, Dir}
use Rattle.messages.specs.DirectoryRules.{DirectoryValue}
use Rattle.messages.specs.Node.{child}
use Rattle.tree.specs.Tree.{Name}
use Rattle.tree.specs.Form.{NodeValue, node_value}
use Rattle.blob_source.specs.Source.{Blobs}
use Rattle.blob_source.specs.Told.{Fault, TellsDirectory, FailsDirectory}

-- what a look-up comes to: a fault on the way, nothing, or a node
pub data Looked : Type 0 where
  fault : Fault → Looked
  nothing : Looked
  found : NodeValue → Looked

-- From a node the names of the path are taken one after another. Only a directory has names below
-- it: the Directory that is read under its digest must have a child of that name. `Reads` and
-- `Fails` say which Directory stands under a digest, or why none does.
abbrev pub LooksFrom : (DigestValue → DirectoryValue → Type 0) → (DigestValue → Fault → Type 0)
    → List Name → Option NodeValue → Looked → Type 0
LooksFrom Reads Fails p None r = r ≡ nothing
LooksFrom Reads Fails [] (Some x) r = r ≡ found x
LooksFrom Reads Fails (n ∷ p) (Some (File d executable)) r = r ≡ nothing
LooksFrom Reads Fails (n ∷ p) (Some (Link target)) r = r ≡ nothing
LooksFrom Reads Fails (n ∷ p) (Some (Dir d)) r =
    ((m : DirectoryValue) × Reads d m × LooksFrom Reads Fails p (child n m) r)
    ⊎ ((f : Fault) × Fails d f × (r ≡ fault f))

-- from the directory with a digest, in what a source tells. Without names it is that directory, and
-- nothing is read
abbrev pub Looks : Blobs → DigestValue → List Name → Looked → Type 0
Looks B d p r = LooksFrom (TellsDirectory B) (FailsDirectory B) p (Some (Dir d)) r

-- ---- what look-ups tell of trees

-- a blob that the source has under some digest
abbrev pub IsValue : Blobs → List ℕ → Type 0
IsValue B b = (d : DigestValue) × (B d ≡ Some b)

-- a node only where it is the form of what stands there, and nothing only where nothing does
abbrev pub AgreesWith : Option NodeValue → Looked → Type 0
AgreesWith o (fault f) = Unit {0}
AgreesWith o nothing = o ≡ None
AgreesWith o (found x) = o ≡ Some x

-- the names of a path, and none where there is no path
abbrev pub names_in : Option (List Name) → List Name
names_in None = []
names_in (Some p) = p

-- what an answer says: a node, or that nothing is there
abbrev pub looked : {A : Type 0} → Option (Node A) → Looked
looked None = nothing
looked (Some x) = found (node_value x)
