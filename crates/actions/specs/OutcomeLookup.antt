-- Looking up a path in an outcome: at an output's path, or below that of a whole directory.
use Rattle.std.specs.Prelude.{◌≡◌, ◌⊎◌, ℕ, List, [], ◌∷◌, ◌++◌}
use Rattle.std.specs.Prelude.{Contains}
use Rattle.std.specs.List.{AllByRecursion}
use Rattle.blob_digest.specs.Digest.{DigestValue}
use Rattle.messages.specs.DirectoryRules.{DirectoryValue, symlink_names}
use Rattle.messages.specs.Tree.{TreeValue}
use Rattle.messages.specs.Node.{child}
use Rattle.blob_source.specs.Told.{Fault}
use Rattle.tree.specs.Lookup.{Looked, nothing, found, LooksFrom}
use Rattle.tree.specs.Merging.{IsFirstIn, WithinValue, in_source, in_tree}
use Rattle.actions.specs.declared.outcome.Output.TheVariants.{File, Link, Tree}
use Rattle.actions.specs.Outcome.{OutputValue, OutcomeValue, output_node, tree_node}

-- the first of the directories below a tree's root whose encoding has the digest
abbrev pub IsFirstChild : TreeValue → DigestValue → DirectoryValue → Type 0
IsFirstChild t = IsFirstIn t.children

-- Within a tree nothing is read that could be missing or wrong.
abbrev pub NoFault : DigestValue → Fault → Type 0
NoFault digest f = ⊥

-- What stands in a tree below its root, name by name. The root itself is the tree's own; each
-- directory below it is the first with its digest.
abbrev pub LooksInTree : TreeValue → List (List ℕ) → Looked → Type 0
LooksInTree t [] r = r ≡ found (tree_node t)
LooksInTree t (name ∷ names) r = LooksFrom (IsFirstChild t) NoFault names (child name t.root) r

-- What stands below an output. Without names it is the output itself; a file or a link has nothing
-- below it.
abbrev pub LooksBelow : OutputValue → List (List ℕ) → Looked → Type 0
LooksBelow (Tree t) names r = LooksInTree t names r
LooksBelow x [] r = r ≡ found (output_node x)
LooksBelow x (name ∷ names) r = r ≡ nothing

-- an output's path is the path itself, or the path lies under it
abbrev pub StandsOver : List (List ℕ) → List (List ℕ) → Type 0
StandsOver above path = (names : List (List ℕ)) × (path ≡ above ++ names)

-- What stands at a path: what stands below the output that is at or above it, and nothing where
-- there is none.
abbrev pub LooksIn : OutcomeValue → List (List ℕ) → Looked → Type 0
LooksIn o path r =
    ((e : List (List ℕ) × OutputValue) × Contains o.outputs e × (names : List (List ℕ))
    × (path ≡ e.0 ++ names) × LooksBelow e.1 names r)
    ⊎ (AllByRecursion (λ e. ¬ StandsOver e.0 path) o.outputs × (r ≡ nothing))

-- where the Directories below an output are read: in its own Tree, where it is one
abbrev pub within_output : OutputValue → WithinValue
within_output (Tree t) = in_tree t
within_output x = in_source

-- where the Directories below a path are read: as those of the output that is at or above it
abbrev pub LiesWithin : OutcomeValue → List (List ℕ) → WithinValue → Type 0
LiesWithin o path within =
    (e : List (List ℕ) × OutputValue) × Contains o.outputs e × StandsOver e.0 path
    × (within ≡ within_output e.1)

-- a symbolic link in a tree has one of the names
abbrev pub NamesLink : TreeValue → List (List ℕ) → Type 0
NamesLink t names = (m : DirectoryValue) × Contains (t.root ∷ t.children) m × (name : List ℕ)
    × Contains names name × Contains (symlink_names m.symlinks) name

-- What takes memory below an output: the target of a link, and the encoding of a tree's root.
abbrev pub TakesMemory : OutputValue → List (List ℕ) → Type 0
TakesMemory (File digest executable) names = ⊥
TakesMemory (Link target) names = names ≡ []
TakesMemory (Tree t) [] = Unit {0}
TakesMemory (Tree t) (name ∷ names) = NamesLink t (name ∷ names)

-- what is below the output that is at or above a path takes memory
abbrev pub LooksWithMemory : OutcomeValue → List (List ℕ) → Type 0
LooksWithMemory o path = (e : List (List ℕ) × OutputValue) × Contains o.outputs e
    × (names : List (List ℕ)) × (path ≡ e.0 ++ names) × TakesMemory e.1 names
