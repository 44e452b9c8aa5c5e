-- What the private functions that look up and add speak of.
use Rattle.std.specs.Prelude.{slice_get, Option, Some, None, ◌≡◌, ℕ, ◌≤◌, List, [], ◌∷◌, ◌++◌}
use Rattle.std.specs.Prelude.{Contains, length}
use Rattle.std.specs.Borrow.{Bor}
use Rattle.std.specs.List.{AllByRecursion, insert}
use Rattle.blob_digest.specs.Digest.{DigestValue}
use Rattle.messages.specs.DirectoryRules.{DirectoryValue}
use Rattle.messages.specs.Order.{bytes_cmp}
use Rattle.messages.specs.Path.{IsPath, Overlap, AreApart, parts_of}
use Rattle.messages.specs.declared.node.Node.{Node}
use Rattle.messages.specs.declared.node.Node.TheVariants.{Dir}
use Rattle.messages.specs.Tree.{TreeValue, child_digests}
use Rattle.messages.specs.Node.{child}
use Rattle.tree.specs.Lookup.{Looked, LooksFrom}
use Rattle.action_messages.specs.Ascending.{IsAscendingBy}
use Rattle.action_messages.specs.Overlaps.{texts_of}
use Rattle.actions.specs.declared.looking_up.Over.{Over}
use Rattle.actions.specs.OutcomeLookup.{IsFirstChild, NoFault, StandsOver}

-- ---- look-ups

-- the names of the text that is left of a path, if some is left
abbrev pub names_left : Option (Bor (List ℕ)) → List (List ℕ)
names_left None = []
names_left (Some text) = parts_of text.now

-- where the path at or above another stands, and that what is left of the other comes after its
-- names
abbrev pub IsOver : List (List (List ℕ)) → List (List ℕ) → Option Over → Type 0
IsOver paths path None = AllByRecursion (λ above. ¬ StandsOver above path) paths
IsOver paths path (Some over) =
    (above : List (List ℕ)) × (slice_get paths over.place ≡ Some above)
    × (path ≡ above ++ names_left over.below)

-- what stands below a directory of a tree, name by name
abbrev pub LooksUnder : TreeValue → DirectoryValue → List (List ℕ) → Looked → Type 0
LooksUnder t m [] r = ⊥
LooksUnder t m (name ∷ names) r = LooksFrom (IsFirstChild t) NoFault names (child name m) r

-- a node that is a directory has the digest of one of the tree's children
abbrev pub IsChildOf : {A : Type 0} → TreeValue → Node A → Type 0
IsChildOf t node = (digest : DigestValue) → node ≡ Dir digest → Contains (child_digests t) digest

-- ---- one more output

-- where a path would stand among others by the order of the texts, or that one of them leaves no
-- room for it
abbrev pub HasRoom : List (List (List ℕ)) → List (List ℕ) → Option ℕ → Type 0
HasRoom paths path None =
    (other : List (List ℕ)) × Contains paths other × Overlap other path
HasRoom paths path (Some place) =
    (place ≤ length paths) × AllByRecursion IsPath (insert paths place path)
    × IsAscendingBy bytes_cmp (texts_of (insert paths place path))
    × AreApart (insert paths place path)
