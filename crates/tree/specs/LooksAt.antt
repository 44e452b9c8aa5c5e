-- What a look-up, unfolding and a comparison look at: by what a source tells, the Directories on
-- their way.
use Rattle.std.specs.Prelude.{◌⊎◌, ℕ, zero, suc, List, [], ◌∷◌, Option, Some, None}
use Rattle.blob_digest.specs.Digest.{DigestValue}
use Rattle.messages.specs.declared.node.Node.TheVariants.{File, Link, Dir}
use Rattle.messages.specs.DirectoryRules.{DirectoryValue}
use Rattle.messages.specs.Node.{child}
use Rattle.tree.specs.Tree.{Name}
use Rattle.tree.specs.Form.{NodeValue}
use Rattle.blob_source.specs.Source.{Blobs}
use Rattle.blob_source.specs.Told.{TellsDirectory}
use Rattle.tree.specs.Difference.{IsNoneOf, ReadsDirectory, child_of, IsFirstName}
use Rattle.tree.specs.Lookup.{Looks, found}
use Rattle.tree.specs.Memo.{Asked, LooksAtBlob}

-- on the way of a look-up of names from a node: each directory that has a name below it
abbrev pub OnWayFrom : Blobs → List Name → Option NodeValue → Asked → Type 0
OnWayFrom B p None a = ⊥
OnWayFrom B [] (Some x) a = ⊥
OnWayFrom B (n ∷ p) (Some (File d executable)) a = ⊥
OnWayFrom B (n ∷ p) (Some (Link target)) a = ⊥
OnWayFrom B (n ∷ p) (Some (Dir d)) a =
    LooksAtBlob d a ⊎ ((m : DirectoryValue) × TellsDirectory B d m × OnWayFrom B p (child n m) a)

-- from the directory with a digest
abbrev pub OnWay : Blobs → DigestValue → List Name → Asked → Type 0
OnWay B d p a = OnWayFrom B p (Some (Dir d)) a

-- unfolding: each directory that a look-up finds
abbrev pub UnfoldLooksAt : Blobs → DigestValue → Asked → Type 0
UnfoldLooksAt B d a =
    (p : List Name) × (e : DigestValue) × Looks B d p (found (Dir e)) × LooksAtBlob e a

-- A Directory that the graft made is its own, and no source is looked at for it.
abbrev pub LooksAtOther : List (List ℕ) → DigestValue → Asked → Type 0
LooksAtOther own d a = IsNoneOf own d × LooksAtBlob d a

-- two directories, which are compared in turn
abbrev pub ComparesBoth : Option NodeValue → Option NodeValue
    → (DigestValue → DigestValue → Type 0) → Type 0
ComparesBoth (Some (Dir g)) (Some (Dir r)) Next = Next g r
ComparesBoth x y Next = ⊥

-- Between a graft's directory g and a recorded one r, below which paths may have `deeper` more
-- names: the recorded Directory, then the graft's, and then those at the first name that differs.
abbrev pub Compares : List (List ℕ) → Blobs → ℕ → DigestValue → DigestValue → Asked → Type 0
Compares own B zero g r a = ⊥
Compares own B (suc deeper) g r a =
    LooksAtOther own r a
    ⊎ ((m : DirectoryValue) × ReadsDirectory own B r m
    × (LooksAtOther own g a
    ⊎ ((k : DirectoryValue) × ReadsDirectory own B g k × (n : Name) × IsFirstName k m n
    × ComparesBoth (child_of n k) (child_of n m) (λ x y. Compares own B deeper x y a))))
