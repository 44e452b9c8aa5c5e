-- What merging lines looks at: the Directories that are read, as far as what comes before them
-- passes.
use Rattle.std.specs.Prelude.{◌⊎◌, ℕ, zero, suc, List, [], ◌∷◌, ◌++◌, Option, Some, None}
use Rattle.messages.specs.declared.node.Node.TheVariants.{Dir}
use Rattle.blob_source.specs.Source.{Blobs}
use Rattle.tree.specs.Tree.{Name, Entry}
use Rattle.tree.specs.Form.{NodeValue}
use Rattle.tree.specs.Memo.{Asked, LooksAtBlob}
use Rattle.tree.specs.Stage.{Stage}
use Rattle.tree.specs.Merging.{WithinValue, in_source, NodeWithin, MergeLines}
use Rattle.tree.specs.Merging.{grouped, counted, CanMeet, line_opened, opened, lone, entry_merged}
use Rattle.tree.specs.Merging.{merged_in}

-- A check looks at some things, and where it passes those after it look at theirs.
unfoldable pub looks : {E V : Type 0} → Stage E V → (Asked → Type 0) → (V → Asked → Type 0) → Asked
    → Type 0
looks {E} {V} check Here next a = Here a ⊎ ((v : V) × check.passes v × next v a)

-- A Tree is there, and no source is looked at for a Directory of it.
abbrev pub NodeLooksAt : WithinValue → NodeValue → Asked → Type 0
NodeLooksAt in_source (Dir d) a = LooksAtBlob d a
NodeLooksAt within x a = ⊥

abbrev pub LineLooksAt : List Name → NodeWithin → Asked → Type 0
LineLooksAt [] g a = NodeLooksAt g.within g.node a
LineLooksAt (n ∷ p) g a = ⊥

abbrev pub OpenedLooksAt : Blobs → MergeLines → Asked → Type 0
OpenedLooksAt B [] a = ⊥
OpenedLooksAt B (l ∷ ls) a =
    looks (line_opened B l.0 l.1) (LineLooksAt l.0 l.1) (λ _. OpenedLooksAt B ls) a

abbrev pub MetLooksAt : Blobs → (MergeLines → Asked → Type 0) → ℕ → MergeLines → Asked → Type 0
MetLooksAt B Below deeper ls a =
    CanMeet deeper ls × looks (opened B ls) (OpenedLooksAt B ls) Below a

abbrev pub StandsOrLooksAt : Option NodeValue → Type 0 → Type 0
StandsOrLooksAt (Some x) Others = ⊥
StandsOrLooksAt None Others = Others

abbrev pub EachLooksAt : {X E L : Type 0} → (Name → X → Stage E (Entry L))
    → (Name → X → Asked → Type 0) → List (Name × X) → Asked → Type 0
EachLooksAt at Looks [] a = ⊥
EachLooksAt at Looks (g ∷ gs) a =
    looks (at g.0 g.1) (Looks g.0 g.1) (λ _. EachLooksAt at Looks gs) a

abbrev pub MergeLooksIn : Blobs → ℕ → List Name → MergeLines → Asked → Type 0
MergeLooksIn B zero path ls a = ⊥
MergeLooksIn B (suc deeper) path ls a =
    EachLooksAt (λ n given. entry_merged B (merged_in B deeper (path ++ n ∷ [])) deeper
    (path ++ n ∷ []) (counted [] given))
    (λ n given b. StandsOrLooksAt (lone (counted [] given))
    (MetLooksAt B (MergeLooksIn B deeper (path ++ n ∷ [])) deeper (counted [] given) b))
    (grouped ls) a

-- all that is looked at, up to the first fault
unfoldable pub MergeLooksAt : Blobs → MergeLines → Asked → Type 0
MergeLooksAt B ls a = MergeLooksIn B 64 [] ls a
