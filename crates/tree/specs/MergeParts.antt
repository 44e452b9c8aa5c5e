-- What the private functions that merge lines speak of: lines as they are kept.
use Rattle.std.specs.Prelude.{◌≡◌, ℕ, Bool, not, List, [], ◌∷◌, ◌++◌, map, Option, Some, None}
use Rattle.std.specs.Prelude.{slice_get, if◌then◌else◌}
use Rattle.std.specs.List.{AllByRecursion, list_any}
use Rattle.std.specs.FinMap.Entries.{by_order}
use Rattle.std.specs.declared.vec.Vec.{Vec}
use Rattle.messages.specs.declared.node.Node.{Node}
use Rattle.tree.specs.declared.merging.Part.{Part}
use Rattle.tree.specs.declared.merging.Within.{Within}
use Rattle.tree.specs.declared.visiting.Visited.{Visited}
use Rattle.blob_source.specs.Source.{Blobs}
use Rattle.tree.specs.Tree.{Name, name_cmp, Tree, Entry, whole}
use Rattle.tree.specs.Form.{NodeValue, node_value}
use Rattle.messages.specs.Name.{IsName}
use Rattle.tree.specs.Folded.{IsNode}
use Rattle.tree.specs.Stage.{Stage}
use Rattle.tree.specs.Merging.{WithinValue, in_source, NodeWithin, MergeLines, MergeFault}
use Rattle.tree.specs.Merging.{within_value, same_node, gives_node, is_repeated, met, merged_in}
use Rattle.tree.specs.MergeLooks.{MetLooksAt, MergeLooksIn}
use Rattle.tree.specs.Memo.{Asked}
use Rattle.tree.specs.Visiting.{IsVisitOf}

-- where what is below the node of a line is read, by the line's number
abbrev pub within_in : {A : Type 0} → Option (List Name × Node A × Within A) → WithinValue
within_in None = in_source
within_in (Some l) = within_value l.2

abbrev pub within_of : {A : Type 0} → List (List Name × Node A × Within A) → ℕ → WithinValue
within_of lines i = within_in (slice_get lines i)

-- a line, seen from a path
abbrev pub part_value : {A : Type 0} → (ℕ → WithinValue) → Part A → List Name × NodeWithin
part_value W p = (p.names.items, record { node = node_value p.node; within = W p.line })

abbrev pub part_values : {A : Type 0} → (ℕ → WithinValue) → List (Part A) → MergeLines
part_values W parts = map (part_value W) parts

-- the lines of each name
abbrev pub group_values : {A : Type 0} → (ℕ → WithinValue) → List (Name × Vec (Part A) A)
    → List (Name × MergeLines)
group_values W groups = map (λ g. (g.0, part_values W g.1.items)) groups

-- a line more at a name, behind those that are there
abbrev pub adds : {Y : Type 0} → Name → Y → List (Name × List Y) → List (Name × List Y)
adds n y [] = (n, y ∷ []) ∷ []
adds n y (g ∷ gs) =
    by_order (name_cmp n g.0) ((n, y ∷ []) ∷ g ∷ gs) ((g.0, g.1 ++ y ∷ []) ∷ gs) (g ∷ adds n y gs)

-- what lines that meet at a path come to there, and what that looks at
abbrev pub lines_met : Blobs → ℕ → List Name → MergeLines → Stage MergeFault (Entry NodeValue)
lines_met B deeper path ls = met B (merged_in B deeper path) deeper path ls

abbrev pub MeetingLooksAt : Blobs → ℕ → List Name → MergeLines → Asked → Type 0
MeetingLooksAt B deeper path ls = MetLooksAt B (MergeLooksIn B deeper path) deeper ls

-- the Directories of that tree
abbrev pub IsVisitOfMet : {A : Type 0} → Stage MergeFault (Entry NodeValue) → Visited A → Type 0
IsVisitOfMet check v = (t : Tree NodeValue) × check.passes (whole t) × IsVisitOf t v

-- the Directories of the tree that lines come to
abbrev pub IsVisitOfMerged : {A : Type 0} → Stage MergeFault (Tree NodeValue) → Visited A → Type 0
IsVisitOfMerged check v = (t : Tree NodeValue) × check.passes t × IsVisitOf t v

-- a line whose names and node keep their rules
abbrev pub IsValidLine : List Name × NodeWithin → Type 0
IsValidLine l = AllByRecursion IsName l.0 × IsNode l.1.node

abbrev pub AreValidLines : MergeLines → Type 0
AreValidLines ls = AllByRecursion IsValidLine ls

-- the nodes that lines give at the path itself
abbrev pub AreGivenBy : MergeLines → List NodeValue → Type 0
AreGivenBy ls nodes =
    (x : NodeValue) → list_any (same_node x) nodes ≡ list_any (λ l. gives_node x l.0 l.1) ls

-- A line behind these counts unless it is repeated, and then its node is given too.
abbrev pub CountsAfter : MergeLines → List Name × NodeWithin → List NodeValue → List NodeValue
    → Bool → Type 0
CountsAfter earlier l old new counts =
    AreGivenBy earlier old
    → (counts ≡ not (is_repeated earlier l.0 l.1))
    × AreGivenBy (if counts then earlier ++ l ∷ [] else earlier) new
