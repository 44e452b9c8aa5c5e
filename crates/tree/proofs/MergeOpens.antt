-- What a line gives at a path, opened.
use Rattle.std.proofs.Common.{◌≡◌, ◌<◌, List, [], ◌∷◌, ◌++◌, length, arith, refl, ap, sym, subst, inl}
use Rattle.blob_digest.specs.Digest.{DigestValue}
use Rattle.messages.specs.DirectoryRules.{DirectoryValue}
use Rattle.messages.specs.declared.node.Node.{Node}
use Rattle.messages.specs.declared.node.Node.TheVariants as nodes
use Rattle.messages.specs.declared.node.Node.TheVariants.{File, Link, Dir}
use Rattle.messages.specs.Tree.{TreeValue}
use Rattle.blob_source.specs.Source.{Blobs, Grows}
use Rattle.blob_source.specs.Told.{Fault, missing, wrong, malformed, TellsDirectory, FailsDirectory}
use Rattle.tree.specs.declared.error.TreeError.{TreeError}
use Rattle.tree.specs.declared.error.TreeError.TheVariants.{Absent, BlobMissing, BlobWrong, BlobMalformed, TooDeep, Conflict, Fetch, Memory}
use Rattle.tree.specs.Form.{NodeValue, node_value}
use Rattle.tree.specs.Tree.{Name}
use Rattle.tree.specs.Memo.{Asked, LooksAtBlob}
use Rattle.tree.specs.Stage.{◌and_then◌}
use Rattle.tree.specs.TreeError.{Explains}
use Rattle.tree.specs.Merging.{WithinValue, in_source, in_tree, NodeWithin, MergeLines, MergeFault, conflict, unreadable, IsFirstIn, child_lines, node_opened, line_opened, opened, ExplainsMerge}
use Rattle.tree.specs.MergeLooks.{NodeLooksAt, LineLooksAt, OpenedLooksAt}
use Rattle.tree.proofs.MergeLooking.{OpensLooking, opens_looking_on, opens_looking_at}
use Rattle.tree.proofs.MergeStages.{stable_line}
use Rattle.tree.proofs.MergeSteps.{OpensOn, opens_line, opens_fault}

opening_fails : (B : Blobs) (d : DigestValue) (f : Fault) → FailsDirectory B d f → (node_opened B (Dir d) in_source).fails (unreadable f)
unfolding ◌and_then◌
opening_fails B d f h = inl (f, h, refl)

opening_explained : {A : Type 0} (B : Blobs) (d : DigestValue) (why : TreeError A) → Explains (FailsDirectory B d) why → ExplainsMerge (node_opened B (Dir d) in_source).fails why
opening_explained B d (Absent path) h = h
opening_explained B d (BlobMissing e) h = opening_fails B d (missing e) h
opening_explained B d (BlobWrong e) h = opening_fails B d (wrong e) h
opening_explained B d (BlobMalformed e) h = opening_fails B d (malformed e) h
opening_explained B d (TooDeep path) h = h
opening_explained B d (Conflict path) h = absurd h
opening_explained B d Fetch h = tt
opening_explained B d Memory h = tt

module _ {A : Type 0} (B : Blobs) (x : Node A) (d : DigestValue) (is : x ≡ nodes.Dir d) (within : WithinValue) where
  as_given : (P : NodeValue → WithinValue → Type 0) (w : WithinValue) → within ≡ w → P (Dir d) w → P (node_value x) within
  as_given P w same h = subst (λ (y : NodeValue). P y within) (sym (ap node_value is)) (subst (P (Dir d)) (sym same) h)

  -- in a source
  module _ (source : within ≡ in_source) where
    pub source_fails : {C : Type 0} (why : TreeError C) → Explains (FailsDirectory B d) why → ExplainsMerge (node_opened B (node_value x) within).fails why
    source_fails why h = as_given (λ y w. ExplainsMerge (node_opened B y w).fails why) in_source source (opening_explained B d why h)

    pub source_opens : (m : DirectoryValue) → TellsDirectory B d m → (node_opened B (node_value x) within).passes (child_lines within m)
    unfolding ◌and_then◌
    source_opens m told = as_given (λ y w. (node_opened B y w).passes (child_lines w m)) in_source source (m, told, refl)

    pub source_looks : (a : Asked) → LooksAtBlob d a → NodeLooksAt within (node_value x) a
    source_looks a h = as_given (λ y w. NodeLooksAt w y a) in_source source h

  -- in a Tree
  pub tree_opens : (t : TreeValue) (m : DirectoryValue) → within ≡ in_tree t → IsFirstIn (t.root ∷ t.children) d m → (node_opened B (node_value x) within).passes (child_lines within m)
  unfolding ◌and_then◌
  tree_opens t m inside first = as_given (λ y w. (node_opened B y w).passes (child_lines w m)) (in_tree t) inside (m, first, refl)

-- a file or a link has no children
pub leaf_opens : {A : Type 0} (B : Blobs) (x : Node A) (within : WithinValue) → ((d : DigestValue) → x ≡ nodes.Dir d → ⊥) → (node_opened B (node_value x) within).passes []
leaf_opens B (nodes.File d e) within dir = refl
leaf_opens B (nodes.Link t) within dir = refl
leaf_opens B (nodes.Dir d) within dir = absurd (dir d refl)

-- ---- faults of a part are faults of the whole

pub merge_explained : {A : Type 0} (P Q : MergeFault → Type 0) (why : TreeError A) → ((f : MergeFault) → P f → Q f) → ExplainsMerge P why → ExplainsMerge Q why
merge_explained P Q (Absent path) to h = h
merge_explained P Q (BlobMissing e) to h = to (unreadable (missing e)) h
merge_explained P Q (BlobWrong e) to h = to (unreadable (wrong e)) h
merge_explained P Q (BlobMalformed e) to h = to (unreadable (malformed e)) h
merge_explained P Q (TooDeep path) to h = h
merge_explained P Q (Conflict path) to h = to (conflict path) h
merge_explained P Q Fetch to h = tt
merge_explained P Q Memory to h = tt

pub line_kept : (B : Blobs) (names : List Name) (g : NodeWithin) → 0 < length names → (line_opened B names g).passes ((names, g) ∷ [])
line_kept B [] g some = absurd (omega (arith, some))
line_kept B (n ∷ p) g some = refl

-- ---- one line after another

module _ {B C : Blobs} (names : List Name) (g : NodeWithin) (rest all made : MergeLines) (grows : Grows B C) where
  module _ (none : names ≡ []) (new : MergeLines) (read : (node_opened C g.node g.within).passes new) where
    still : (later : Blobs) → Grows C later → (line_opened later names g).passes new
    still later more = subst (λ p. (line_opened later p g).passes new) (sym none) ((stable_line [] g).still C later more new read)

    pub opens_here : OpensOn B made ((names, g) ∷ rest) all → OpensOn C (made ++ new) rest all
    opens_here old = opens_line (names, g) rest all made grows old new still

    pub looking_here : OpensLooking B ((names, g) ∷ rest) all → OpensLooking C rest all
    looking_here old = opens_looking_on (names, g) rest all grows old new still

  pub fault_here : names ≡ [] → OpensOn B made ((names, g) ∷ rest) all → (f : MergeFault) → (node_opened C g.node g.within).fails f → (opened C all).fails f
  fault_here none old f h = opens_fault (names, g) rest all made grows old f (subst (λ p. (line_opened C p g).fails f) (sym none) h)

  pub looks_here_at : names ≡ [] → OpensLooking B ((names, g) ∷ rest) all → (a : Asked) → NodeLooksAt g.within g.node a → OpenedLooksAt C all a
  looks_here_at none old a h = opens_looking_at (names, g) rest all grows old a (subst (λ p. LineLooksAt p g a) (sym none) h)
