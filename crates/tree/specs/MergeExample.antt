-- Lines that meet, and lines that conflict, with all that a merge by digests asks of them.
use Rattle.std.specs.Prelude.{List, [], ◌∷◌, map, Some, codes, false}
use Rattle.blob_digest.specs.Digest.{NoClash, digest_of}
use Rattle.messages.specs.declared.node.Node.TheVariants.{File}
use Rattle.blob_source.specs.Source.{Blobs}
use Rattle.tree.specs.Tree.{Name, Tree, empty, leaf, folder, Entry, single, whole, Leaf, file}
use Rattle.tree.specs.Form.{NodeValue, entry_node}
use Rattle.tree.specs.Merge.{TreeLines}
use Rattle.tree.specs.Merging.{in_source, NodeWithin, MergeLines, AreHeld}
use Rattle.tree.specs.MergeAgrees.{GiveNodesOf, IsOfMerge}

-- a source that tells the empty blob under every digest, right or wrong
abbrev pub always_empty : Blobs
always_empty d = Some []

-- a line that gives the digest of an entry, whose Directories the source tells
abbrev pub line_of : List Name × Entry Leaf → List Name × NodeWithin
line_of e = (e.0, record { node = entry_node e.1; within = in_source })

abbrev pub lines_of_entries : TreeLines → MergeLines
lines_of_entries es = map line_of es

abbrev pub empty_file : Entry Leaf
empty_file = single (file [] false)

-- an empty directory `a`, and a file in it
abbrev pub meeting_entries : TreeLines
meeting_entries =
    (codes "a" ∷ [], whole empty) ∷ (codes "a" ∷ codes "b" ∷ [], empty_file) ∷ []

-- the tree that the directory and the file come to
abbrev pub met_tree : Tree NodeValue
met_tree = folder (codes "a") (leaf (codes "b") (File (digest_of []) false) empty) empty

-- a file `a`, and a file below it
abbrev pub unlike_entries : TreeLines
unlike_entries =
    (codes "a" ∷ [], empty_file) ∷ (codes "a" ∷ codes "b" ∷ [], empty_file) ∷ []

-- what is asked of lines and of the entries that they stand for
pub record MeetsPremises (B : Blobs) (ls : MergeLines) (es : TreeLines) : Type 0 where
  pub held : AreHeld ls
  pub stand : GiveNodesOf ls es
  pub apart : NoClash (IsOfMerge B ls es)
