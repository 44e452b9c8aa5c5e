-- What a source may be asked for: the digests that are named as those of messages. That of a file
-- is named by a FileNode, an OutputFile, or as what a process wrote, and none of these is among
-- them.
use Rattle.std.specs.Prelude.{◌≢◌, List, ◌∷◌, AllPairs}
use Rattle.std.specs.List.{AllByRecursion, Contains}
use Rattle.blob_digest.specs.Digest.{DigestValue, digest_of}
use Rattle.messages.specs.DirectoryNode.{DirectoryNodeValue}
use Rattle.messages.specs.DirectoryRules.{DirectoryValue}
use Rattle.messages.specs.Directory.{directory_bytes}
use Rattle.messages.specs.Tree.{TreeValue, IsTree, tree_bytes}
use Rattle.action_messages.specs.Action.{ActionValue, IsAction, action_bytes}
use Rattle.action_messages.specs.ActionResult.{ActionResultValue}
use Rattle.action_messages.specs.OutputDirectory.{OutputDirectoryValue}
use Rattle.blob_source.specs.Source.{Telling}
use Rattle.blob_source.specs.Told.{IsTold, TellsDirectory}
use Rattle.tree.specs.Memo.{Asked, blob, result, Covers}
use Rattle.verifier.specs.Holding.{HoldsResult}

-- The digest is named as that of a message: by the record, as the sources, or by what is told under
-- a digest that is so.
pub data IsNamedAsMessage (tells : Telling) (sources : DigestValue) (recorded : List DigestValue)
    : DigestValue → Type 0 where
  -- a recorded Action, its Command, and the root of its input
  an_action : (d : DigestValue) → Contains recorded d → IsNamedAsMessage tells sources recorded d
  a_command : (d : DigestValue) (a : ActionValue) → Contains recorded d
      → IsTold IsAction action_bytes tells.blobs d a
      → IsNamedAsMessage tells sources recorded a.frame.command
  an_input : (d : DigestValue) (a : ActionValue) → Contains recorded d
      → IsTold IsAction action_bytes tells.blobs d a
      → IsNamedAsMessage tells sources recorded a.input
  -- the root of the sources, and each Directory below a Directory
  the_sources : IsNamedAsMessage tells sources recorded sources
  a_child : (d : DigestValue) (m : DirectoryValue) (node : DirectoryNodeValue)
      → IsNamedAsMessage tells sources recorded d → TellsDirectory tells.blobs d m
      → Contains m.directories node → IsNamedAsMessage tells sources recorded node.digest
  -- the Tree of an output directory of a recorded action, and each Directory in a Tree
  a_tree : (d : DigestValue) (r : ActionResultValue) (x : OutputDirectoryValue)
      → Contains recorded d → HoldsResult tells.results d r → Contains r.directories x
      → IsNamedAsMessage tells sources recorded x.tree
  in_tree : (d : DigestValue) (t : TreeValue) (m : DirectoryValue)
      → IsNamedAsMessage tells sources recorded d → IsTold IsTree tree_bytes tells.blobs d t
      → Contains (t.root ∷ t.children) m
      → IsNamedAsMessage tells sources recorded (digest_of (directory_bytes m))

-- what is asked for is a message, or the result of a recorded action
abbrev pub AsksForMessage : Telling → DigestValue → List DigestValue → Asked → Type 0
AsksForMessage tells sources recorded (blob d) = IsNamedAsMessage tells sources recorded d
AsksForMessage tells sources recorded (result d) = Contains recorded d

-- The list has all that is looked at, and nothing else, each once.
pub record Lists (Looks : Asked → Type 0) (list : List Asked) : Type 0 where
  pub all : Covers Looks list
  pub looked_at : AllByRecursion Looks list
  pub once : AllPairs (λ x y. x ≢ y) list
