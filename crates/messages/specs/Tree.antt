-- The message Tree of remote_execution.proto: a directory with all directories below it. Its `root`
-- has to be there. Its `children` are those whose digests a DirectoryNode in it names, in any
-- order, and equal ones may come again. Fields: 1 `root` (Directory); 2 `children` (repeated
-- Directory).
use Rattle.std.specs.Prelude.{ℕ, Bool, ◌==◌, ◌&&◌, bytes_eq, List, [], ◌∷◌, ◌++◌, map, Some}
use Rattle.std.specs.Prelude.{Result, Ok, Err, if◌then◌else◌}
use Rattle.std.specs.List.{AllByRecursion, Contains, list_any, list_all}
use Rattle.wire.specs.Record.{Record}
use Rattle.wire.specs.Spelling.{spelling}
use Rattle.wire.specs.Steps.{◌>>=◌}
use Rattle.canonical.specs.declared.shape.Kind.TheVariants as kinds
use Rattle.canonical.specs.declared.shape.Entry.{Entry}
use Rattle.canonical.specs.Fields.{message_field, element_fields, message_at, elements_at}
use Rattle.canonical.specs.Told.{each, in_option}
use Rattle.blob_digest.specs.Digest.{digest_of}
use Rattle.blob_digest.specs.DigestValue.{DigestValue}
use Rattle.messages.specs.declared.error.MessageError.{MessageError}
use Rattle.messages.specs.declared.error.MessageError.TheVariants.{BadTree}
use Rattle.messages.specs.Shapes.{single, repeated}
use Rattle.messages.specs.Told.{shape_checked, required}
use Rattle.messages.specs.DirectoryNode.{DirectoryNodeValue}
use Rattle.messages.specs.DirectoryRules.{DirectoryValue, IsDirectory}
use Rattle.messages.specs.Directory.{directory_bytes, decoded_directory}

pub record TreeValue : Type 0 where
  pub root : DirectoryValue
  pub children : List DirectoryValue

-- the tree of a root and children
abbrev pub tree_with : DirectoryValue → List DirectoryValue → TreeValue
tree_with root children = record { root = root; children = children }

-- the digests that the DirectoryNodes of the directories name
abbrev pub node_digests : List DirectoryNodeValue → List DigestValue
node_digests nodes = map (λ n. n.digest) nodes

abbrev pub named_by : List DirectoryValue → List DigestValue
named_by [] = []
named_by (d ∷ ds) = node_digests d.directories ++ named_by ds

abbrev pub named_in : TreeValue → List DigestValue
named_in t = named_by (t.root ∷ t.children)

-- the digests of the children's encodings
abbrev pub digests_of : List (List ℕ) → List DigestValue
digests_of blobs = map digest_of blobs

abbrev pub child_digests : TreeValue → List DigestValue
child_digests t = digests_of (map directory_bytes t.children)

-- each digest of the first list is one of the second
abbrev pub AreAmong : List DigestValue → List DigestValue → Type 0
AreAmong digests others = AllByRecursion (Contains others) digests

-- each digest that a DirectoryNode of it names is a child's, and each child's digest is named so
pub record IsTree (t : TreeValue) : Type 0 where
  pub root : IsDirectory t.root
  pub children : AllByRecursion IsDirectory t.children
  pub held : AreAmong (named_in t) (child_digests t)
  pub named : AreAmong (child_digests t) (named_in t)

abbrev pub tree_shape : List Entry
tree_shape = single 1 kinds.Message ∷ repeated 2 kinds.Message ∷ []

-- the one encoding of a tree
unfoldable pub tree_bytes : TreeValue → List ℕ
tree_bytes t =
    spelling (message_field 1 (Some (directory_bytes t.root))
    ++ element_fields 2 (map directory_bytes t.children))

-- ---- what bytes say, or the first refusal: the shape, the directories in the order of the bytes,
-- whether the root is there, the rule of children

abbrev pub same_digest : DigestValue → DigestValue → Bool
same_digest d e = bytes_eq d.hash e.hash && (d.size == e.size)

-- whether the digest is one of the list
abbrev pub is_among : List DigestValue → DigestValue → Bool
is_among digests d = list_any (λ e. same_digest e d) digests

abbrev pub all_among : List DigestValue → List DigestValue → Bool
all_among digests others = list_all (is_among others) digests

unfoldable pub children_checked : List DigestValue → List DigestValue
    → Result (Unit {0}) MessageError
children_checked named held =
    if all_among named held && all_among held named then Ok tt else Err BadTree

-- the tree, or the refusal
unfoldable pub tree_of : TreeValue → Result TreeValue MessageError
tree_of t = children_checked (named_in t) (child_digests t) >>= λ _. Ok t

abbrev pub tree_in : List Record → Result TreeValue MessageError
tree_in rs =
    in_option decoded_directory (message_at 1 rs) >>= λ found.
    each decoded_directory (elements_at 2 rs) >>= λ children.
    required 1 found >>= λ root.
    tree_of (record { root = root; children = children })

unfoldable pub decoded_tree : List ℕ → Result TreeValue MessageError
decoded_tree bytes = shape_checked tree_shape bytes >>= tree_in
