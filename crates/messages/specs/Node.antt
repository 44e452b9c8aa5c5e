-- The child of a directory, by its name.
use Rattle.std.specs.Prelude.{ℕ, Bool, nat_eq, List, find, Option, Some, None, option_map}
use Rattle.std.specs.List.{Contains}
use Rattle.std.specs.Cmp.Lexicographic.{pointwise}
use Rattle.messages.specs.declared.node.Node.{Node}
use Rattle.messages.specs.declared.node.Node.TheVariants.{File, Link, Dir}
use Rattle.messages.specs.FileNode.{FileNodeValue}
use Rattle.messages.specs.DirectoryNode.{DirectoryNodeValue}
use Rattle.messages.specs.SymlinkNode.{SymlinkNodeValue}
use Rattle.messages.specs.DirectoryRules.{DirectoryValue, file_names, directory_names}
use Rattle.messages.specs.DirectoryRules.{symlink_names}

-- What stands under a name: a file, a directory or a symbolic link of that name in its list; or
-- nothing, where no list has the name.
abbrev pub IsChild : {A : Type 0} → List ℕ → DirectoryValue → Option (Node A) → Type 0
IsChild name d (Some (File digest executable)) =
    Contains d.files (record { name = name; digest = digest; executable = executable })
IsChild name d (Some (Link target)) = Contains d.symlinks (record { name = name; target = target })
IsChild name d (Some (Dir digest)) =
    Contains d.directories (record { name = name; digest = digest })
IsChild name d None =
    ¬ Contains (file_names d.files) name × ¬ Contains (directory_names d.directories) name
    × ¬ Contains (symlink_names d.symlinks) name

-- ---- the same by looking

abbrev pub is_same : List ℕ → List ℕ → Bool
is_same name other = pointwise nat_eq name other

abbrev pub or_else : {X : Type 0} → Option X → Option X → Option X
or_else (Some x) o = Some x
or_else None o = o

abbrev pub of_file : {A : Type 0} → FileNodeValue → Node A
of_file f = File f.digest f.executable

abbrev pub of_directory : {A : Type 0} → DirectoryNodeValue → Node A
of_directory d = Dir d.digest

abbrev pub of_symlink : {A : Type 0} → SymlinkNodeValue → Node A
of_symlink l = Link l.target

-- the file, the directory or the symbolic link of this name
abbrev pub child : {A : Type 0} → List ℕ → DirectoryValue → Option (Node A)
child name d =
    or_else (option_map of_file (find (λ f. is_same f.name name) d.files))
    (or_else (option_map of_directory (find (λ n. is_same n.name name) d.directories))
    (option_map of_symlink (find (λ l. is_same l.name name) d.symlinks)))
