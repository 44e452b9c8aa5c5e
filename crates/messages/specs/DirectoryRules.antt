-- What stands in a directory (remote_execution.proto, message Directory), and the rules: each list
-- is sorted by name, and no two children of any kind have one name.
use Rattle.std.specs.Prelude.{ℕ, ◌||◌, List, map, None, Result, Ok, Err, if◌then◌else◌}
use Rattle.std.specs.List.{AllByRecursion}
use Rattle.wire.specs.Steps.{◌>>=◌}
use Rattle.messages.specs.declared.error.MessageError.{MessageError}
use Rattle.messages.specs.declared.error.MessageError.TheVariants.{SameName}
use Rattle.messages.specs.FileNode.{FileNodeValue, IsFileNode}
use Rattle.messages.specs.DirectoryNode.{DirectoryNodeValue, IsDirectoryNode}
use Rattle.messages.specs.SymlinkNode.{SymlinkNodeValue, IsSymlinkNode}
use Rattle.messages.specs.Order.{IsAscending, ShareNone, ordered_behind, share_name}

pub record DirectoryValue : Type 0 where
  pub files : List FileNodeValue
  pub directories : List DirectoryNodeValue
  pub symlinks : List SymlinkNodeValue

-- the directory of three lists
abbrev pub directory_with : List FileNodeValue → List DirectoryNodeValue → List SymlinkNodeValue
    → DirectoryValue
directory_with files directories symlinks =
    record { files = files; directories = directories; symlinks = symlinks }

abbrev pub file_names : List FileNodeValue → List (List ℕ)
file_names nodes = map (λ n. n.name) nodes

abbrev pub directory_names : List DirectoryNodeValue → List (List ℕ)
directory_names nodes = map (λ n. n.name) nodes

abbrev pub symlink_names : List SymlinkNodeValue → List (List ℕ)
symlink_names nodes = map (λ n. n.name) nodes

-- the names of the three lists
pub record AreNames (files directories symlinks : List (List ℕ)) : Type 0 where
  pub files_ascend : IsAscending files
  pub directories_ascend : IsAscending directories
  pub symlinks_ascend : IsAscending symlinks
  pub files_and_directories : ShareNone files directories
  pub files_and_symlinks : ShareNone files symlinks
  pub directories_and_symlinks : ShareNone directories symlinks

pub record IsDirectory (d : DirectoryValue) : Type 0 where
  pub files : AllByRecursion IsFileNode d.files
  pub directories : AllByRecursion IsDirectoryNode d.directories
  pub symlinks : AllByRecursion IsSymlinkNode d.symlinks
  pub names : AreNames (file_names d.files) (directory_names d.directories)
      (symlink_names d.symlinks)

-- ---- the first refusal: the order of each list, and then names of two kinds

abbrev pub none_shared : List (List ℕ) → List (List ℕ) → List (List ℕ)
    → Result (Unit {0}) MessageError
none_shared files directories symlinks =
    if share_name files directories || share_name files symlinks || share_name directories symlinks
    then Err SameName else Ok tt

abbrev pub names_ordered : List (List ℕ) → List (List ℕ) → List (List ℕ)
    → Result (Unit {0}) MessageError
names_ordered files directories symlinks =
    ordered_behind None files >>= λ _. ordered_behind None directories >>= λ _.
    ordered_behind None symlinks >>= λ _. none_shared files directories symlinks

-- the directory, or the first refusal
unfoldable pub directory_checked : DirectoryValue → Result DirectoryValue MessageError
directory_checked d =
    names_ordered (file_names d.files) (directory_names d.directories)
    (symlink_names d.symlinks) >>= λ _. Ok d
