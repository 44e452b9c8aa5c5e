-- What stands in a folder, so far as it was read: words of private functions.
use Rattle.std.specs.Prelude.{◌≡◌, ◌⊎◌, ℕ, List, [], ◌∷◌, ◌++◌}
use Rattle.messages.specs.DirectoryRules.{AreNames, DirectoryValue, directory_names, directory_with}
use Rattle.messages.specs.DirectoryRules.{file_names, symlink_names}
use Rattle.messages.specs.declared.node.Node.TheVariants.{Dir, File, Link}
use Rattle.tree.specs.Form.{NodeValue}
use Rattle.commands.specs.declared.children.Children.{Children}

-- what stands in a folder, so far as it was read
abbrev pub folder_read : Children → DirectoryValue
folder_read c = directory_with c.files.items c.directories.items c.symlinks.items

abbrev pub AreNamed : DirectoryValue → Type 0
AreNamed d = AreNames (file_names d.files) (directory_names d.directories)
    (symlink_names d.symlinks)

-- the name stands last in one of the lists of names, and the others are as they were
abbrev pub AddsName : List ℕ → DirectoryValue → DirectoryValue → Type 0
AddsName n old new =
    ((file_names new.files ≡ file_names old.files ++ n ∷ [])
    × (new.directories ≡ old.directories) × (new.symlinks ≡ old.symlinks))
    ⊎ (((new.files ≡ old.files)
    × (directory_names new.directories ≡ directory_names old.directories ++ n ∷ [])
    × (new.symlinks ≡ old.symlinks))
    ⊎ ((new.files ≡ old.files) × (new.directories ≡ old.directories)
    × (symlink_names new.symlinks ≡ symlink_names old.symlinks ++ n ∷ [])))

-- the directory with one more child, behind the others of its kind
abbrev pub with_last_child : List ℕ → NodeValue → DirectoryValue → DirectoryValue
with_last_child n (File digest executable) d = record d {
  files = d.files ++ record { name = n; digest = digest; executable = executable } ∷ [];
}
with_last_child n (Link target) d =
    record d { symlinks = d.symlinks ++ record { name = n; target = target } ∷ [] }
with_last_child n (Dir digest) d =
    record d { directories = d.directories ++ record { name = n; digest = digest } ∷ [] }
