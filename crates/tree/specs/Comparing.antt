-- What the private functions that find the first difference speak of: a graft's own Directories,
-- and two Directories name by name.
use Rattle.std.specs.Prelude.{◌≡◌, ◌≢◌, ℕ, List, map, Option, Some, None}
use Rattle.std.specs.List.{AllByRecursion}
use Rattle.blob_digest.specs.Digest.{digest_of}
use Rattle.messages.specs.declared.node.Node.TheVariants.{Dir}
use Rattle.messages.specs.DirectoryRules.{DirectoryValue, IsDirectory}
use Rattle.messages.specs.Directory.{directory_bytes}
use Rattle.tree.specs.declared.comparing.OwnDirectories.{OwnDirectories}
use Rattle.tree.specs.declared.difference.Unlike.{Unlike}
use Rattle.tree.specs.declared.difference.Unlike.TheVariants.{OnlyRecorded, OnlyGrafted}
use Rattle.tree.specs.declared.difference.Unlike.TheVariants.{Directories, Others}
use Rattle.tree.specs.declared.difference.FirstName.{FirstName}
use Rattle.tree.specs.Form.{NodeValue}
use Rattle.tree.specs.Folded.{items_of}
use Rattle.tree.specs.Difference.{child_of, IsFirstName}

-- ---- a graft's own Directories

abbrev pub IsEncoding : List ℕ → Type 0
IsEncoding b = (m : DirectoryValue) × IsDirectory m × (b ≡ directory_bytes m)

abbrev pub encodings_in : {A : Type 0} → OwnDirectories A → List (List ℕ)
encodings_in own = items_of own.encodings.now

-- a graft's own Directories: their encodings, and beside these their digests
pub record AreOwn {A : Type 0} (own : OwnDirectories A) : Type 0 where
  pub digests : own.digests.now ≡ map digest_of (encodings_in own)
  pub valid : AllByRecursion IsEncoding (encodings_in own)

-- ---- two children of one name

abbrev pub AreDirectories : NodeValue → NodeValue → Type 0
AreDirectories (Dir g) (Dir r) = Unit {0}
AreDirectories x y = ⊥

-- how two children are not the same
abbrev pub IsUnlike : Option NodeValue → Option NodeValue → Unlike → Type 0
IsUnlike g r OnlyRecorded = (g ≡ None) × (y : NodeValue) × (r ≡ Some y)
IsUnlike g r OnlyGrafted = (x : NodeValue) × (g ≡ Some x) × (r ≡ None)
IsUnlike g r (Directories d e) = (g ≡ Some (Dir d)) × (r ≡ Some (Dir e)) × (d ≢ e)
IsUnlike g r Others =
    (x y : NodeValue) × (g ≡ Some x) × (r ≡ Some y) × (x ≢ y) × ¬ AreDirectories x y

abbrev pub IsUnlikeIfAny : NodeValue → NodeValue → Option Unlike → Type 0
IsUnlikeIfAny x y None = x ≡ y
IsUnlikeIfAny x y (Some unlike) = IsUnlike (Some x) (Some y) unlike

-- the first name under which two Directories don't have the same child, and how they differ
pub record IsFirst {A : Type 0} (grafted recorded : DirectoryValue) (f : FirstName A) : Type 0 where
  pub name : IsFirstName grafted recorded f.name
  pub unlike : IsUnlike (child_of f.name grafted) (child_of f.name recorded) f.unlike
