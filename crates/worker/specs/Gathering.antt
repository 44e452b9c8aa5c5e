-- What the private functions that lay out a tree speak of: its entries, one after another.
use Rattle.std.specs.Prelude.{◌≡◌, ℕ, List, [], ◌∷◌, ◌++◌}
use Rattle.tree.specs.Tree.{Name, Standing, nothing, a_leaf, a_directory}
use Rattle.tree.specs.Form.{NodeValue}
use Rattle.tree.specs.FlatTree.{FlatValue}
use Rattle.blob_source.specs.Source.{Blobs}
use Rattle.worker.specs.Layout.{IsFileWith}

-- Each entry is a directory, which is a folder, or a file, which stands with its content; in the
-- order of the entries.
abbrev pub AreGathered : Blobs → FlatValue → List (List Name) → List (List Name × List ℕ) → Type 0
AreGathered B [] folders files = (folders ≡ []) × (files ≡ [])
AreGathered B ((p, nothing) ∷ es) folders files = ⊥
AreGathered B ((p, a_directory) ∷ es) folders files =
    (rest : List (List Name)) × (folders ≡ p ∷ rest) × AreGathered B es rest files
AreGathered B ((p, a_leaf x) ∷ es) folders files = (b : List ℕ) × IsFileWith B b (a_leaf x)
    × (rest : List (List Name × List ℕ)) × (files ≡ (p, b) ∷ rest) × AreGathered B es folders rest

-- one entry more was gathered
pub record IsGathered (B : Blobs) (p : List Name) (s : Standing NodeValue)
    (old_folders folders : List (List Name)) (old_files files : List (List Name × List ℕ))
    : Type 0 where
  pub more_folders : List (List Name)
  pub more_files : List (List Name × List ℕ)
  pub gathered : AreGathered B ((p, s) ∷ []) more_folders more_files
  pub folders_are : folders ≡ old_folders ++ more_folders
  pub files_are : files ≡ old_files ++ more_files
