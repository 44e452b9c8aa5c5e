-- A folder that was empty, and what was written into it since.
use Rattle.std.specs.Prelude.{ℕ, List, [], ◌++◌, Bool}

-- what was written at a path: a folder, a file with its bytes and whether it is a program, or a
-- link with its target
pub data Written : Type 0 where
  a_folder : Written
  a_file : List ℕ → Bool → Written
  a_link : List ℕ → Written

-- The folder at a path had nothing in it, and then this was written, in this order, and nothing
-- else.
pub record FolderValue : Type 0 where
  pub path : List ℕ
  pub written : List (List ℕ × Written)

abbrev pub empty_folder : List ℕ → FolderValue
empty_folder path = record { path = path; written = [] }

-- the folder with more in it
abbrev pub with_written : List (List ℕ × Written) → FolderValue → FolderValue
with_written more v = record v { written = v.written ++ more }

-- what a folder has, and nothing else
abbrev pub Has : Type 0 → Type 1
Has Folder = Folder → FolderValue → Type 0

-- some folder has this and nothing else
abbrev pub IsHad : {F : Type 0} → Has F → FolderValue → Type 0
IsHad {F} has v = (folder : F) × has folder v

-- what the old folder has the new one has, and this besides
abbrev pub Gains : {F : Type 0} → Has F → F → F → List (List ℕ × Written) → Type 0
Gains has old new more = (v : FolderValue) → has old v → has new (with_written more v)

-- ---- calls, made or refused

-- the paths for which a writer was called, in this order, and for nothing else
abbrev pub Tried : Type 1
Tried = List (List ℕ) → Type 0

-- the writer was called for these paths besides
abbrev pub Tries : {W : Type 0} → (W → Tried) → W → W → Tried
Tries tried old new more = (paths : List (List ℕ)) → tried old paths → tried new (paths ++ more)
