-- What is collected of a child.
use Rattle.std.specs.Prelude.{◌≡◌, ◌≢◌, ◌⊎◌, ◌↔◌, ℕ, zero, suc, Bool, false, List, [], ◌∷◌, ◌++◌}
use Rattle.std.specs.Prelude.{Some, None, Contains}
use Rattle.std.specs.IoError.{error_kind}
use Rattle.std.specs.declared.io.Error.{Error}
use Rattle.std.specs.declared.io.ErrorKind.TheVariants.{InvalidData}
use Rattle.std.specs.List.{AllByRecursion}
use Rattle.blob_digest.specs.Digest.{DigestValue, digest_of}
use Rattle.messages.specs.Name.{IsName}
use Rattle.messages.specs.Path.{AreApart, path_text}
use Rattle.messages.specs.Tree.{IsTree, TreeValue}
use Rattle.messages.specs.declared.node.Node.TheVariants as nodes
use Rattle.tree.specs.Tree.{Name, Standing, nothing, a_leaf, a_directory, Tree, IsOrdered}
use Rattle.tree.specs.Tree.{stands_at}
use Rattle.tree.specs.Form.{NodeValue}
use Rattle.tree.specs.Folded.{first_visits}
use Rattle.actions.specs.declared.outcome.Output.TheVariants as outputs
use Rattle.actions.specs.Outcome.{OutputValue, OutcomeValue, AddsOutput, paths_of_outputs}
use Rattle.worker.specs.Outcomes.{directories_of}
use Rattle.processes.specs.declared.workshop.Standing.{Standing as PlaceStanding}
use Rattle.processes.specs.declared.workshop.Standing.TheVariants as standings
use Rattle.processes.specs.Workshop.{Works}
use Rattle.processes.specs.Laying.{place_in}

-- the first blobs are among the others
pub record AreKept (some all : List (List ℕ)) : Type 0 where
  pub kept : (b : List ℕ) → Contains some b → Contains all b

-- A file stands at a place; its executable bit is false. Its digest is that of the bytes that it
-- was read to have, which are among the blobs.
abbrev pub IsFileAt : {R C E : Type 0} → Works R C E → E → List (List ℕ) → List ℕ → DigestValue
    → Bool → Type 0
IsFileAt works ended blobs place d executable = (executable ≡ false)
    × works.stands ended place standings.File
    × ((b : List ℕ) × works.holds ended place (Some b) × (d ≡ digest_of b) × Contains blobs b)

-- ---- a folder

-- where something stands that is at a path below a place
abbrev pub place_at : List ℕ → List Name → List ℕ
place_at place [] = place
place_at place (n ∷ p) = place_at (place_in place n) p

-- the names in the folder at a place are those at which a tree has something below a path
pub record HasNames {R C E : Type 0} (works : Works R C E) (ended : E) (place : List ℕ)
    (at : List Name → Standing NodeValue) (path : List Name) : Type 0 where
  pub names : List Name
  pub listed : works.lists ended place (Some names)
  pub each : (n : Name) → Contains names n ↔ (at (path ++ n ∷ []) ≢ nothing)

-- What a tree has at a path stands at a place: a file, or a folder with the names that the tree has
-- below the path.
abbrev pub IsStandingOf : {R C E : Type 0} → Works R C E → E → List (List ℕ) → List ℕ
    → (List Name → Standing NodeValue) → List Name → Standing NodeValue → Type 0
IsStandingOf works ended blobs place at path nothing = Unit {0}
IsStandingOf works ended blobs place at path (a_leaf (nodes.File d x)) =
    IsFileAt works ended blobs place d x
IsStandingOf works ended blobs place at path (a_leaf (nodes.Link t)) = ⊥
IsStandingOf works ended blobs place at path (a_leaf (nodes.Dir d)) = ⊥
IsStandingOf works ended blobs place at path a_directory =
    works.stands ended place standings.Folder × HasNames works ended place at path

-- The folder at a place has what a tree has at each path below it, and nothing else.
pub record IsFolderAt {R C E : Type 0} (works : Works R C E) (ended : E) (blobs : List (List ℕ))
    (place : List ℕ) (at : List Name → Standing NodeValue) : Type 0 where
  pub names : HasNames works ended place at []
  pub below : (n : Name) (p : List Name)
      → IsStandingOf works ended blobs (place_at place (n ∷ p)) at (n ∷ p) (at (n ∷ p))

-- bytes that a file of a tree was read to have below a place
pub record IsContentAt {R C E : Type 0} (works : Works R C E) (ended : E) (place : List ℕ)
    (at : List Name → Standing NodeValue) (b : List ℕ) : Type 0 where
  pub name : Name
  pub path : List Name
  pub file : at (name ∷ path) ≡ a_leaf (nodes.File (digest_of b) false)
  pub holds : works.holds ended (place_at place (name ∷ path)) (Some b)

-- The Tree of what is in the folder at a place. The blobs are the contents of the files below it.
pub record IsTreeAt {R C E : Type 0} (works : Works R C E) (ended : E) (place : List ℕ)
    (m : TreeValue) (blobs : List (List ℕ)) : Type 0 where
  pub tree : Tree NodeValue
  pub ordered : IsOrdered tree
  pub folder : IsFolderAt works ended blobs place (stands_at tree)
  pub directories : directories_of m ≡ first_visits tree
  pub only : (b : List ℕ) → Contains blobs b → IsContentAt works ended place (stands_at tree) b

-- ---- the outputs

-- What stands at a place makes this output and these blobs: a file, or a folder.
abbrev pub IsOutputAt : {R C E : Type 0} → Works R C E → E → List ℕ → OutputValue → List (List ℕ)
    → Type 0
IsOutputAt works ended place (outputs.File d x) blobs = IsFileAt works ended blobs place d x
    × ((b : List ℕ) → Contains blobs b → works.holds ended place (Some b))
IsOutputAt works ended place (outputs.Link t) blobs = ⊥
IsOutputAt works ended place (outputs.Tree m) blobs =
    works.stands ended place standings.Folder × IsTreeAt works ended place m blobs

-- an output is what stands at one of the paths, and its blobs are among the others
abbrev pub IsFound : {R C E : Type 0} → Works R C E → E → List ℕ → List (List (List ℕ))
    → List (List ℕ) → List (List ℕ) × OutputValue → Type 0
IsFound works ended folder paths blobs e = Contains paths e.0 × ((own : List (List ℕ))
    × IsOutputAt works ended (place_in folder (path_text e.0)) e.1 own × AreKept own blobs)

-- nothing stands at the path, or it has an output
abbrev pub IsSettled : {R C E : Type 0} → Works R C E → E → List ℕ
    → List (List (List ℕ) × OutputValue) → List (List ℕ) → Type 0
IsSettled works ended folder outputs q =
    works.stands ended (place_in folder (path_text q)) standings.Nothing
    ⊎ Contains (paths_of_outputs outputs) q

-- a blob is one of an output
pub record IsOfOutput {R C E : Type 0} (works : Works R C E) (ended : E) (folder : List ℕ)
    (outputs : List (List (List ℕ) × OutputValue)) (b : List ℕ) : Type 0 where
  pub path : List (List ℕ)
  pub output : OutputValue
  pub inside : Contains outputs (path, output)
  pub own : List (List ℕ)
  pub at : IsOutputAt works ended (place_in folder (path_text path)) output own
  pub one : Contains own b

-- The outputs are what stands at the paths below a folder after a process has ended: there is none
-- but these, and none is left out. The blobs are those of the outputs.
pub record AreCollected {R C E : Type 0} (works : Works R C E) (ended : E) (folder : List ℕ)
    (paths : List (List (List ℕ))) (o : OutcomeValue) (blobs : List (List ℕ)) : Type 0 where
  pub found : AllByRecursion (IsFound works ended folder paths blobs) o.outputs
  pub settled : AllByRecursion (IsSettled works ended folder o.outputs) paths
  pub only : (b : List ℕ) → Contains blobs b → IsOfOutput works ended folder o.outputs b

-- ---- what is no output

-- What stands so at a place is no output: neither a file nor a folder, or a file of more bytes than
-- a blob has, or a folder of which `IsBad` says so.
abbrev pub IsNoOutput : {R C E : Type 0} → Works R C E → E → (List ℕ → Type 0) → List ℕ
    → PlaceStanding → Type 0
IsNoOutput works ended IsBad place standings.Nothing = ⊥
IsNoOutput works ended IsBad place standings.File = works.holds ended place None
IsNoOutput works ended IsBad place standings.Folder = IsBad place
IsNoOutput works ended IsBad place standings.Other = Unit {0}

-- A folder below which paths may have `most` names is no output: one of its names is no text, or no
-- name of a path, or is one too many; or nothing stands there, as where a link leads nowhere, or
-- what is no output.
abbrev pub IsBadFolder : {R C E : Type 0} → Works R C E → E → ℕ → List ℕ → Type 0
IsBadFolder works ended zero place = works.lists ended place None
    ⊎ ((names : List Name) × (n : Name) × works.lists ended place (Some names) × Contains names n)
IsBadFolder works ended (suc most) place = works.lists ended place None
    ⊎ ((names : List Name) × (n : Name) × works.lists ended place (Some names) × Contains names n
    × ((IsName n → ⊥) ⊎ ((s : PlaceStanding) × works.stands ended (place_in place n) s
    × ((s ≡ standings.Nothing)
    ⊎ IsNoOutput works ended (IsBadFolder works ended most) (place_in place n) s))))

-- what stands at a place is no output, where a path in a folder has at most 64 names
abbrev pub HasNoOutput : {R C E : Type 0} → Works R C E → E → List ℕ → Type 0
HasNoOutput works ended place = (s : PlaceStanding) × works.stands ended place s
    × IsNoOutput works ended (IsBadFolder works ended 64) place s

-- nothing stood at a path below a folder, or an output
abbrev pub WasCollected : {R C E : Type 0} → Works R C E → E → List ℕ → List (List ℕ) → Type 0
WasCollected works ended folder q =
    works.stands ended (place_in folder (path_text q)) standings.Nothing
    ⊎ ((o : OutputValue) × (blobs : List (List ℕ))
    × IsOutputAt works ended (place_in folder (path_text q)) o blobs)

-- At a path of the list this is so, and at each before it nothing stood, or an output.
pub record IsFirstPath {R C E : Type 0} (works : Works R C E) (ended : E) (folder : List ℕ)
    (paths : List (List (List ℕ))) (Is : List ℕ → Type 0) (path : List (List ℕ)) : Type 0 where
  pub before : List (List (List ℕ))
  pub after : List (List (List ℕ))
  pub whole : paths ≡ before ++ path ∷ after
  pub collected : AllByRecursion (WasCollected works ended folder) before
  pub is : Is (place_in folder (path_text path))

abbrev pub IsFirstBad : {R C E : Type 0} → Works R C E → E → List ℕ → List (List (List ℕ))
    → List (List ℕ) → Type 0
IsFirstBad works ended folder paths path =
    IsFirstPath works ended folder paths (HasNoOutput works ended) path

-- ---- why nothing is collected

-- at a place or below it a folder was listed with a name twice
pub record IsListedTwice {R C E : Type 0} (works : Works R C E) (ended : E) (place : List ℕ)
    : Type 0 where
  pub path : List Name
  pub before : List Name
  pub name : Name
  pub after : List Name
  pub listed : works.lists ended (place_at place path) (Some (before ++ name ∷ after))
  pub again : Contains before name

-- the folder at a place was read whole, and its Directories are those of no Tree
pub record MakesNoTree {R C E : Type 0} (works : Works R C E) (ended : E) (place : List ℕ)
    : Type 0 where
  pub blobs : List (List ℕ)
  pub tree : Tree NodeValue
  pub ordered : IsOrdered tree
  pub folder : IsFolderAt works ended blobs place (stands_at tree)
  pub none : (m : TreeValue) → IsTree m → directories_of m ≡ first_visits tree → ⊥

-- The error by which a walk below a place ends: a call that looks there was refused by it, or a
-- name was listed twice.
abbrev pub IsUnwalked : {R C E : Type 0} → Works R C E → E → Error → List ℕ → Type 0
IsUnwalked works ended error place =
    ((path : List Name) × works.unread ended (place_at place path) error)
    ⊎ ((error_kind error ≡ InvalidData) × IsListedTwice works ended place)

-- The error by which what stands at a place isn't read: a walk ends by it, or makes no Tree.
abbrev pub IsUnreadAt : {R C E : Type 0} → Works R C E → E → Error → List ℕ → Type 0
IsUnreadAt works ended error place = IsUnwalked works ended error place
    ⊎ ((error_kind error ≡ InvalidData) × MakesNoTree works ended place)

-- The error by which nothing is collected at paths below a folder: that of the first of them that
-- isn't read; or the paths overlap, as those of no command do.
abbrev pub IsUnread : {R C E : Type 0} → Works R C E → E → List ℕ → List (List (List ℕ)) → Error
    → Type 0
IsUnread works ended folder paths error =
    ((path : List (List ℕ))
    × IsFirstPath works ended folder paths (IsUnreadAt works ended error) path)
    ⊎ ((error_kind error ≡ InvalidData) × (AreApart paths → ⊥))

-- ---- one path more

-- What stands at one more path: nothing, or an output that was added, and the blobs that come with
-- it.
pub record IsMore {R C E : Type 0} (works : Works R C E) (ended : E) (place : List ℕ)
    (path : List (List ℕ)) (old : OutcomeValue) (before : List (List ℕ)) (new : OutcomeValue)
    (after : List (List ℕ)) : Type 0 where
  pub own : List (List ℕ)
  pub blobs : after ≡ before ++ own
  pub more : (works.stands ended place standings.Nothing × (new ≡ old) × (own ≡ []))
      ⊎ ((o : OutputValue) × IsOutputAt works ended place o own × AddsOutput old path o new)
