-- What a walk through a folder adds to a flat tree, and why it ends: words of private functions.
use Rattle.std.specs.Prelude.{◌≡◌, ◌≢◌, ◌⊎◌, ℕ, ◌<◌, ◌≤◌, List, ◌∷◌, ◌++◌, length, map, take}
use Rattle.std.specs.Prelude.{Contains}
use Rattle.std.specs.IoError.{error_kind}
use Rattle.std.specs.declared.io.Error.{Error}
use Rattle.std.specs.declared.io.ErrorKind.TheVariants.{InvalidData, OutOfMemory}
use Rattle.messages.specs.declared.error.MessageError.{MessageError}
use Rattle.messages.specs.declared.error.MessageError.TheVariants as messages
use Rattle.tree.specs.declared.error.AddError.{AddError}
use Rattle.tree.specs.declared.error.AddError.TheVariants as adding
use Rattle.std.specs.declared.string.String.{String}
use Rattle.tree.specs.Tree.{Name, nothing, a_directory}
use Rattle.tree.specs.FlatTree.{FlatValue, standing_in}
use Rattle.worker.specs.declared.failure.FailureCause.{FailureCause}
use Rattle.worker.specs.declared.runner.RunError.{RunError}
use Rattle.worker.specs.declared.runner.RunError.TheVariants as children
use Rattle.processes.specs.declared.trouble.Trouble.{Trouble}
use Rattle.processes.specs.declared.trouble.Trouble.TheVariants.{Unread, NoOutput, Memory}
use Rattle.processes.specs.Workshop.{Works}
use Rattle.processes.specs.Collected.{IsContentAt, IsFolderAt, IsUnreadAt}
use Rattle.std.specs.List.{AllByRecursion}
use Rattle.messages.specs.Directory.{directory_bytes}
use Rattle.messages.specs.DirectoryRules.{DirectoryValue, IsDirectory}
use Rattle.messages.specs.Tree.{IsTree, TreeValue}
use Rattle.actions.specs.Outcome.{LeavesNoRoom, OutcomeValue}
use Rattle.worker.specs.Outcomes.{directories_of}

-- directories stand at a path and above it
abbrev pub HasAbove : FlatValue → List Name → Type 0
HasAbove entries path =
    (k : ℕ) → 0 < k → k ≤ length path → standing_in entries (take k path) ≡ a_directory

-- directories stand at a path and above it, and nothing below it
pub record IsBare (entries : FlatValue) (path : List Name) : Type 0 where
  pub above : HasAbove entries path
  pub none : (n : Name) (p : List Name) → standing_in entries (path ++ n ∷ p) ≡ nothing

-- What stands neither at a path, nor above or below it, is as it was.
abbrev pub LeavesOthers : List Name → FlatValue → FlatValue → Type 0
LeavesOthers path old new = (q : List Name)
    → ((n : Name) (p : List Name) → q ≢ path ++ n ∷ p)
    → ((k : ℕ) → k ≤ length path → q ≢ take k path)
    → standing_in new q ≡ standing_in old q

-- The folder at a place stands below a path of the tree, where nothing stood before. The blobs have
-- the contents of its files more.
pub record IsWalked {R C E : Type 0} (works : Works R C E) (ended : E) (place : List ℕ)
    (path : List Name) (old new : FlatValue) (before after : List (List ℕ)) : Type 0 where
  pub above : HasAbove new path
  pub others : LeavesOthers path old new
  pub more : List (List ℕ)
  pub blobs : after ≡ before ++ more
  pub folder : IsFolderAt works ended more place (λ q. standing_in new (path ++ q))
  pub only : (b : List ℕ) → Contains more b
      → IsContentAt works ended place (λ q. standing_in new (path ++ q)) b

-- ---- what a trouble is of

-- of a system's error: lack of memory, or that error
abbrev pub IsOfSystem : Error → Trouble → Type 0
IsOfSystem error t = ((error_kind error ≡ OutOfMemory) × (t ≡ Memory))
    ⊎ ((error_kind error ≢ OutOfMemory) × (t ≡ Unread error))

-- of what is no message, or no name or path
abbrev pub IsOfMessage : MessageError → Trouble → Type 0
IsOfMessage error t = ((error ≡ messages.Memory) × (t ≡ Memory))
    ⊎ ((error ≢ messages.Memory) × (t ≡ NoOutput))

-- of a path for which there was no room in a tree or an outcome
abbrev pub IsOfAdding : {A : Type 0} → AddError A → Trouble → Type 0
IsOfAdding adding.Memory t = t ≡ Memory
IsOfAdding (adding.Overlap path) t =
    (error : Error) × (error_kind error ≡ InvalidData) × (t ≡ Unread error)

-- what a trouble tells of an error, if it tells of one
abbrev pub TellsTrouble : (Error → Type 0) → Trouble → Type 0
TellsTrouble Fails (Unread error) = Fails error
TellsTrouble Fails t = Unit {0}

-- the error by which what stands at a place isn't added to an outcome, as the output of a path
abbrev pub IsUnreadOutput : {R C E : Type 0} → Works R C E → E → List ℕ → OutcomeValue → List Name
    → Error → Type 0
IsUnreadOutput works ended place o path error = IsUnreadAt works ended error place
    ⊎ ((error_kind error ≡ InvalidData) × LeavesNoRoom o path)

-- the bytes are the encodings of no Directories
abbrev pub AreOfNone : List (List ℕ) → Type 0
AreOfNone bs = (ds : List DirectoryValue) → AllByRecursion IsDirectory ds
    → map directory_bytes ds ≡ bs → ⊥

-- the bytes are the encodings of the Directories of no Tree
abbrev pub AreOfNoTree : List (List ℕ) → Type 0
AreOfNoTree bs = (m : TreeValue) → IsTree m → directories_of m ≡ bs → ⊥

-- the refusal of a program that failed by a cause, which is of this error of the system
abbrev pub IsFailedBy : {A : Type 0} → String A → Error → FailureCause → RunError A → Type 0
IsFailedBy program error cause r = ((error_kind error ≡ OutOfMemory) × (r ≡ children.Memory))
    ⊎ ((error_kind error ≢ OutOfMemory) × (r ≡ children.Device program cause))
